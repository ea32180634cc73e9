use Rattle.std.proofs.Common.{◌∷◌, [], sym}
use Rattle.proxy_core.specs.Events.{http_closed}
use Rattle.serve_log.proofs.RecorderLemmas.{ends_by, ends_none}
use Rattle.serve_log.proofs.recorder.Recorder.closed.Goals as goal

pub returns-in-Some-clause-adds : goal.returns-in-Some-clause-adds
returns-in-Some-clause-adds g c =
    ends_by g.F.File.Write.contents _ c.in-Some.connection c.args.self.now.open_files c.take.new.self.open_files _
    c.take.ensures.nothing (c.add.ensures.takes (http_closed c.in-Some.connection.number) c.closed_line-line.ensures)
    (sym c.in-Some.ensures.found)

pub returns-in-None-clause-adds : goal.returns-in-None-clause-adds
returns-in-None-clause-adds g c =
    ends_none g.F.File.Write.contents _ c.args.self.now.open_files _ c.take.ensures.nothing (sym c.in-None.ensures.found)
