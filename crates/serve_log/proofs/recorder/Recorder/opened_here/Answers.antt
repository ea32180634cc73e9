use Rattle.proxy_core.specs.Events.{http_open}
use Rattle.attributes.specs.Conn.{conn_view}
use Rattle.serve_log.proofs.RecorderLemmas.{opens_by}
use Rattle.serve_log.proofs.recorder.Recorder.opened_here.Goals as goal

pub returns-clause-opens : goal.returns-clause-opens
returns-clause-opens g c =
    let connection = c.args.connection in
    opens_by g.F.File.Write.contents connection c.opened_in.result c.file-current.result c.is_some.result c.add-line.result
    c.args.self.now.open_files c.add-line.new.self c.file-current.ensures
    (c.add-line.ensures.takes (http_open connection.number (conn_view connection.facts)) c.opened_line-text.ensures)
    c.add-line.ensures.out c.is_some.ensures c.opened_in.ensures.same c.opened_in.ensures.there c.opened_in.ensures.lost
