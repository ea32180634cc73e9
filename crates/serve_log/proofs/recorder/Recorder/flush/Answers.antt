use Rattle.std.proofs.Common.{inl}
use Rattle.serve_log.proofs.OpenLemmas.{goes_on_after}
use Rattle.serve_log.proofs.recorder.Recorder.flush.Goals as goal

pub returns-then-is_due-clause-current : goal.returns-then-is_due-clause-current
returns-then-is_due-clause-current g c =
    goes_on_after g.F.File.Write.contents c.args.self.now.updates c.args.self.now.open_files c.flush.new.self
    c.go_on_later.new.self.open_files c.flush.ensures.current
    c.flush.ensures.older c.go_on_later.ensures.current

pub returns-else-is_due-clause-current : goal.returns-else-is_due-clause-current
returns-else-is_due-clause-current g c = inl (c.flush.ensures.current, c.flush.ensures.older)
