use Rattle.std.proofs.Common.{None, Some}
use Rattle.std.proofs.lemmas.List.{get_or-set_other, get_or-set_same}
use Rattle.serve_log.proofs.recorder.Recorder.put.Goals as goal

pub returns-clause-place : goal.returns-clause-place
returns-clause-place g c = λ below.
    rw c.put_into.ensures
    (get_or-set_same c.args.self.now.connections.items c.args.place (Some c.args.connection) None below)

pub returns-clause-others : goal.returns-clause-others
returns-clause-others g c = λ k other.
    rw c.put_into.ensures
    (get_or-set_other c.args.self.now.connections.items c.args.place k (Some c.args.connection) None other)
