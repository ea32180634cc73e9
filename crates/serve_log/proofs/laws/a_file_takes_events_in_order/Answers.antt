use Rattle.serve_log.proofs.FileLemmas.{takes_then}
use Rattle.serve_log.proofs.laws.a_file_takes_events_in_order.Goals as goal

pub returns : goal.returns
returns g c = λ old between new first more lost also h k.
    takes_then g.W.Write.contents old between new first more lost also h k
