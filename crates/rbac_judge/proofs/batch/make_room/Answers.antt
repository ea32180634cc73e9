use Rattle.std.proofs.Common.{append-nil, sym}
use Rattle.rbac_judge.proofs.BatchLemmas.{written_all}
use Rattle.rbac_judge.proofs.batch.make_room.Goals as goal

pub returns-clause-written : goal.returns-clause-written
returns-clause-written g c =
    written_all c.write_pending.result _ _ _ _ c.write_pending.ensures.written c.write_pending.ensures.none
