use Rattle.std.proofs.Common.{List, inl, inr, subst}
use Rattle.std.proofs.lemmas.Result.{IfErr-weaker, IfOk-weaker}
use Rattle.program_jobs.specs.Jobs.{IsResponseWith}
use Rattle.program_jobs.proofs.SnapshotLemmas.{one_message}
use Rattle.program_jobs.proofs.snapshots.snapshot_in.Goals as goal

pub returns-clause-found : goal.returns-clause-found
returns-clause-found c =
    IfOk-weaker c.snapshot_of.result _ _ (λ s with. (c.message_in.result.now, c.message_in.ensures, with))
    c.snapshot_of.ensures.found

pub returns-clause-fault : goal.returns-clause-fault
returns-clause-fault c =
    IfErr-weaker c.snapshot_of.result _ _
    (λ e reported. elim reported [
      | inl memory ↦ inl memory
      | inr none ↦ inr (λ snapshot held. none snapshot
          (subst (λ m. IsResponseWith m snapshot)
          (one_message c.args.bytes.now held.0 c.message_in.result.now held.1 c.message_in.ensures) held.2))
    ])
    c.snapshot_of.ensures.fault
