use Rattle.std.proofs.Common.{◌≡◌, ◌∙◌, inr, refl, arith, to_z, of_z, to_z-of_z, w32}
use Rattle.vupresal_c.specs.Settings.{AreOutOfRange}
use Rattle.vupresal_c.specs.declared.fault.Fault.TheVariants.{OutOfRange}
use Rattle.vupresal_c.proofs.starting.vupresal_proxy_new.Goals as goal

pub returns-then-are_too_long-clause-fault : goal.returns-then-are_too_long-clause-fault
returns-then-are_too_long-clause-fault c =
    let same : to_z w32 (of_z w32 c.status.result) ≡ c.status.result = grind (arith, to_z-of_z) in
    λ _. (
      OutOfRange,
      inr (refl, AreOutOfRange.lengths (rw c.are_too_long.ensures at c.if-are_too_long.true)),
      same ∙ c.status.ensures.value,
    )
