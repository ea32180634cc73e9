use Rattle.std.proofs.Common.{◌≡◌, ◌∙◌, refl, arith, to_z, of_z, to_z-of_z, w32}
use Rattle.vupresal_c.specs.declared.fault.Fault.TheVariants.{Empty}
use Rattle.vupresal_c.proofs.cause.vupresal_cause_of_parts.Goals as goal

pub returns-in_default-clause-fault : goal.returns-in_default-clause-fault
returns-in_default-clause-fault c =
    let same : to_z w32 (of_z w32 c.status.result) ≡ c.status.result = grind (arith, to_z-of_z) in
    λ _. (Empty, rw c.in_default.ensures.taken refl, same ∙ c.status.ensures.value, rw c.none.ensures refl)
