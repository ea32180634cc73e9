-- `size` charges for one operand alone.
use Rattle.std.proofs.Common.{◌≡◌, List, [], ◌∷◌, refl}
use Rattle.cel_ops.specs.declared.operation.Operation.TheVariants as operations
use Rattle.cel_overload.specs.declared.overload.Overload.TheVariants as overloads
use Rattle.cel_value.specs.Types.{ValueType}
use Rattle.cel_costs.specs.Costs.{charge_at}
use Rattle.cel_costs.specs.Sizes.{Size}

pub no_count_two : (ts : List ValueType) (s t : Size)
    → charge_at (overloads.Operate operations.Size) ts (s ∷ t ∷ []) ≡ 1
no_count_two [] s t = refl
no_count_two (k ∷ []) s t = refl
no_count_two (k ∷ j ∷ ts) s t = refl
