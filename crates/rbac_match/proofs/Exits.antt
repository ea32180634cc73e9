-- What a `?` passes on: the lemmas of `proto_wire` on faults with a place.
use Rattle.std.proofs.Common.{Ok, Err, Result, IfErr}
pub use Rattle.proto_wire.proofs.PlaceExits.{exit_with, exit_known, exit_new, exit_memory_or, last_fault, exit_unplaced, Placed, placed_found, placed_fault, at_found, at_fault}

-- what holds in any case holds of an error
pub at_err : {T E P : Type 0} → (r : Result T E) → P → IfErr r (λ _. P)
at_err (Ok x) p = tt
at_err (Err e) p = p
