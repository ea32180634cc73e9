use Rattle.std.proofs.Common.{◌≡◌, ◌≤◌, ◌-◌, drop}
use Rattle.std.specs.Prelude.{slice_get}
use Rattle.proto_wire.specs.Places.{steps_in}
use Rattle.proto_wire.proofs.place.Place.step.Given as goal

abbrev pub invariant-loop-place : goal.invariant-loop-place
invariant-loop-place l =
    (l.place ≤ l.index)
    × (slice_get (steps_in (drop l.place l.self.steps)) (l.index - l.place)
    ≡ slice_get (steps_in l.self.steps) l.index)
