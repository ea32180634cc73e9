-- The places so far are those of the filters so far.
use Rattle.std.proofs.Common.{◌≡◌, take}
use Rattle.serve_observe.specs.Places.{places_from}
use Rattle.serve_observe.proofs.responses.places_of.Given as goal

abbrev pub invariant-loop-place : goal.invariant-loop-place
invariant-loop-place l = l.places.items ≡ places_from 0 (take l.place l.given)
