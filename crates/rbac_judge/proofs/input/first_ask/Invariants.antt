-- The front has what was read, which is gone from the input, and each read was needed.
use Rattle.std.proofs.Common.{◌≡◌, ℕ, List}
use Rattle.std.specs.Io.KnownBytes.{Consumes}
use Rattle.rbac_judge.specs.private.Reading.{IsJustEnough}
use Rattle.rbac_judge.proofs.InputLemmas.{front_with}
use Rattle.rbac_judge.proofs.input.first_ask.Given as goal

abbrev pub invariant-loop : goal.invariant-loop
invariant-loop g l = (bytes : List ℕ) × (l.front ≡ front_with l.fn.front.limits l.fn.front.facts bytes)
    × Consumes (g.R.Read.remaining l.fn.input) (g.R.Read.remaining l.input) bytes × IsJustEnough bytes
