-- None of the names so far is this one.
use Rattle.std.proofs.Common.{◌≡◌, map, take}
use Rattle.proto_wire.specs.Merge.{SomeOf}
use Rattle.program_texts.proofs.members.is_among.Given as goal

abbrev pub invariant-loop-known : goal.invariant-loop-known
invariant-loop-known l = SomeOf (λ n. n ≡ l.name) (map (λ n. n.now) (take l.known-index l.names)) → ⊥
