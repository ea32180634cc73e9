use Rattle.std.proofs.Common.{◌≡◌, map, take}
use Rattle.head_map.specs.Mappings.{facts_of}
use Rattle.head_map.proofs.mapping.facts_of.Given as goal

abbrev pub invariant-loop-one : goal.invariant-loop-one
invariant-loop-one l = map (λ name. name.now) l.names.items ≡ facts_of (take l.one-index l.named)
