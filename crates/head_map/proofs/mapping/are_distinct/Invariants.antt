use Rattle.std.proofs.Common.{◌≡◌, map, length}
use Rattle.head_map.specs.Mappings.{is_distinct}
use Rattle.head_map.proofs.mapping.are_distinct.Given as goal

abbrev pub invariant-loop-rest : goal.invariant-loop-rest
invariant-loop-rest l =
    is_distinct (map (λ name. name.now) l.fn.names) ≡ is_distinct (map (λ name. name.now) l.rest)

abbrev pub decreases-loop-rest : goal.decreases-loop-rest
decreases-loop-rest l = length l.rest
