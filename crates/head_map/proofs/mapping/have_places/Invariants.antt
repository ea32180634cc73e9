use Rattle.std.proofs.Common.{◌≡◌, drop}
use Rattle.std.specs.List.{list_all}
use Rattle.head_map.specs.Mappings.{has_place}
use Rattle.head_map.proofs.mapping.have_places.Given as goal

abbrev pub invariant-loop-one : goal.invariant-loop-one
invariant-loop-one l =
    list_all (λ one. has_place one.fact) l.named ≡ list_all (λ one. has_place one.fact) (drop l.one-index l.named)
