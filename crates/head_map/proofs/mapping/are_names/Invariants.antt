use Rattle.std.proofs.Common.{◌≡◌, map, drop}
use Rattle.std.specs.List.{list_all}
use Rattle.head_map.specs.Mappings.{is_name}
use Rattle.head_map.proofs.mapping.are_names.Given as goal

abbrev pub invariant-loop-name : goal.invariant-loop-name
invariant-loop-name l =
    list_all is_name (map (λ name. name.now) l.names)
    ≡ list_all is_name (map (λ name. name.now) (drop l.name-index l.names))
