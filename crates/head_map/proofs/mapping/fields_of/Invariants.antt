use Rattle.std.proofs.Common.{◌≡◌, ◌++◌, map, take}
use Rattle.std.specs.String.{string_bytes}
use Rattle.head_map.proofs.mapping.fields_of.Given as goal

abbrev pub invariant-loop-one : goal.invariant-loop-one
invariant-loop-one l =
    map (λ name. name.now) l.names.items ≡ map (λ one. string_bytes one.field) (take l.one-index l.named)

abbrev pub invariant-loop-name : goal.invariant-loop-name
invariant-loop-name l =
    map (λ name. name.now) l.names.items
    ≡ map (λ one. string_bytes one.field) l.named ++ map string_bytes (take l.name-index l.required)
