-- Tests of a request's path: Envoy v3 `type/matcher/v3/path.proto`, PathMatcher.
use Rattle.std.specs.Prelude.{◌≡◌, ℕ, List, [], ◌∷◌, Some}
use Rattle.proto_wire.specs.Reading.{Reads, ReadFault, IsOptional, OptionalFault}
use Rattle.proto_wire.specs.Values.{payloads}
use Rattle.proto_wire.specs.declared.refusal.Refusal.{Refusal}
use Rattle.proto_wire.specs.declared.key.Key.{Key}
use Rattle.proto_wire.specs.Keys.{len_key}
use Rattle.rbac_match.specs.Text.{TextTest, IsTextMatcher, TextFault}

-- the number of the field of a PathMatcher (`type.matcher.v3.PathMatcher`)
abbrev pub path_field : record { path : ℕ }
path_field = record { path = 1 }

-- the fields of a PathMatcher
abbrev pub path_keys : List Key
path_keys = len_key path_field.path ∷ []

-- the payloads merge to a PathMatcher whose path means the test
abbrev pub IsPathMatcher : List (List ℕ) → TextTest → Type 0
IsPathMatcher =
    Reads path_keys (λ fs test. IsOptional IsTextMatcher path_field.path fs (Some test))

-- a fault of a PathMatcher: in its fields, that it has no path, or in its path
abbrev pub PathFault : List (List ℕ) → Refusal → Type 0
PathFault = ReadFault path_keys (λ fs. payloads path_field.path fs ≡ [])
    (OptionalFault TextFault path_field.path)
