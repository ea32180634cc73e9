-- Faults of a HeaderMap, by its payloads.
use Rattle.std.specs.Prelude.{◌≡◌, ℕ, Some, List, [], ◌∷◌, slice_get}
use Rattle.proto_wire.specs.Fields.{Wire}
use Rattle.proto_wire.specs.Merge.{Merges}
use Rattle.proto_wire.specs.Messages.{PartsFault}
use Rattle.proto_wire.specs.Values.{payloads}
use Rattle.proto_wire.specs.declared.refusal.Refusal.{Refusal}
use Rattle.check_request.specs.Numbers.{map_field}
use Rattle.check_request.specs.declared.part.CheckPart.{CheckPart}
use Rattle.check_request.specs.declared.part.CheckPart.TheVariants.{Header, HeaderMap}

-- one of the payloads is no HeaderValue
abbrev pub HeadersFault : List (List ℕ) → CheckPart → Refusal → Type 0
HeadersFault parts part e = (i : ℕ) × (header : List ℕ) × (slice_get parts i ≡ Some header)
    × (part ≡ Header i) × PartsFault (header ∷ []) e

-- the payloads are no HeaderMap
pub data MapFault (parts : List (List ℕ)) (part : CheckPart) (e : Refusal) : Type 0 where
  bad_map : part ≡ HeaderMap → PartsFault parts e → MapFault parts part e
  bad_value : (fs : List Wire) → Merges parts fs → HeadersFault (payloads map_field.headers fs) part e
      → MapFault parts part e
