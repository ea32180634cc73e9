-- A message whose fields must all be known: Protocol Buffers encoding guide, "Message Structure";
-- an unknown field is a fault here.
use Rattle.std.specs.Prelude.{◌≡◌, ℕ, List}
use Rattle.proto_wire.specs.Fields.{Wire, Fields}
use Rattle.proto_wire.specs.Keys.{AllKnown, SomeUnknown}
use Rattle.proto_wire.specs.Merge.{Merges, Breaks, SomeOf}
use Rattle.proto_wire.specs.declared.refusal.Refusal.{Refusal}
use Rattle.proto_wire.specs.declared.refusal.Refusal.TheVariants.{BadWire, UnknownField}
use Rattle.proto_wire.specs.declared.key.Key.{Key}

-- some payload is not a list of whole fields
abbrev pub PartsFault : List (List ℕ) → Refusal → Type 0
PartsFault parts e = Breaks parts × (e ≡ BadWire)

-- the payloads, joined in order, are these fields, and each field is known
abbrev pub IsMessage : List Key → List (List ℕ) → List Wire → Type 0
IsMessage keys parts fs = Merges parts fs × AllKnown keys fs

-- some payload is a list of whole fields of which one is not known; the other payloads do not
-- matter
abbrev pub HasUnknown : List Key → List (List ℕ) → Type 0
HasUnknown keys parts =
    SomeOf (λ part. (fs : List Wire) × Fields part fs × SomeUnknown keys fs) parts

-- some payload is not a list of whole fields, or some field is not known
pub data MessageFault (keys : List Key) (parts : List (List ℕ)) (e : Refusal) : Type 0 where
  not_whole : Breaks parts → e ≡ BadWire → MessageFault keys parts e
  not_known : HasUnknown keys parts → e ≡ UnknownField → MessageFault keys parts e
