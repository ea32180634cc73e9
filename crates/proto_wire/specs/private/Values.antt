-- Faults of known fields.
use Rattle.std.specs.Prelude.{◌≡◌, ◌⊎◌, List}
use Rattle.proto_wire.specs.Fields.{Wire}
use Rattle.proto_wire.specs.declared.refusal.Refusal.{Refusal}
use Rattle.proto_wire.specs.declared.refusal.Refusal.TheVariants.{Missing}

-- a fault of fields: a required field is absent, or a value has a fault
abbrev pub ValuesFault : (List Wire → Type 0) → (List Wire → Refusal → Type 0) → List Wire → Refusal
    → Type 0
ValuesFault Lacks Wrong fs e = (Lacks fs × (e ≡ Missing)) ⊎ Wrong fs e
