-- The slots and locals that the verifier's values mean.
use Rattle.std.specs.Prelude.{ℕ, Bool, true, false, List, Option, map, option_map}
use Rattle.cel_value.specs.Types.{type_eq, type_view}
use Rattle.machine_code.specs.private.Places.{local_of}
use Rattle.machine_code.specs.Slots.{Slot, failing, of}
use Rattle.code_verifier.specs.declared.slot.Slot.{Slot as SlotOfCode}
use Rattle.code_verifier.specs.declared.slot.Slot.TheVariants as slots

-- the slot that the verifier's slot means
abbrev pub slot_view : SlotOfCode → Slot
slot_view slots.Failing = failing
slot_view (slots.Of t) = of (type_view t)

-- the slots that two of the verifier mean
abbrev pub both_view : SlotOfCode × SlotOfCode → Slot × Slot
both_view p = (slot_view p.0, slot_view p.1)

-- whether two slots are the same
abbrev pub slot_eq : Slot → Slot → Bool
slot_eq failing failing = true
slot_eq (of s) (of t) = type_eq s t
slot_eq _ _ = false

-- the slots of locals, by number
abbrev pub places_view : List (Option SlotOfCode) → List (Option Slot)
places_view = map (option_map slot_view)

-- the slot of a local, if it is known
abbrev pub locals_view : List (Option SlotOfCode) → ℕ → Option Slot
locals_view places = local_of (places_view places)
