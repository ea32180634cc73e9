-- The slots of a map literal's keys and values.
use Rattle.machine_code.specs.Slots.{Slot}
use Rattle.code_verifier.specs.declared.literals.Pair.{Pair}
use Rattle.code_verifier.specs.private.SlotView.{slot_view}

-- the slots of a key and its value
abbrev pub pair_view : Pair → Slot × Slot
pair_view p = (slot_view p.key, slot_view p.value)
