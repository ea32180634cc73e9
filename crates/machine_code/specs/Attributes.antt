-- The slots that attributes leave on the stack.
use Rattle.attributes.specs.declared.attribute.AttrId.{AttrId}
use Rattle.cel_ops.specs.Attributes.{attribute_type}
use Rattle.machine_code.specs.Slots.{Slot, of}

-- the slot that an attribute leaves
abbrev pub attribute_slot : AttrId → Slot
attribute_slot a = of (attribute_type a)
