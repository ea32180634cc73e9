-- Attributes leave what their slots may hold, and headers are seen as they are kept.
use Rattle.std.proofs.Common.{◌≡◌, IsTrue, List, Some, ap}
use Rattle.std.specs.FinMap.{entries, entries-from_sorted, from_sorted, is_sorted}
use Rattle.attributes.specs.Headers.{Entry, name_cmp}
use Rattle.attributes.specs.Request.{IsRequest, RequestValue}
use Rattle.attributes.specs.declared.attribute.AttrId.{AttrId}
use Rattle.attributes.proofs.TextOrder.{t_from_true}
use Rattle.cel_value.specs.Types.{AnswerHasType, ValueType}
use Rattle.cel_value.specs.Values.{CelAnswer, fails, value}
use Rattle.cel_ops.specs.Attributes.{attribute, attribute_type, header_entries}
use Rattle.cel_ops.proofs.AttributeTypes.{attribute_typed_fact}
use Rattle.machine_code.specs.Attributes.{attribute_slot}
use Rattle.machine_code.specs.Slots.{Slot, of}
use Rattle.machine_code.specs.private.Holding.{MayHold}
use Rattle.machine_code.proofs.Asked.{Gives, some_is}
pub use Rattle.cel_ops.proofs.AttributeTypes.{seen_pairs}

-- ---- headers as they are kept

-- where they stand by ascending name, they are the map that they are seen as
pub seen_headers : (es : List Entry) → IsTrue (is_sorted name_cmp es)
    → header_entries (entries (from_sorted {R = name_cmp} es)) ≡ header_entries es
seen_headers es sorted = ap header_entries (entries-from_sorted name_cmp es (t_from_true _ sorted))

-- ---- attributes

-- an answer of a type is what the type's slot may hold
held : (t : ValueType) (a : CelAnswer) → AnswerHasType a t → MayHold (of t) a
held t (value v) h = h
held t (fails e) h = tt

pub attribute_typed : (request : RequestValue) → IsRequest request → (a : AttrId) (r : Slot)
    → Some (attribute_slot a) ≡ Some r → Gives (Some (attribute request a)) r
attribute_typed request sound a r e =
    rw (← some_is (attribute_slot a) r e)
    (held (attribute_type a) (attribute request a) (attribute_typed_fact request sound a))
