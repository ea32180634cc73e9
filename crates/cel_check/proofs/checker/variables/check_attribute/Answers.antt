use Rattle.std.proofs.Common.{◌≡◌, inl, inr, option_map, refl, ap, to_z, of_z, to_z-of_z, w64}
use Rattle.cel_ops.specs.Attributes.{attribute_type}
use Rattle.cel_value.specs.Texts.{text_view}
use Rattle.proto_wire.proofs.Readers.{exit_fault}
use Rattle.cel_types.specs.TypingFaults.{SelectFault}
use Rattle.cel_check.proofs.checker.variables.check_attribute.Goals as goal

pub returns-in_err-attribute-clause-fault : goal.returns-in_err-attribute-clause-fault
returns-in_err-attribute-clause-fault c =
    let bad = rw (c.deref.ensures, c.in_ok-name.ensures, c.as_str.ensures.value, c.as_str-2.ensures.value)
    at c.in_err-attribute.ensures.fault in
    exit_fault _ c.from_residual-in_err-attribute.result _ c.from_residual-in_err-attribute.ensures.1
    (elim bad.0 [
      | inl none ↦ SelectFault.unknown (text_view c.args.root.now) refl none bad.1
      | inr asked ↦ SelectFault.asked (text_view c.args.root.now) refl asked bad.1
    ])

pub returns-in_err-require_reference-clause-fault : goal.returns-in_err-require_reference-clause-fault
returns-in_err-require_reference-clause-fault c =
    let named = rw (c.deref.ensures, c.in_ok-name.ensures, c.as_str.ensures.value, c.as_str-2.ensures.value)
    at c.in_ok-attribute.ensures.found in
    let same : to_z w64 (of_z w64 c.args.id) ≡ c.args.id = to_z-of_z c.ranges.id in
    let bad = rw (
      c.get.ensures,
      same,
      c.deref-2.ensures,
      c.in_ok-name.ensures,
      c.as_str.ensures.value,
      c.as_str-2.ensures.value,
    ) at c.in_err-require_reference.ensures.fault in
    exit_fault _ c.from_residual-in_err-require_reference.result _
    c.from_residual-in_err-require_reference.ensures.1
    (SelectFault.other_reference (text_view c.args.root.now) (attribute_type c.in_ok-attribute.attribute)
    refl named.0 (ap (option_map attribute_type) named.1) bad.0 bad.1)
