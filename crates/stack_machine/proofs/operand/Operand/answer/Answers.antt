use Rattle.std.proofs.Common.{refl, sym, ap, ◌∙◌}
use Rattle.cel_value.specs.Values.{map_of, value}
use Rattle.cel_value.proofs.Views.{view_map, view_entries, view_texts}
use Rattle.cel_ops.specs.Attributes.{header_entries}
use Rattle.machine_code.proofs.KeptAttributes.{seen_pairs}
use Rattle.stack_machine.proofs.operand.Operand.answer.Goals as goal

pub returns-in_ok-to_pairs-in-Headers : goal.returns-in_ok-to_pairs-in-Headers
returns-in_ok-to_pairs-in-Headers c =
    let copy = c.in_ok-to_pairs-in-Headers.field-0 in
    rw (c.in-Headers.is, view_map _, view_texts copy)
    (ap (λ es. value (map_of es))
    (sym (seen_pairs copy.value.items) ∙ ap header_entries c.in_ok-to_pairs-in-Headers.ensures))

pub returns-in_ok-clone-in-Entries : goal.returns-in_ok-clone-in-Entries
returns-in_ok-clone-in-Entries c =
    let copy = c.in_ok-clone-in-Entries.field-0 in
    rw (c.in-Entries.is, view_map _, view_entries copy, c.in_ok-clone-in-Entries.ensures.cases) refl
