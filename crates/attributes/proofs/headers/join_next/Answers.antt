-- The field is joined to the last one, or follows it.
use Rattle.std.proofs.Common.{◌≡◌, ◌∙◌, false, refl, sym}
use Rattle.std.specs.Str.{bytes_eq}
use Rattle.attributes.specs.private.Parts.{part_of}
use Rattle.attributes.proofs.JoinSteps.{joined_entries, joined_field, joined_name, next_entries}
use Rattle.attributes.proofs.Parts.{are_fields_kept}
use Rattle.attributes.proofs.TextOrder.{same_from_test}
use Rattle.attributes.proofs.headers.join_next.Goals as goal

pub returns-in_ok-last-clause-parts : goal.returns-in_ok-last-clause-parts
returns-in_ok-last-clause-parts c =
    are_fields_kept c.args.text.now.items c.join_values.new.text.items c.in_ok-last.ensures.grown
    c.args.joined.now.items c.requires.parts

pub returns-in_ok-last-clause-last : goal.returns-in_ok-last-clause-last
returns-in_ok-last-clause-last c =
    joined_field c.args.text.now.items c.join_values.new.text.items c.in_ok-last.ensures.grown
    c.args.joined.now.items c.args.last.now c.args.next (record {
      start = c.args.last.now.start;
      name = c.args.last.now.name;
      value = c.in_ok-last.field-0;
    }) c.requires.parts c.requires.last (same_from_test _ _ (sym (rw c.as_slice.ensures.value at c.has_name.ensures) ∙ c.if-has_name.true))
    refl c.in_ok-last.ensures.part

pub returns-in_ok-last-clause-name : goal.returns-in_ok-last-clause-name
returns-in_ok-last-clause-name c =
    joined_name c.args.text.now.items c.join_values.new.text.items c.in_ok-last.ensures.grown
    c.args.joined.now.items c.args.last.now c.args.next (record {
      start = c.args.last.now.start;
      name = c.args.last.now.name;
      value = c.in_ok-last.field-0;
    }) c.requires.parts c.requires.last (same_from_test _ _ (sym (rw c.as_slice.ensures.value at c.has_name.ensures) ∙ c.if-has_name.true))
    refl c.in_ok-last.ensures.part

pub returns-in_ok-last-clause-joined : goal.returns-in_ok-last-clause-joined
returns-in_ok-last-clause-joined c =
    joined_entries c.args.text.now.items c.join_values.new.text.items c.in_ok-last.ensures.grown
    c.args.joined.now.items c.args.last.now c.args.next (record {
      start = c.args.last.now.start;
      name = c.args.last.now.name;
      value = c.in_ok-last.field-0;
    }) c.requires.parts c.requires.last (same_from_test _ _ (sym (rw c.as_slice.ensures.value at c.has_name.ensures) ∙ c.if-has_name.true))
    refl c.in_ok-last.ensures.part

pub returns-in_ok-push-clause-joined : goal.returns-in_ok-push-clause-joined
returns-in_ok-push-clause-joined c =
    let t = c.args.text.now.items in
    let differ : bytes_eq (part_of t c.args.next.name) (part_of t c.args.last.now.name) ≡ false =
    sym (rw c.as_slice.ensures.value at c.has_name.ensures) ∙ c.if-has_name.false in
    λ es so_far. rw (c.in_ok-push.ensures.items, c.replace.ensures.value, c.replace.ensures.after)
    (next_entries t c.args.joined.now.items c.args.last.now c.args.next c.requires.ordered differ es
    so_far)
