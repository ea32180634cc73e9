-- The field has this name, and the value that was appended.
use Rattle.attributes.specs.private.Parts.{part_of}
use Rattle.attributes.proofs.Drafts.{at_kept, is_field_at}
use Rattle.attributes.proofs.Parts.{is_part_kept}
use Rattle.attributes.proofs.draft.push_field.Goals as goal

pub field_of-requires : goal.field_of-requires
field_of-requires c =
    rw c.as_slice.ensures.value
    (is_part_kept c.args.text.now.items c.append.new.text.items c.in_ok-value.ensures.grown
    c.args.name c.requires)

pub returns-clause-added : goal.returns-clause-added
returns-clause-added c =
    let t = c.args.text.now.items in
    let u = c.append.new.text.items in
    let f = c.field_of.result in
    let made = is_field_at u (part_of t c.args.name) c.args.value.now f
    (rw c.field_of.ensures.name (at_kept t u c.args.name c.in_ok-value.ensures.grown c.requires))
    (rw c.field_of.ensures.value c.in_ok-value.ensures.part) in
    (f, c.in_ok-push.ensures.items, made.0, made.1)
