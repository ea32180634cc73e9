-- The field is added, or the draft is as it was, in a longer text.
use Rattle.std.proofs.Common.{ℕ, List}
use Rattle.attributes.specs.private.Parts.{Begins, part_of}
use Rattle.attributes.proofs.Drafts.{draft_either, draft_more, value_either}
use Rattle.attributes.proofs.Parts.{begins_trans}
use Rattle.attributes.proofs.draft.Draft.add_line.Goals as goal

pub invariant_of-self : goal.invariant_of-self
invariant_of-self c =
    draft_more c.self.inside.text.items c.add_name.new.text.items c.self.inside.fields.items
    c.self.inside.method c.self.inside.target c.self.invariant c.add_name.ensures.grown

pub invariant_of-self-2 : goal.invariant_of-self-2
invariant_of-self-2 c =
    let t : List ℕ = c.self.inside.text.items in
    let u : List ℕ = c.add_name.new.text.items in
    let v : List ℕ = c.push_field.new.text.items in
    let grown : Begins t v =
    begins_trans t u v c.in_ok-name.ensures.grown c.push_field.ensures.grown in
    draft_either t v c.self.inside.fields.items c.push_field.new.fields.items c.self.inside.method
    c.self.inside.target (part_of u c.in_ok-name.name, c.args.value.now) c.self.invariant grown
    c.push_field.result c.push_field.ensures.added

pub returns : goal.returns
returns c =
    let t : List ℕ = c.self.inside.text.items in
    let u : List ℕ = c.add_name.new.text.items in
    let v : List ℕ = c.push_field.new.text.items in
    let grown : Begins t v =
    begins_trans t u v c.in_ok-name.ensures.grown c.push_field.ensures.grown in
    rw (← c.self.view_is, ← c.in_ok-name.ensures.part.same)
    (value_either t v c.self.inside.fields.items c.push_field.new.fields.items c.self.inside.method
    c.self.inside.target (part_of u c.in_ok-name.name, c.args.value.now) c.self.invariant grown
    c.push_field.result c.push_field.ensures.added)
