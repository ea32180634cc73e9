-- The text is the known names, the method and the target.
use Rattle.std.proofs.Common.{◌∙◌, ℕ, List, length, ap, ap₂}
use Rattle.std.proofs.lemmas.List.Elements.{All-nil}
use Rattle.attributes.specs.Draft.{DraftValue, first_draft}
use Rattle.attributes.specs.private.Drafts.{own_names}
use Rattle.attributes.specs.private.Parts.{Begins, IsField}
use Rattle.attributes.proofs.Drafts.{begins_whole}
use Rattle.attributes.proofs.Parts.{begins_trans, is_part_kept, part_kept}
use Rattle.attributes.proofs.draft.Draft.new.Goals as goal

pub invariant_of-result : goal.invariant_of-result
invariant_of-result c =
    let t : List ℕ = c.append.new.text.items in
    let u : List ℕ = c.append-2.new.text.items in
    let v : List ℕ = c.append-3.new.text.items in
    let later : Begins u v = c.in_ok-target.ensures.grown in
    let first : Begins own_names t =
    begins_whole t own_names c.in_ok-append.field-0
    (c.in_ok-append.ensures.place.0 ∙ ap length c.in_ok-text.ensures.items)
    c.in_ok-append.ensures.place.1 c.in_ok-append.ensures.part in
    record {
      names = begins_trans own_names t v first
          (begins_trans t u v c.in_ok-method.ensures.grown later);
      fields = rw c.in_ok-fields.ensures.items (All-nil (IsField v));
      method = is_part_kept u v later c.in_ok-method.method c.in_ok-method.ensures.part.part;
      target = c.in_ok-target.ensures.part.part;
    }

pub returns : goal.returns
returns c =
    let u : List ℕ = c.append-2.new.text.items in
    let v : List ℕ = c.append-3.new.text.items in
    let make : List ℕ → List ℕ → DraftValue = first_draft in
    rw c.in_ok-fields.ensures.items
    (ap₂ make (part_kept u v c.in_ok-target.ensures.grown c.in_ok-method.method
    c.in_ok-method.ensures.part.part ∙ c.in_ok-method.ensures.part.same)
    c.in_ok-target.ensures.part.same)
