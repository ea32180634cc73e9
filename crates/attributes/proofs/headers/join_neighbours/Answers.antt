-- The first field is the last one at first, and the others are joined to it.
use Rattle.std.proofs.Common.{◌≡◌, ◌∙◌, [], ◌∷◌, arith, sym}
use Rattle.std.proofs.lemmas.List.{map-append, nil_from_length}
use Rattle.std.proofs.lemmas.Grind.{common_steps}
use Rattle.std.proofs.lemmas.List.Elements.{All-head, All-push, All-tail}
use Rattle.attributes.specs.private.Parts.{IsField, entry_in}
use Rattle.attributes.proofs.Neighbours.{headers_nil, headers_one}
use Rattle.attributes.proofs.headers.join_neighbours.Goals as goal

pub returns-in_default-clause-joined : goal.returns-in_default-clause-joined
returns-in_default-clause-joined c =
    let none : c.args.fields.now ≡ [] = nil_from_length _ (grind (arith, common_steps)) in
    rw (c.in_ok-joined.ensures.items, none) (sym headers_nil)

pub join_others-requires-clause-last : goal.join_others-requires-clause-last
join_others-requires-clause-last c =
    let whole : c.args.fields.now ≡ c.in-Some.first.now ∷ c.in-Some.others.now =
    c.in-Some.ensures.cases.0 in
    All-head (IsField c.args.text.now.items) c.in-Some.first.now c.in-Some.others.now
    (rw whole at c.requires.parts)

pub join_others-requires-clause-others : goal.join_others-requires-clause-others
join_others-requires-clause-others c =
    let whole : c.args.fields.now ≡ c.in-Some.first.now ∷ c.in-Some.others.now =
    c.in-Some.ensures.cases.0 in
    All-tail (IsField c.args.text.now.items) c.in-Some.first.now c.in-Some.others.now
    (rw whole at c.requires.parts)

pub returns-clause-parts : goal.returns-clause-parts
returns-clause-parts c =
    rw c.in_ok-push.ensures.items
    (All-push (IsField c.join_others.new.text.items) c.join_others.new.joined.items
    c.join_others.new.last c.in_ok-join_others.ensures.parts c.in_ok-join_others.ensures.last)

pub returns-clause-joined : goal.returns-clause-joined
returns-clause-joined c =
    let t = c.args.text.now.items in
    let u = c.join_others.new.text.items in
    let first = c.in-Some.first.now in
    let whole : c.args.fields.now ≡ first ∷ c.in-Some.others.now = c.in-Some.ensures.cases.0 in
    rw (c.in_ok-push.ensures.items, whole)
    (map-append (entry_in u) c.join_others.new.joined.items (c.join_others.new.last ∷ [])
    ∙ c.in_ok-join_others.ensures.joined (entry_in t first ∷ [])
    (rw c.in_ok-joined.ensures.items (headers_one (entry_in t first))))
