-- The fields are the first and the others, or there are none.
use Rattle.std.proofs.Common.{◌≡◌, ◌∷◌, [], sym, arith}
use Rattle.std.proofs.lemmas.Grind.{common_steps}
use Rattle.std.proofs.lemmas.List.{nil_from_length}
use Rattle.std.proofs.lemmas.List.Elements.{All-head, All-tail}
use Rattle.attributes.specs.private.Parts.{IsField}
use Rattle.attributes.proofs.Neighbours.{headers_nil}
use Rattle.attributes.proofs.headers.are_distinct.Goals as goal

pub are_distinct_from-requires-clause-first : goal.are_distinct_from-requires-clause-first
are_distinct_from-requires-clause-first c =
    let whole : c.args.fields.now ≡ c.in-Some.first.now ∷ c.in-Some.others.now =
    c.in-Some.ensures.cases.0 in
    All-head (IsField c.args.text.now) c.in-Some.first.now c.in-Some.others.now
    (rw whole at c.requires.parts)

pub are_distinct_from-requires-clause-others : goal.are_distinct_from-requires-clause-others
are_distinct_from-requires-clause-others c =
    let whole : c.args.fields.now ≡ c.in-Some.first.now ∷ c.in-Some.others.now =
    c.in-Some.ensures.cases.0 in
    All-tail (IsField c.args.text.now) c.in-Some.first.now c.in-Some.others.now
    (rw whole at c.requires.parts)

pub returns-in-None : goal.returns-in-None
returns-in-None c =
    let none : c.args.fields.now ≡ [] = nil_from_length _ (grind (arith, common_steps)) in
    rw none (sym headers_nil)
