-- The first value ends the text, and a comma and the second are appended.
use Rattle.std.proofs.Common.{◌≡◌, ◌≤◌, ◌++◌, ◌∷◌, ◌∙◌, [], ℕ, List, length, ap, arith, length-append}
use Rattle.std.proofs.lemmas.Grind.{common_steps}
use Rattle.attributes.specs.private.Parts.{part_of}
use Rattle.attributes.proofs.Parts.{at_end, begins_more, joined_end, joined_utf8, part_kept}
use Rattle.attributes.proofs.part.join_values.Goals as goal

pub returns-clause-part : goal.returns-clause-part
returns-clause-part c =
    let t : List ℕ = c.args.text.now.items in
    let u : List ℕ = c.move_to_end.new.text.items in
    let v : List ℕ = part_of t c.args.value in
    let w : List ℕ = part_of t c.args.more in
    let comma : List ℕ = 44 ∷ [] in
    let whole : c.extend_from_within.new.self.items ≡ (u ++ comma) ++ w =
    c.in_ok-extend_from_within.ensures.items
    ∙ rw c.in_ok-push.ensures.items
    (ap (λ last. (u ++ comma) ++ last)
    (part_kept t (u ++ comma) (begins_more t u comma c.in_ok-from.ensures.grown)
    c.args.more c.requires.more)) in
    let ends : c.len.result ≡ length c.extend_from_within.new.self.items =
    grind (arith, common_steps) in
    let fits = c.in_ok-from.ensures.within in
    let long = length-append (u ++ comma) w in
    let longer = length-append u comma in
    let room : c.in_ok-from.from ≤ length ((u ++ comma) ++ w) = omega (arith, fits, long, longer) in
    rw whole (at_end ((u ++ comma) ++ w) (v ++ 44 ∷ w) (record { from = c.in_ok-from.from; to = c.len.result })
    (ends ∙ ap length whole) room
    (joined_end u v w c.in_ok-from.from fits c.in_ok-from.ensures.end)
    (joined_utf8 v w c.requires.value.utf8 c.requires.more.utf8))
