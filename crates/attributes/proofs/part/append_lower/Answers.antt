-- What was appended last is in lower case.
use Rattle.std.proofs.Common.{◌≡◌, ◌++◌, ◌∙◌, ℕ, List, length, map, sym, ap, take, drop}
use Rattle.std.proofs.Math.Seq.{take-append_seam}
use Rattle.std.specs.Char.{to_ascii_lowercase}
use Rattle.attributes.proofs.Parts.{begins_append, lowered_at, lowered_end}
use Rattle.attributes.proofs.part.append_lower.Goals as goal

pub returns-clause-grown : goal.returns-clause-grown
returns-clause-grown c =
    let t : List ℕ = c.args.text.now.items in
    let u : List ℕ = c.append.new.text.items in
    let more : List ℕ = c.args.more.now in
    let lower : List ℕ = c.lower_from.new.text in
    let long : c.append.new.text.len ≡ length lower =
    sym (c.lower_from.auto.text ∙ c.as_mut_slice.ensures.len) in
    let back : take c.append.new.text.len (lower ++ drop (length lower) u) ≡ lower =
    ap (λ n. take n (lower ++ drop (length lower) u)) long
    ∙ take-append_seam lower (drop (length lower) u) in
    let whole : lower ≡ t ++ map to_ascii_lowercase more =
    rw c.as_mut_slice.ensures.value at c.lower_from.ensures
    ∙ lowered_end t u more c.in_ok-part.part c.in_ok-part.ensures.grown c.in_ok-part.ensures.part
    c.in_ok-part.ensures.place.0 c.in_ok-part.ensures.place.1 in
    rw (back, whole) (begins_append t (map to_ascii_lowercase more))

pub returns-clause-part : goal.returns-clause-part
returns-clause-part c =
    let t : List ℕ = c.args.text.now.items in
    let u : List ℕ = c.append.new.text.items in
    let more : List ℕ = c.args.more.now in
    let lower : List ℕ = c.lower_from.new.text in
    let long : c.append.new.text.len ≡ length lower =
    sym (c.lower_from.auto.text ∙ c.as_mut_slice.ensures.len) in
    let back : take c.append.new.text.len (lower ++ drop (length lower) u) ≡ lower =
    ap (λ n. take n (lower ++ drop (length lower) u)) long
    ∙ take-append_seam lower (drop (length lower) u) in
    let whole : lower ≡ t ++ map to_ascii_lowercase more =
    rw c.as_mut_slice.ensures.value at c.lower_from.ensures
    ∙ lowered_end t u more c.in_ok-part.part c.in_ok-part.ensures.grown c.in_ok-part.ensures.part
    c.in_ok-part.ensures.place.0 c.in_ok-part.ensures.place.1 in
    rw (back, whole) (lowered_at t u more c.in_ok-part.part c.in_ok-part.ensures.grown
    c.in_ok-part.ensures.part c.in_ok-part.ensures.place.0 c.in_ok-part.ensures.place.1 c.requires)
