-- A text and a zero, written into a room.
use Rattle.std.proofs.Common.{◌≡◌, ◌∙◌, ◌+◌, ◌-◌, ◌<◌, ◌≤◌, ℕ, suc, List, ◌∷◌, ◌++◌, ap, ap₂, arith, drop, length, length-append, slice_set, sym, take}
use Rattle.std.proofs.lemmas.List.{drop-drop, drop_at, length-drop, length-take-le, set_split, take_at}

-- a zero after the text, where the rest of the room begins
pub text_written : (text room : List ℕ) (count : ℕ) → count ≤ length text → count < length room
    → slice_set (take count text ++ drop count room) count 0 ≡ take count text ++ 0 ∷ drop (count + 1) room
text_written text room count within inside =
    let front : List ℕ = take count text in
    let back : List ℕ = drop count room in
    let long : length front ≡ count = length-take-le count text within in
    let rest : length back ≡ length room - count = length-drop count room in
    let both : length (front ++ back) ≡ length front + length back = length-append front back in
    let next : suc count ≡ count + 1 = omega arith in
    set_split (front ++ back) count 0 (omega (arith, long, rest, both, inside))
    ∙ ap₂ (λ (a b : List ℕ). a ++ 0 ∷ b) (take_at front back count long)
    (ap (λ n. drop n (front ++ back)) next ∙ sym (drop-drop 1 count (front ++ back))
    ∙ ap (drop 1) (drop_at front back count long) ∙ drop-drop 1 count room)
