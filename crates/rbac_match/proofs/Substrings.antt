-- How the searches of the code answer the tests of a text.
use Rattle.std.proofs.Common.{◌≡◌, ℕ, zero, suc, ◌+◌, ◌-◌, ◌≤◌, Bool, true, ◌||◌, nat_eq, List, [], ◌∷◌, length, take, drop, take_all, Option, Some, None, inl, inr, sym, ap, ◌∙◌, arith}
use Rattle.std.specs.Bool.{Decides}
use Rattle.std.specs.Option.{is_some}
use Rattle.std.specs.List.{starts_with, ends_with, slice_index}
use Rattle.std.specs.Str.{str_to_ascii_lowercase}
use Rattle.std.specs.Char.{to_ascii_lowercase}
use Rattle.std.proofs.lemmas.Bool.{cases_Bool}
use Rattle.std.proofs.lemmas.Bool.Decides.{same_from_decides}
use Rattle.std.proofs.lemmas.List.{length-map, length-take, length-drop, take-map, drop-map}
use Rattle.std.proofs.lemmas.Slice.Eq.{bytes_eq-Decides}
use Rattle.memchr.specs.Find.{OccursAt, FindsNeedle}
use Rattle.memchr.proofs.lemmas.MatchLemmas.{OccursAt-part, OccursAt-from_part}
use Rattle.rbac_match.specs.Text.{is_substring}

-- bytes begin with a part where their first ones are the part
pub starts_decides : (bytes part : List ℕ)
    → Decides (starts_with nat_eq bytes part) (take (length part) bytes ≡ part)
starts_decides bytes part =
    let d = bytes_eq-Decides part (take (length part) bytes) in (λ t. sym (d.0 t), λ e. d.1 (sym e))

-- and end with it where their last ones are
pub ends_decides : (bytes part : List ℕ)
    → Decides (ends_with nat_eq bytes part) (drop (length bytes - length part) bytes ≡ part)
ends_decides bytes part =
    let d = bytes_eq-Decides part (drop (length bytes - length part) bytes) in
    (λ t. sym (d.0 t), λ e. d.1 (sym e))

-- what begins the bytes stands in them
pub substring_first : (bytes part : List ℕ) → starts_with nat_eq bytes part ≡ true
    → is_substring part bytes ≡ true
substring_first [] part starts = starts
substring_first (b ∷ bytes) part starts = ap (λ t. t || is_substring part bytes) starts

-- what stands in the rest of the bytes stands in them
pub substring_later : (b : ℕ) (bytes part : List ℕ) → is_substring part bytes ≡ true
    → is_substring part (b ∷ bytes) ≡ true
substring_later b bytes part later = elim (cases_Bool (starts_with nat_eq (b ∷ bytes) part)) [
  | inl starts ↦ substring_first (b ∷ bytes) part starts
  | inr other ↦ ap (λ t. t || is_substring part bytes) other ∙ later
]

-- what begins the bytes occurs at their front
at_front : (bytes part : List ℕ) → starts_with nat_eq bytes part ≡ true
    → (k : ℕ) × OccursAt bytes part k
at_front bytes part starts =
    let front = (starts_decides bytes part).0 starts in
    (0, OccursAt-from_part bytes part 0 (omega (arith, length-take (length part) bytes, ap length front)) front)

-- one byte before the others moves each place by one
index_later : (b : ℕ) (bytes : List ℕ) (k j : ℕ)
    → slice_index (b ∷ bytes) (suc k + j) ≡ slice_index bytes (k + j)
index_later b bytes k j =
    let next : suc k + j ≡ suc (k + j) = omega arith in ap (slice_index (b ∷ bytes)) next

occurs_later : (b : ℕ) (bytes part : List ℕ) (k : ℕ) → OccursAt bytes part k
    → OccursAt (b ∷ bytes) part (suc k)
occurs_later b bytes part k occurs =
    record { fits = omega (arith, occurs.fits); reads = λ j lt. index_later b bytes k j ∙ occurs.reads j lt }

occurs_before : (b : ℕ) (bytes part : List ℕ) (k : ℕ) → OccursAt (b ∷ bytes) part (suc k)
    → OccursAt bytes part k
occurs_before b bytes part k occurs =
    record { fits = omega (arith, occurs.fits); reads = λ j lt. sym (index_later b bytes k j) ∙ occurs.reads j lt }

-- a part that stands in bytes occurs at some place
pub substring_at : (bytes part : List ℕ) → is_substring part bytes ≡ true
    → (k : ℕ) × OccursAt bytes part k
substring_at [] part stands = at_front [] part stands
substring_at (b ∷ bytes) part stands = elim (cases_Bool (starts_with nat_eq (b ∷ bytes) part)) [
  | inl starts ↦ at_front (b ∷ bytes) part starts
  | inr other ↦ let later = substring_at bytes part (sym (ap (λ t. t || is_substring part bytes) other) ∙ stands) in
      (suc later.0, occurs_later b bytes part later.0 later.1)
]

-- a part that occurs at some place stands in the bytes
pub substring_from : (k : ℕ) (bytes part : List ℕ) → OccursAt bytes part k
    → is_substring part bytes ≡ true
substring_from zero bytes part occurs =
    substring_first bytes part ((starts_decides bytes part).1 (OccursAt-part bytes part 0 occurs))
substring_from (suc k) [] part occurs = absurd (omega (arith, occurs.fits))
substring_from (suc k) (b ∷ bytes) part occurs =
    substring_later b bytes part (substring_from k bytes part (occurs_before b bytes part k occurs))

-- a search finds a part where it stands
pub found_substring : (bytes part : List ℕ) (r : Option ℕ) → FindsNeedle bytes part 0 r
    → is_some r ≡ is_substring part bytes
found_substring bytes part None nowhere = elim (cases_Bool (is_substring part bytes)) [
  | inl stands ↦ let at = substring_at bytes part stands in
      absurd (nowhere at.0 (omega arith) (omega (arith, at.1.fits)) at.1)
  | inr other ↦ sym other
]
found_substring bytes part (Some k) found = sym (substring_from k bytes part found.1)

-- a comparison that ignores case of the first bytes with a part
pub starts_folded : (bytes part : List ℕ) (r : Bool)
    → Decides r (str_to_ascii_lowercase (take (length part) bytes) ≡ str_to_ascii_lowercase part)
    → r ≡ starts_with nat_eq (str_to_ascii_lowercase bytes) (str_to_ascii_lowercase part)
starts_folded bytes part r decides =
    let front : take (length (str_to_ascii_lowercase part)) (str_to_ascii_lowercase bytes)
    ≡ str_to_ascii_lowercase (take (length part) bytes) =
    ap (λ n. take n (str_to_ascii_lowercase bytes)) (length-map part to_ascii_lowercase)
    ∙ take-map to_ascii_lowercase (length part) bytes in
    let starts = starts_decides (str_to_ascii_lowercase bytes) (str_to_ascii_lowercase part) in
    same_from_decides r _ decides (λ t. sym front ∙ starts.0 t, λ e. starts.1 (front ∙ e))

-- and of the last ones
pub ends_folded : (bytes part : List ℕ) (r : Bool) → length part ≤ length bytes
    → Decides r (str_to_ascii_lowercase (take (length bytes - (length bytes - length part))
    (drop (length bytes - length part) bytes)) ≡ str_to_ascii_lowercase part)
    → r ≡ ends_with nat_eq (str_to_ascii_lowercase bytes) (str_to_ascii_lowercase part)
ends_folded bytes part r fits decides =
    let from : ℕ = length bytes - length part in
    let same : length (str_to_ascii_lowercase bytes) - length (str_to_ascii_lowercase part) ≡ from =
    omega (arith, length-map bytes to_ascii_lowercase, length-map part to_ascii_lowercase) in
    let whole : take (length bytes - from) (drop from bytes) ≡ drop from bytes =
    take_all (length bytes - from) (drop from bytes) (omega (arith, length-drop from bytes)) in
    let back : drop (length (str_to_ascii_lowercase bytes) - length (str_to_ascii_lowercase part))
    (str_to_ascii_lowercase bytes) ≡ str_to_ascii_lowercase (take (length bytes - from) (drop from bytes)) =
    ap (λ n. drop n (str_to_ascii_lowercase bytes)) same
    ∙ drop-map to_ascii_lowercase from bytes ∙ ap str_to_ascii_lowercase (sym whole) in
    let ends = ends_decides (str_to_ascii_lowercase bytes) (str_to_ascii_lowercase part) in
    same_from_decides r _ decides (λ t. sym back ∙ ends.0 t, λ e. ends.1 (back ∙ e))
