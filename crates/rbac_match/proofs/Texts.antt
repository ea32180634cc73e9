-- What stands in a text has a front before it and a rest behind it; a path ends before a query.
use Rattle.std.proofs.Common.{◌≡◌, ℕ, suc, ◌+◌, ◌==◌, ◌||◌, Bool, true, false, not, cond, nat_eq, List, [], ◌∷◌, ◌++◌, take, ◌⊎◌, inl, inr, refl, sym, ap, ◌∙◌, append-nil, arith}
use Rattle.std.specs.List.{starts_with, ends_with, list_any, before_first, position_or_len}
use Rattle.std.proofs.lemmas.Bool.{cases_Bool, or_parts}
use Rattle.std.proofs.lemmas.Bool.Decides.{Decides-eqb}
use Rattle.std.proofs.lemmas.Slice.Eq.{starts_is, ends_is}
use Rattle.attributes.specs.Attributes.{url_path_of, without_fragment}
use Rattle.rbac_match.specs.Text.{is_substring}
use Rattle.rbac_match.proofs.Substrings.{substring_first, substring_later}

-- what begins bytes has a rest behind it, and what ends them a front before it
pub starts_rest : (bytes part : List ℕ)
    → (starts_with nat_eq bytes part ≡ true → (rest : List ℕ) × (bytes ≡ part ++ rest))
    × (((rest : List ℕ) × (bytes ≡ part ++ rest)) → starts_with nat_eq bytes part ≡ true)
starts_rest bytes part =
    let is = starts_is Decides-eqb bytes part (starts_with nat_eq bytes part) refl in
    (λ yes. (_, is.0 yes), λ some. is.1 some.0 some.1)

pub ends_front : (bytes part : List ℕ)
    → (ends_with nat_eq bytes part ≡ true → (front : List ℕ) × (bytes ≡ front ++ part))
    × (((front : List ℕ) × (bytes ≡ front ++ part)) → ends_with nat_eq bytes part ≡ true)
ends_front bytes part =
    let is = ends_is Decides-eqb bytes part (ends_with nat_eq bytes part) refl in
    (λ yes. (_, is.0 yes), λ some. is.1 some.0 some.1)

-- bytes with a part at their front
front_split : (bytes part : List ℕ) → starts_with nat_eq bytes part ≡ true
    → (front rest : List ℕ) × (bytes ≡ front ++ (part ++ rest))
front_split bytes part starts = let some = (starts_rest bytes part).0 starts in ([], some.0, some.1)

-- what stands in bytes has both
pub substring_split : (bytes part : List ℕ) → is_substring part bytes ≡ true
    → (front rest : List ℕ) × (bytes ≡ front ++ (part ++ rest))
substring_split [] part stands = front_split [] part stands
substring_split (b ∷ bytes) part stands = elim (cases_Bool (starts_with nat_eq (b ∷ bytes) part)) [
  | inl starts ↦ front_split (b ∷ bytes) part starts
  | inr other ↦ let later = substring_split bytes part (sym (ap (λ t. t || is_substring part bytes) other) ∙ stands) in
      (b ∷ later.0, later.1, ap (λ l. b ∷ l) later.2)
]

-- and what has both stands in them
pub split_substring : (front part rest : List ℕ) → is_substring part (front ++ (part ++ rest)) ≡ true
split_substring [] part rest =
    substring_first (part ++ rest) part ((starts_rest (part ++ rest) part).1 (rest, refl))
split_substring (b ∷ front) part rest =
    substring_later b (front ++ (part ++ rest)) part (split_substring front part rest)

-- what stands before the first element that passes, where the first of all does, or does not
before_here : (p : ℕ → Bool) (x : ℕ) (xs : List ℕ) → p x ≡ true → before_first p (x ∷ xs) ≡ []
before_here p x xs passes =
    ap (λ b. take (cond (not b) (1 + position_or_len p xs) 0) (x ∷ xs)) passes

before_later : (p : ℕ → Bool) (x : ℕ) (xs : List ℕ) → p x ≡ false
    → before_first p (x ∷ xs) ≡ x ∷ before_first p xs
before_later p x xs fails =
    let next : 1 + position_or_len p xs ≡ suc (position_or_len p xs) = omega arith in
    ap (λ b. take (cond (not b) (1 + position_or_len p xs) 0) (x ∷ xs)) fails
    ∙ ap (λ n. take n (x ∷ xs)) next

-- elements that don't pass stay before those behind them
before_append : (p : ℕ → Bool) (xs ys : List ℕ) → list_any p xs ≡ false
    → before_first p (xs ++ ys) ≡ xs ++ before_first p ys
before_append p [] ys none = refl
before_append p (x ∷ xs) ys none =
    let parts = or_parts (p x) (list_any p xs) none in
    before_later p x (xs ++ ys) parts.0 ∙ ap (λ l. x ∷ l) (before_append p xs ys parts.1)

-- no element passes one of two tests where none passes either
any_parts : (p q : ℕ → Bool) (xs : List ℕ) → list_any (λ x. p x || q x) xs ≡ false
    → (list_any p xs ≡ false) × (list_any q xs ≡ false)
any_parts p q [] none = (refl, refl)
any_parts p q (x ∷ xs) none =
    let parts = or_parts (p x || q x) (list_any (λ y. p y || q y) xs) none in
    let here = or_parts (p x) (q x) parts.0 in
    let later = any_parts p q xs parts.1 in
    (ap (λ b. b || list_any p xs) here.0 ∙ later.0, ap (λ b. b || list_any q xs) here.1 ∙ later.1)

-- nothing, or what begins with the `?` of a query or the `#` of a fragment
abbrev BeginsQueryOrFragment : List ℕ → Type 0
BeginsQueryOrFragment [] = Unit {0}
BeginsQueryOrFragment (b ∷ bytes) = (b ≡ 63) ⊎ (b ≡ 35)

-- a query or a fragment has no path
no_path_behind : (rest : List ℕ) → BeginsQueryOrFragment rest → url_path_of rest ≡ []
no_path_behind [] begins = refl
no_path_behind (b ∷ rest) begins = elim begins [
  | inl is ↦ let query : before_first (λ x. x == 35) (b ∷ rest) ≡ b ∷ before_first (λ x. x == 35) rest =
      before_later (λ x. x == 35) b rest (rw is refl) in
      ap (before_first (λ x. x == 63)) query
      ∙ before_here (λ x. x == 63) b (without_fragment rest) (rw is refl)
  | inr is ↦ ap (before_first (λ x. x == 63)) (before_here (λ x. x == 35) b rest (rw is refl))
]

-- the path of a target that has this one before its query or fragment
pub path_before : (path rest : List ℕ) → list_any (λ b. (b == 63) || (b == 35)) path ≡ false
    → BeginsQueryOrFragment rest → url_path_of (path ++ rest) ≡ path
path_before path rest none begins =
    let parts = any_parts (λ b. b == 63) (λ b. b == 35) path none in
    ap (before_first (λ b. b == 63)) (before_append (λ b. b == 35) path rest parts.1)
    ∙ before_append (λ b. b == 63) path (without_fragment rest) parts.0
    ∙ ap (λ l. path ++ l) (no_path_behind rest begins)
    ∙ append-nil path
