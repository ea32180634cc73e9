-- The place of an id among entries in ascending order of ids.
use Rattle.std.specs.Prelude.{◌≡◌, ◌≤◌, ℕ, ℤ, Bool, List, [], ◌∷◌, take, drop, length, false}
use Rattle.std.specs.Ordering.{int_cmp, is_eq, is_lt}
use Rattle.std.specs.declared.cmp.Ordering.TheVariants.{Less, Greater}

-- the ids of all entries are below this one
abbrev pub AllBelow : {V : Type 0} → ℤ → List (ℤ × V) → Type 0
AllBelow id [] = Unit {0}
AllBelow id (e ∷ es) = (int_cmp e.0 id ≡ Less) × AllBelow id es

-- the ids of all entries are above this one
abbrev pub AllAbove : {V : Type 0} → ℤ → List (ℤ × V) → Type 0
AllAbove id [] = Unit {0}
AllAbove id (e ∷ es) = (int_cmp e.0 id ≡ Greater) × AllAbove id es

-- the first entry, if there is one, has no smaller id
abbrev pub StartsAbove : {V : Type 0} → ℤ → List (ℤ × V) → Type 0
StartsAbove id [] = Unit {0}
StartsAbove id (e ∷ es) = is_lt (int_cmp e.0 id) ≡ false

-- whether the first entry has this id
abbrev pub starts_with : {V : Type 0} → ℤ → List (ℤ × V) → Bool
starts_with id [] = false
starts_with id (e ∷ es) = is_eq (int_cmp e.0 id)

-- so many entries have smaller ids; the next one, if there is one, does not
pub record IsPlace {V : Type 0} (id : ℤ) (es : List (ℤ × V)) (at : ℕ) : Type 0 where
  pub within : at ≤ length es
  pub before : AllBelow id (take at es)
  pub behind : StartsAbove id (drop at es)
