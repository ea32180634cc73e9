-- What the search for a part knows of the bytes so far: D. E. Knuth, J. H. Morris and V. R. Pratt,
-- "Fast Pattern Matching in Strings".
use Rattle.std.specs.Prelude.{◌≡◌, ℕ, ◌+◌, ◌-◌, ◌<◌, ◌≤◌, Bool, true, List, length, take, drop, slice_index}
use Rattle.std.specs.Str.{str_to_ascii_lowercase}
use Rattle.rbac_match.specs.declared.text.Pattern.{Pattern}
use Rattle.rbac_match.specs.declared.text.Pattern.TheVariants.{Contains}

-- the bytes end with the first `count` bytes of the part
pub record EndsWithFirst (part bytes : List ℕ) (count : ℕ) : Type 0 where
  pub in_part : count ≤ length part
  pub in_bytes : count ≤ length bytes
  pub same : drop (length bytes - count) bytes ≡ take count part

-- the bytes end with the first `count` bytes of the part, and with no more of them
pub record EndsWithMost (part bytes : List ℕ) (count : ℕ) : Type 0 where
  pub ends : EndsWithFirst part bytes count
  pub most : (other : ℕ) → EndsWithFirst part bytes other → other ≤ count

-- number `i` is how many first bytes of the part the bytes 1 to `i` of the part end with, at most
abbrev pub AreBorders : List ℕ → List ℕ → Type 0
AreBorders part borders = (i : ℕ) → i < length borders
    → EndsWithMost part (drop 1 (take (i + 1) part)) (slice_index borders i)

-- the part's borders, one for each of its bytes
pub record AreAllBorders (part borders : List ℕ) : Type 0 where
  pub all : length borders ≡ length part
  pub are : AreBorders part borders

-- if the text is searched for in any case, these are its borders
abbrev pub AreBordersOf : Pattern → Bool → List ℕ → List ℕ → Type 0
AreBordersOf Contains true sought borders = AreAllBorders (str_to_ascii_lowercase sought) borders
AreBordersOf pattern ignore_case sought borders = Unit {0}
