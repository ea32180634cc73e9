-- Maps as finite functions: the order of keys, look-up, and entries by ascending key. CEL language
-- definition, "Map Values". The order of keys is this project's choice.
use Rattle.std.specs.Prelude.{ℕ, ◌≡◌, Bool, true, ◌&&◌, List, [], ◌∷◌, Option, Some, None, if◌then◌else◌}
use Rattle.std.specs.declared.cmp.Ordering.{Ordering}
use Rattle.std.specs.declared.cmp.Ordering.TheVariants.{Less}
use Rattle.std.specs.Ordering.{nat_cmp, int_cmp, bool_cmp, is_lt}
use Rattle.std.specs.Cmp.Lexicographic.{slice_cmp}
use Rattle.cel_value.specs.Values.{CelKey, bool_key, int_key, uint_key, text_key, CelValue, bool, int, uint, text, CelEntries, no_entries, entry}
use Rattle.cel_value.specs.Equality.{key_eq}

-- the rank of a key's kind: bools, ints, uints, texts
abbrev pub kind_rank : CelKey → ℕ
kind_rank (bool_key b) = 0
kind_rank (int_key i) = 1
kind_rank (uint_key n) = 2
kind_rank (text_key cs) = 3

-- the order of keys: by the ranks of their kinds; within one kind false before true, numbers by value, texts by
-- code point
abbrev pub key_cmp : CelKey → CelKey → Ordering
key_cmp (bool_key a) (bool_key b) = bool_cmp a b
key_cmp (int_key a) (int_key b) = int_cmp a b
key_cmp (uint_key a) (uint_key b) = nat_cmp a b
key_cmp (text_key a) (text_key b) = slice_cmp nat_cmp a b
key_cmp a b = nat_cmp (kind_rank a) (kind_rank b)

-- a value as a key; none if it is bytes, a list or a map
abbrev pub key_of_value : CelValue → Option CelKey
key_of_value (bool b) = Some (bool_key b)
key_of_value (int i) = Some (int_key i)
key_of_value (uint n) = Some (uint_key n)
key_of_value (text cs) = Some (text_key cs)
key_of_value _ = None

-- the value at a key; none if the map does not have the key
abbrev pub get : CelEntries → CelKey → Option CelValue
get no_entries q = None
get (entry k v es) q = if key_eq k q then Some v else get es q

-- each key of the entries is above this one
abbrev pub AllAbove : CelKey → CelEntries → Type 0
AllAbove k no_entries = Unit {0}
AllAbove k (entry j v es) = (key_cmp k j ≡ Less) × AllAbove k es

-- the keys ascend, so no key is repeated: such entries are a finite function
abbrev pub IsAscending : CelEntries → Type 0
IsAscending no_entries = Unit {0}
IsAscending (entry k v es) = AllAbove k es × IsAscending es

-- whether the keys ascend, as a test: each key is below the next
abbrev pub is_ascending : CelEntries → Bool
is_ascending no_entries = true
is_ascending (entry k v no_entries) = true
is_ascending (entry k v (entry j w es)) = is_lt (key_cmp k j) && is_ascending (entry j w es)

-- ascending entries with a new one added at its place
abbrev pub put : CelKey → CelValue → CelEntries → CelEntries
put k v no_entries = entry k v no_entries
put k v (entry j w es) =
    if is_lt (key_cmp k j) then entry k v (entry j w es) else entry j w (put k v es)

-- each text is below the next by its bytes: the order of a request's headers
abbrev pub AreRising : List (List ℕ) → Type 0
AreRising [] = Unit {0}
AreRising (a ∷ []) = Unit {0}
AreRising (a ∷ b ∷ texts) = (slice_cmp nat_cmp a b ≡ Less) × AreRising (b ∷ texts)
