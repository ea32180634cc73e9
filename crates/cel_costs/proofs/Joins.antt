-- A join is an upper bound of both sizes, and masses and lengths are within those of sizes.
use Rattle.std.proofs.Common.{◌≡◌, ℕ, zero, suc, ◌+◌, ◌*◌, ◌≤◌, Some, length, arith, mul-le-mul_right, mul-le-mul_left, le_trans, mul-le-mul, suc-mul}
use Rattle.cel_value.specs.Masses.{entries_mass, entry_count, item_count, items_mass, key_mass, length_of, mass}
use Rattle.cel_value.specs.Texts.{utf8_of}
use Rattle.cel_value.specs.Types.{ValueType}
use Rattle.cel_value.specs.Values.{CelAnswer, CelEntries, CelKey, CelValue, CelValues, bool, bool_key, bytes, entry, fails, int, int_key, item, list, map_of, no_entries, no_items, text, text_key, uint, uint_key, value}
use Rattle.cel_types.specs.Typing.{constant_type}
use Rattle.cel_costs.specs.Costs.{constant_size, grown}
use Rattle.cel_costs.specs.Sizes.{EachFits, EntriesFit, Fits, Flat, HasRoom, KeyFits, Many, Size, Table, Text, Within, join, mass_of, most_of}

pub room_left : (l : ℕ) (s t : Size) → HasRoom l s → HasRoom l (join s t)
room_left l Flat t h = absurd h
room_left l (Text n) Flat h = h
room_left l (Text n) (Text m) h = omega arith
room_left l (Text n) (Many m f) h = omega arith
room_left l (Text n) (Table m j w) h = omega arith
room_left l (Many n e) Flat h = h
room_left l (Many n e) (Text m) h = omega arith
room_left l (Many n e) (Many m f) h = omega arith
room_left l (Many n e) (Table m j w) h = omega arith
room_left l (Table n k v) Flat h = h
room_left l (Table n k v) (Text m) h = omega arith
room_left l (Table n k v) (Many m f) h = omega arith
room_left l (Table n k v) (Table m j w) h = omega arith

pub room_right : (l : ℕ) (s t : Size) → HasRoom l t → HasRoom l (join s t)
room_right l Flat t h = h
room_right l (Text n) Flat h = absurd h
room_right l (Text n) (Text m) h = omega arith
room_right l (Text n) (Many m f) h = omega arith
room_right l (Text n) (Table m j w) h = omega arith
room_right l (Many n e) Flat h = absurd h
room_right l (Many n e) (Text m) h = omega arith
room_right l (Many n e) (Many m f) h = omega arith
room_right l (Many n e) (Table m j w) h = omega arith
room_right l (Table n k v) Flat h = absurd h
room_right l (Table n k v) (Text m) h = omega arith
room_right l (Table n k v) (Many m f) h = omega arith
room_right l (Table n k v) (Table m j w) h = omega arith

pub key_left : (k : CelKey) (s t : Size) → KeyFits k s → KeyFits k (join s t)
key_left (bool_key b) s t h = tt
key_left (int_key i) s t h = tt
key_left (uint_key n) s t h = tt
key_left (text_key cs) s t h = room_left (length (utf8_of cs)) s t h

pub key_right : (k : CelKey) (s t : Size) → KeyFits k t → KeyFits k (join s t)
key_right (bool_key b) s t h = tt
key_right (int_key i) s t h = tt
key_right (uint_key n) s t h = tt
key_right (text_key cs) s t h = room_right (length (utf8_of cs)) s t h

mutual
  pub fits_left : (v : CelValue) (s t : Size) → Fits v s → Fits v (join s t)
  fits_left (bool b) s t h = tt
  fits_left (int i) s t h = tt
  fits_left (uint n) s t h = tt
  fits_left (text cs) s t h = room_left (length (utf8_of cs)) s t h
  fits_left (bytes bs) s t h = room_left (length bs) s t h
  fits_left (list vs) Flat t h = absurd h
  fits_left (list vs) (Text n) t h = absurd h
  fits_left (list vs) (Many n e) Flat h = h
  fits_left (list vs) (Many n e) (Text m) h = (omega (arith, h.0), h.1)
  fits_left (list vs) (Many n e) (Many m f) h = (omega (arith, h.0), each_left vs e f h.1)
  fits_left (list vs) (Many n e) (Table m j w) h =
      (omega (arith, h.0), each_left vs e j h.1, each_left vs e w h.1)
  fits_left (list vs) (Table n k v) Flat h = h
  fits_left (list vs) (Table n k v) (Text m) h = (omega (arith, h.0), h.1, h.2)
  fits_left (list vs) (Table n k v) (Many m f) h =
      (omega (arith, h.0), each_left vs k f h.1, each_left vs v f h.2)
  fits_left (list vs) (Table n k v) (Table m j w) h =
      (omega (arith, h.0), each_left vs k j h.1, each_left vs v w h.2)
  fits_left (map_of es) Flat t h = absurd h
  fits_left (map_of es) (Text n) t h = absurd h
  fits_left (map_of es) (Many n e) t h = absurd h
  fits_left (map_of es) (Table n k v) Flat h = h
  fits_left (map_of es) (Table n k v) (Text m) h = (omega (arith, h.0), h.1)
  fits_left (map_of es) (Table n k v) (Many m f) h =
      (omega (arith, h.0), entries_left es k v f f h.1)
  fits_left (map_of es) (Table n k v) (Table m j w) h =
      (omega (arith, h.0), entries_left es k v j w h.1)

  pub each_left : (vs : CelValues) (s t : Size) → EachFits vs s → EachFits vs (join s t)
  each_left no_items s t h = tt
  each_left (item v vs) s t h = (fits_left v s t h.0, each_left vs s t h.1)

  pub entries_left : (es : CelEntries) (k v j w : Size) → EntriesFit es k v
      → EntriesFit es (join k j) (join v w)
  entries_left no_entries k v j w h = tt
  entries_left (entry x y es) k v j w h =
      (key_left x k j h.0, fits_left y v w h.1, entries_left es k v j w h.2)

mutual
  pub fits_right : (v : CelValue) (s t : Size) → Fits v t → Fits v (join s t)
  fits_right (bool b) s t h = tt
  fits_right (int i) s t h = tt
  fits_right (uint n) s t h = tt
  fits_right (text cs) s t h = room_right (length (utf8_of cs)) s t h
  fits_right (bytes bs) s t h = room_right (length bs) s t h
  fits_right (list vs) Flat t h = h
  fits_right (list vs) s Flat h = absurd h
  fits_right (list vs) s (Text n) h = absurd h
  fits_right (list vs) (Text n) (Many m f) h = (omega (arith, h.0), h.1)
  fits_right (list vs) (Text n) (Table m j w) h = (omega (arith, h.0), h.1, h.2)
  fits_right (list vs) (Many n e) (Many m f) h = (omega (arith, h.0), each_right vs e f h.1)
  fits_right (list vs) (Many n e) (Table m j w) h =
      (omega (arith, h.0), each_right vs e j h.1, each_right vs e w h.2)
  fits_right (list vs) (Table n k v) (Many m f) h =
      (omega (arith, h.0), each_right vs k f h.1, each_right vs v f h.1)
  fits_right (list vs) (Table n k v) (Table m j w) h =
      (omega (arith, h.0), each_right vs k j h.1, each_right vs v w h.2)
  fits_right (map_of es) Flat t h = h
  fits_right (map_of es) s Flat h = absurd h
  fits_right (map_of es) s (Text n) h = absurd h
  fits_right (map_of es) s (Many n e) h = absurd h
  fits_right (map_of es) (Text n) (Table m j w) h = (omega (arith, h.0), h.1)
  fits_right (map_of es) (Many n e) (Table m j w) h =
      (omega (arith, h.0), entries_right es e e j w h.1)
  fits_right (map_of es) (Table n k v) (Table m j w) h =
      (omega (arith, h.0), entries_right es k v j w h.1)

  pub each_right : (vs : CelValues) (s t : Size) → EachFits vs t → EachFits vs (join s t)
  each_right no_items s t h = tt
  each_right (item v vs) s t h = (fits_right v s t h.0, each_right vs s t h.1)

  pub entries_right : (es : CelEntries) (k v j w : Size) → EntriesFit es j w
      → EntriesFit es (join k j) (join v w)
  entries_right no_entries k v j w h = tt
  entries_right (entry x y es) k v j w h =
      (key_right x k j h.0, fits_right y v w h.1, entries_right es k v j w h.2)

-- an answer within either size is within the join
pub within_left : (a : CelAnswer) (s t : Size) → Within a s → Within a (join s t)
within_left (value v) s t h = fits_left v s t h
within_left (fails e) s t h = tt

pub within_right : (a : CelAnswer) (s t : Size) → Within a t → Within a (join s t)
within_right (value v) s t h = fits_right v s t h
within_right (fails e) s t h = tt

-- what is gathered only grows
pub grown_within : (next : Size → Size) (n : ℕ) (s : Size) (a : CelAnswer) → Within a s
    → Within a (grown next n s)
grown_within next zero s a h = h
grown_within next (suc n) s a h =
    grown_within next n (join s (next s)) a (within_left a s (next s) h)

-- ---- masses

pub mass_some : (s : Size) → 1 ≤ mass_of s
mass_some Flat = omega arith
mass_some (Text n) = omega arith
mass_some (Many n e) = omega arith
mass_some (Table n k v) = omega arith

-- n parts of at least one each
scaled : (l n m : ℕ) → l ≤ n → 1 ≤ m → l ≤ n * m
scaled l n m h k = grind (arith, mul-le-mul h k)

-- as many parts, each of at most so much
fill : (l n m total : ℕ) → total ≤ l * m → l ≤ n → total ≤ n * m
fill l n m total h k = le_trans h (mul-le-mul_right m k)

-- one more part
one_more : (a b n m : ℕ) → a ≤ m → b ≤ n * m → a + b ≤ (1 + n) * m
one_more a b n m h k =
    let e : 1 + n ≡ suc n = omega arith in
    rw (e, suc-mul n m) (omega arith)

wider : (a n m l : ℕ) → a ≤ n * m → m ≤ l → a ≤ n * l
wider a n m l h k = le_trans h (mul-le-mul_left n k)

-- the mass of a text or bytes of this length
room_mass : (l : ℕ) (s : Size) → HasRoom l s → 1 + l ≤ mass_of s
room_mass l Flat h = absurd h
room_mass l (Text n) h = omega arith
room_mass l (Many n e) h = omega (arith, scaled l n (mass_of e) h (mass_some e))
room_mass l (Table n k v) h =
    omega (arith, scaled l n (mass_of k + mass_of v) h (omega (arith, mass_some k)))

pub key_mass_within : (k : CelKey) (s : Size) → KeyFits k s → key_mass k ≤ mass_of s
key_mass_within (bool_key b) s h = mass_some s
key_mass_within (int_key i) s h = mass_some s
key_mass_within (uint_key n) s h = mass_some s
key_mass_within (text_key cs) s h = room_mass (length (utf8_of cs)) s h

mutual
  pub mass_within : (v : CelValue) (s : Size) → Fits v s → mass v ≤ mass_of s
  mass_within (bool b) s h = mass_some s
  mass_within (int i) s h = mass_some s
  mass_within (uint n) s h = mass_some s
  mass_within (text cs) s h = room_mass (length (utf8_of cs)) s h
  mass_within (bytes bs) s h = room_mass (length bs) s h
  mass_within (list vs) Flat h = absurd h
  mass_within (list vs) (Text n) h = absurd h
  mass_within (list vs) (Many n e) h =
      omega (arith, fill (item_count vs) n (mass_of e) (items_mass vs) (masses_within vs e h.1) h.0)
  mass_within (list vs) (Table n k v) h =
      let more = wider (items_mass vs) (item_count vs) (mass_of v) (mass_of k + mass_of v)
      (masses_within vs v h.2) (omega arith) in
      omega (arith, fill (item_count vs) n (mass_of k + mass_of v) (items_mass vs) more h.0)
  mass_within (map_of es) Flat h = absurd h
  mass_within (map_of es) (Text n) h = absurd h
  mass_within (map_of es) (Many n e) h = absurd h
  mass_within (map_of es) (Table n k v) h = omega (
    arith,
    fill (entry_count es) n
        (mass_of k + mass_of v) (entries_mass es) (entries_within es k v h.1) h.0,
  )

  masses_within : (vs : CelValues) (e : Size) → EachFits vs e
      → items_mass vs ≤ item_count vs * mass_of e
  masses_within no_items e h = omega arith
  masses_within (item v vs) e h = one_more (mass v) (items_mass vs) (item_count vs) (mass_of e)
      (mass_within v e h.0) (masses_within vs e h.1)

  entries_within : (es : CelEntries) (k v : Size) → EntriesFit es k v
      → entries_mass es ≤ entry_count es * (mass_of k + mass_of v)
  entries_within no_entries k v h = omega arith
  entries_within (entry x y es) k v h =
      one_more (key_mass x + mass y) (entries_mass es) (entry_count es) (mass_of k + mass_of v)
      (omega (arith, key_mass_within x k h.0, mass_within y v h.1)) (entries_within es k v h.2)

-- ---- lengths

room_most : (l : ℕ) (s : Size) → HasRoom l s → l ≤ most_of s
room_most l Flat h = absurd h
room_most l (Text n) h = h
room_most l (Many n e) h = h
room_most l (Table n k v) h = h

pub length_within : (v : CelValue) (s : Size) → Fits v s → length_of v ≤ most_of s
length_within (bool b) s h = omega arith
length_within (int i) s h = omega arith
length_within (uint n) s h = omega arith
length_within (text cs) s h = room_most (length (utf8_of cs)) s h
length_within (bytes bs) s h = room_most (length bs) s h
length_within (list vs) Flat h = absurd h
length_within (list vs) (Text n) h = absurd h
length_within (list vs) (Many n e) h = h.0
length_within (list vs) (Table n k v) h = h.0
length_within (map_of es) Flat h = absurd h
length_within (map_of es) (Text n) h = absurd h
length_within (map_of es) (Many n e) h = absurd h
length_within (map_of es) (Table n k v) h = h.0

-- ---- constants

pub constant_within : (v : CelValue) (t : ValueType) → constant_type v ≡ Some t → Fits v (constant_size v)
constant_within (bool b) t e = tt
constant_within (int i) t e = tt
constant_within (uint n) t e = tt
constant_within (text cs) t e = omega arith
constant_within (bytes bs) t e = omega arith
constant_within (list vs) t e = absurd cc
constant_within (map_of es) t e = absurd cc
