-- Sizes: upper bounds of a value, part by part (this project's measure). In the order Flat, Text,
-- Many, Table, each kind of size has room for what the kinds before it have room for. Expressions that
-- have a type never join two kinds.
use Rattle.std.specs.Prelude.{ℕ, ◌+◌, ◌*◌, ◌≤◌, max, List, [], ◌∷◌, length}
use Rattle.cel_value.specs.Masses.{entry_count, item_count}
use Rattle.cel_value.specs.Texts.{utf8_of}
use Rattle.cel_value.specs.Types.{ValueType, bool_type, int_type, uint_type, text_type, bytes_type, list_type, map_type}
use Rattle.cel_value.specs.declared.cel_type.KeyType.{KeyType}
use Rattle.cel_value.specs.declared.cel_type.KeyType.TheVariants as keys
use Rattle.cel_value.specs.Values.{CelAnswer, CelEntries, CelKey, CelValue, CelValues, bool, bytes, entry, fails, int, item, list, map_of, no_entries, no_items, text, uint, value, bool_key, int_key, uint_key, text_key}

-- a size: of a bool, int or uint, or of a text or bytes with a greatest length. Of a list, with a
-- greatest number of items and their size. Of a map, with a greatest number of entries and the sizes
-- of keys and values
pub data Size : Type 0 where
  Flat : Size
  Text : (most : ℕ) → Size
  Many : (most : ℕ) → (items : Size) → Size
  Table : (most : ℕ) → (keys values : Size) → Size

-- the greatest number of bytes, items or entries
abbrev pub most_of : Size → ℕ
most_of Flat = 0
most_of (Text n) = n
most_of (Many n e) = n
most_of (Table n k v) = n

-- the mass of the greatest value within a size
abbrev pub mass_of : Size → ℕ
mass_of Flat = 1
mass_of (Text n) = 1 + n
mass_of (Many n e) = 1 + n * mass_of e
mass_of (Table n k v) = 1 + n * (mass_of k + mass_of v)

-- the join of two sizes, which has room for the values of both: the greater of each part
abbrev pub join : Size → Size → Size
join Flat t = t
join (Text n) Flat = Text n
join (Text n) (Text m) = Text (max n m)
join (Text n) (Many m e) = Many (max n m) e
join (Text n) (Table m k v) = Table (max n m) k v
join (Many n e) Flat = Many n e
join (Many n e) (Text m) = Many (max n m) e
join (Many n e) (Many m f) = Many (max n m) (join e f)
join (Many n e) (Table m k v) = Table (max n m) (join e k) (join e v)
join (Table n k v) Flat = Table n k v
join (Table n k v) (Text m) = Table (max n m) k v
join (Table n k v) (Many m f) = Table (max n m) (join k f) (join v f)
join (Table n k v) (Table m l w) = Table (max n m) (join k l) (join v w)

-- the least size of a type of keys
abbrev pub least_key : KeyType → Size
least_key keys.Bool = Flat
least_key keys.Int = Flat
least_key keys.Uint = Flat
least_key keys.Text = Text 0

-- the least size of a type
abbrev pub least : ValueType → Size
least bool_type = Flat
least int_type = Flat
least uint_type = Flat
least text_type = Text 0
least bytes_type = Text 0
least (list_type t) = Many 0 (least t)
least (map_type k t) = Table 0 (least_key k) (least t)

-- a size has room for a text or bytes of this length
abbrev pub HasRoom : ℕ → Size → Type 0
HasRoom l Flat = ⊥
HasRoom l (Text n) = l ≤ n
HasRoom l (Many n e) = l ≤ n
HasRoom l (Table n k v) = l ≤ n

-- the key is within a size
abbrev pub KeyFits : CelKey → Size → Type 0
KeyFits (bool_key b) s = Unit {0}
KeyFits (int_key i) s = Unit {0}
KeyFits (uint_key n) s = Unit {0}
KeyFits (text_key cs) s = HasRoom (length (utf8_of cs)) s

abbrev mutual
  -- the value is within a size
  pub Fits : CelValue → Size → Type 0
  Fits (bool b) s = Unit {0}
  Fits (int i) s = Unit {0}
  Fits (uint n) s = Unit {0}
  Fits (text cs) s = HasRoom (length (utf8_of cs)) s
  Fits (bytes bs) s = HasRoom (length bs) s
  Fits (list vs) Flat = ⊥
  Fits (list vs) (Text n) = ⊥
  Fits (list vs) (Many n e) = (item_count vs ≤ n) × EachFits vs e
  Fits (list vs) (Table n k v) = (item_count vs ≤ n) × EachFits vs k × EachFits vs v
  Fits (map_of es) Flat = ⊥
  Fits (map_of es) (Text n) = ⊥
  Fits (map_of es) (Many n e) = ⊥
  Fits (map_of es) (Table n k v) = (entry_count es ≤ n) × EntriesFit es k v

  -- each item is within a size
  pub EachFits : CelValues → Size → Type 0
  EachFits no_items e = Unit {0}
  EachFits (item v vs) e = Fits v e × EachFits vs e

  -- each key is within a size, and each value is within another
  pub EntriesFit : CelEntries → Size → Size → Type 0
  EntriesFit no_entries k v = Unit {0}
  EntriesFit (entry j w es) k v = KeyFits j k × Fits w v × EntriesFit es k v

-- the answer is within the size; an error is within every size
abbrev pub Within : CelAnswer → Size → Type 0
Within (value v) s = Fits v s
Within (fails e) s = Unit {0}

-- each answer is within the size at its place
abbrev pub AllWithin : List CelAnswer → List Size → Type 0
AllWithin [] [] = Unit {0}
AllWithin (a ∷ answers) (s ∷ sizes) = Within a s × AllWithin answers sizes
AllWithin _ _ = ⊥
