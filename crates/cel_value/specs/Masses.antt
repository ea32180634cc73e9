-- Lengths and masses of values; charges depend on them (this project's measure).
use Rattle.std.specs.Prelude.{ℕ, ◌+◌, ◌-◌, length, Option, Some, None, if◌then◌else◌, nat_le}
use Rattle.cel_value.specs.Values.{CelKey, bool_key, int_key, uint_key, text_key, CelValue, bool, int, uint, text, bytes, list, map_of, CelValues, no_items, item, CelEntries, no_entries, entry}
use Rattle.cel_value.specs.Texts.{utf8_of}

-- how many items there are
abbrev pub item_count : CelValues → ℕ
item_count no_items = 0
item_count (item v vs) = 1 + item_count vs

-- how many entries there are
abbrev pub entry_count : CelEntries → ℕ
entry_count no_entries = 0
entry_count (entry k v es) = 1 + entry_count es

-- the length: the UTF-8 bytes of a text, or the number of bytes, items or entries; 0 for a bool,
-- int or uint
abbrev pub length_of : CelValue → ℕ
length_of (text cs) = length (utf8_of cs)
length_of (bytes bs) = length bs
length_of (list vs) = item_count vs
length_of (map_of es) = entry_count es
length_of _ = 0

-- the mass of a key: 1, plus the length of a text
abbrev pub key_mass : CelKey → ℕ
key_mass (bool_key b) = 1
key_mass (int_key i) = 1
key_mass (uint_key n) = 1
key_mass (text_key cs) = 1 + length (utf8_of cs)

abbrev mutual
  -- the mass of a value: 1, plus the length of a text or bytes, plus the masses of its parts
  pub mass : CelValue → ℕ
  mass (bool b) = 1
  mass (int i) = 1
  mass (uint n) = 1
  mass (text cs) = 1 + length (utf8_of cs)
  mass (bytes bs) = 1 + length bs
  mass (list vs) = 1 + items_mass vs
  mass (map_of es) = 1 + entries_mass es

  -- the sum of the masses of all items
  pub items_mass : CelValues → ℕ
  items_mass no_items = 0
  items_mass (item v vs) = mass v + items_mass vs

  -- the sum of the masses of all keys and values
  pub entries_mass : CelEntries → ℕ
  entries_mass no_entries = 0
  entries_mass (entry k v es) = key_mass k + mass v + entries_mass es

-- n less m; none if m is greater than n
abbrev pub left_of : ℕ → ℕ → Option ℕ
left_of n m = if nat_le m n then Some (n - m) else None
