-- Field lines: RFC 7541, 1.3, and their sizes: 4.1.
use Rattle.std.specs.Prelude.{ℕ, ◌+◌, ◌<◌, ◌^◌, List, length, map}
use Rattle.std.specs.Global.{Vec}
use Rattle.std.specs.List.{sum_by}
use Rattle.hpack.specs.declared.field.Field.{Field}

-- a field line: a name and a value
pub record Line : Type 0 where
  pub name : List ℕ
  pub value : List ℕ

-- the field line with this name and this value
abbrev pub line : List ℕ → List ℕ → Line
line name value = record { name = name; value = value }

-- the code's field, without its place in memory
abbrev pub line_of : Field → Line
line_of f = line f.name.items f.value.items

-- the field lines of a list, in order
abbrev pub lines_of_items : List Field → List Line
lines_of_items fs = map line_of fs

-- the field lines of a vector, in order
abbrev pub lines_of : Vec Field → List Line
lines_of fs = map line_of fs.items

-- the size of an entry: its octets, and 32 more
abbrev pub line_size : Line → ℕ
line_size f = length f.name + length f.value + 32

-- the size of a table, or of a field list
abbrev pub lines_size : List Line → ℕ
lines_size fs = sum_by line_size fs

-- what the encoder can write: a name and a value of less than 2 ^ 28 octets
abbrev pub IsShort : Line → Type 0
IsShort f = (length f.name < 2 ^ 28) × (length f.value < 2 ^ 28)
