-- Parts of one text, and headers whose names and values are such parts.
use Rattle.std.specs.Prelude.{◌≡◌, ℕ, ◌<◌, ◌≤◌, List, [], All, IsTrue, IsUtf8, get_or, length, map, slice_range, take}
use Rattle.std.specs.FinMap.{is_sorted}
use Rattle.std.specs.declared.cmp.Ordering.TheVariants.{Less}
use Rattle.attributes.specs.Headers.{Entry, name_cmp}
use Rattle.attributes.specs.declared.headers.Field.{Field}
use Rattle.attributes.specs.declared.part.Part.{Part}
use Rattle.attributes.specs.declared.part.Spot.{Spot}

-- the bytes of a part
abbrev pub part_of : List ℕ → Part → List ℕ
part_of text p = slice_range text p.from p.to

-- the part lies in the text, and is UTF-8
pub record IsPart (text : List ℕ) (p : Part) : Type 0 where
  pub ordered : p.from ≤ p.to
  pub within : p.to ≤ length text
  pub utf8 : IsUtf8 (part_of text p)

-- the part lies in the text, and has these bytes, which are UTF-8
pub record IsAt (text : List ℕ) (p : Part) (bytes : List ℕ) : Type 0 where
  pub part : IsPart text p
  pub same : part_of text p ≡ bytes

-- the second text begins with the first
abbrev pub Begins : List ℕ → List ℕ → Type 0
Begins text longer = take (length text) longer ≡ text

-- a header of the code as bytes
abbrev pub entry_in : List ℕ → Field → Entry
entry_in text f = (part_of text f.name, part_of text f.value)

-- headers of the code, in order, as bytes
abbrev pub entries_in : List ℕ → List Field → List Entry
entries_in text fields = map (entry_in text) fields

-- the name and the value of the header are parts of the text
pub record IsField (text : List ℕ) (f : Field) : Type 0 where
  pub name : IsPart text f.name
  pub value : IsPart text f.value

-- so are those of each header
abbrev pub AreFields : List ℕ → List Field → Type 0
AreFields text fields = All (IsField text) fields

-- the name of the second header is not less than that of the first
abbrev pub IsNext : Entry → Entry → Type 0
IsNext last next = ¬ (name_cmp next.0 last.0 ≡ Less)

-- so are those of each header, and the names ascend
pub record AreKept (text : List ℕ) (fields : List Field) : Type 0 where
  pub parts : AreFields text fields
  pub ascending : IsTrue (is_sorted name_cmp (entries_in text fields))

-- the value of the header at this index
abbrev pub value_in : List Entry → ℕ → List ℕ
value_in es i = (get_or es i ([], [])).1

-- the bytes of a part of a header's value
abbrev pub spot_of : List Entry → Spot → List ℕ
spot_of es s = slice_range (value_in es s.index) s.from s.to

-- the part lies in a header's value, and is UTF-8
pub record IsSpot (es : List Entry) (s : Spot) : Type 0 where
  pub below : s.index < length es
  pub ordered : s.from ≤ s.to
  pub within : s.to ≤ length (value_in es s.index)
  pub utf8 : IsUtf8 (spot_of es s)

-- the part has these bytes
pub record IsSpotOf (es : List Entry) (s : Spot) (bytes : List ℕ) : Type 0 where
  pub spot : IsSpot es s
  pub same : spot_of es s ≡ bytes
