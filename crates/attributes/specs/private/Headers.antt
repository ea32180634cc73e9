-- How the code makes and searches the headers of a request.
use Rattle.std.specs.Prelude.{◌≡◌, ℕ, ◌<◌, ◌≤◌, List, [], ◌∷◌, Option, Some, None, Result, Ok, Err, get_or, length}
use Rattle.std.specs.Coded.{Coded, coded_list, coded_ℕ}
use Rattle.std.specs.FinMap.{code, find, get}
use Rattle.std.specs.FinMap.Entries.{put}
use Rattle.std.specs.List.{insert, slice_get, slice_set}
use Rattle.std.specs.declared.cmp.Ordering.TheVariants.{Greater, Less}
use Rattle.attributes.specs.Headers.{Entry, HeaderMap, name_cmp, values_of, with_commas}

-- the values of one name joined; none if there are no values
abbrev pub joined : List (List ℕ) → Option (List ℕ)
joined [] = None
joined (v ∷ vs) = Some (with_commas (v ∷ vs))

-- at each name, the headers have the entries' values, joined; at other names, they have nothing
abbrev pub AreJoined : List Entry → HeaderMap → Type 0
AreJoined es headers = (name : List ℕ) → get headers name ≡ joined (values_of name es)

-- the code of header maps (`Coded` of std), from the codes of names and values
abbrev pub header_map_code : Coded HeaderMap
header_map_code = code (coded_list coded_ℕ) (coded_list coded_ℕ)

-- no name is less than the one before it
abbrev pub AreSorted : List Entry → Type 0
AreSorted [] = Unit {0}
AreSorted (e ∷ []) = Unit {0}
AreSorted (e ∷ d ∷ es) = ¬ (name_cmp d.0 e.0 ≡ Less) × AreSorted (d ∷ es)

-- the place of a name: its entry's place, where the value is replaced; or the place where a new
-- entry is inserted
abbrev pub IsPlace : List ℕ → List Entry → Result ℕ ℕ → Type 0
IsPlace name es (Ok i) = (value : List ℕ) × (slice_get es i ≡ Some (name, value))
    × (find name_cmp name es ≡ Some value)
    × ((w : List ℕ) → put name_cmp name w es ≡ slice_set es i (name, w))
IsPlace name es (Err i) = (i ≤ length es) × (find name_cmp name es ≡ None)
    × ((w : List ℕ) → put name_cmp name w es ≡ insert es i (name, w))

-- the names before this place are less than the name
abbrev pub AreBefore : ℕ → List ℕ → List Entry → Type 0
AreBefore n name es = (k : ℕ) (d : Entry) → k < n → name_cmp (get_or es k d).0 name ≡ Less

-- the names from this place on are greater than the name
abbrev pub AreBehind : ℕ → List ℕ → List Entry → Type 0
AreBehind n name es =
    (k : ℕ) (d : Entry) → n ≤ k → k < length es → name_cmp (get_or es k d).0 name ≡ Greater
