-- Maps: Protocol Buffers encoding guide, "Maps". A map is a repeated message with a key 1 and a
-- value 2. An absent part is its default, and the last entry of a key wins. An entry with a fault
-- of its own neither replaces another nor is replaced.
use Rattle.std.specs.Prelude.{◌≡◌, ◌≢◌, ℕ, ℤ, ◌⊎◌, List, [], ◌∷◌, Some, None, map, reverse, Contains, IsSomeAnd, MatchOption, IsUtf8}
use Rattle.std.specs.Borrow.{Bor}
use Rattle.std.specs.Ordering.{nat_cmp, int_cmp}
use Rattle.std.specs.Cmp.Lexicographic.{slice_cmp}
use Rattle.std.specs.List.{AllZip}
use Rattle.std.specs.FinMap.{FinMap, entries, get, find, from_entries}
use Rattle.std.specs.declared.cmp.Ordering.{Ordering}
use Rattle.smallvec.specs.SmallVec.{SmallVec}
use Rattle.proto_wire.specs.Fields.{Wire, Fields}
use Rattle.proto_wire.specs.Keys.{len_key, varint_key}
use Rattle.proto_wire.specs.Merge.{Merges, parts_view}
use Rattle.proto_wire.specs.Messages.{IsMessage, MessageFault}
use Rattle.proto_wire.specs.Values.{payloads, bytes_at, int64_at}
use Rattle.proto_wire.specs.declared.key.Key.{Key}
use Rattle.proto_wire.specs.declared.refusal.Refusal.{Refusal}
use Rattle.proto_wire.specs.declared.refusal.Refusal.TheVariants.{BadText}

-- ---- keys

-- the kinds of keys that are read: string and int64
pub data KeyKind : Type 0 where
  text : KeyKind
  int64 : KeyKind

-- the keys of a kind: a text is its bytes, an int64 is a whole number
abbrev pub KeyOf : KeyKind → Type 0
KeyOf text = List ℕ
KeyOf int64 = ℤ

-- the order of keys: texts byte by byte, numbers by value
abbrev pub key_cmp : (kind : KeyKind) → KeyOf kind → KeyOf kind → Ordering
key_cmp text = slice_cmp nat_cmp
key_cmp int64 = int_cmp

-- the numbers of an entry's fields
abbrev pub entry_field : record { key : ℕ; value : ℕ }
entry_field = record { key = 1; value = 2 }

-- the fields of an entry
abbrev pub entry_keys : KeyKind → List Key
entry_keys text = len_key entry_field.key ∷ len_key entry_field.value ∷ []
entry_keys int64 = varint_key entry_field.key ∷ len_key entry_field.value ∷ []

-- the key of an entry with these fields: the last key field; without one, the empty text or 0
abbrev pub key_at : (kind : KeyKind) → List Wire → KeyOf kind
key_at text fs = bytes_at entry_field.key fs
key_at int64 fs = int64_at entry_field.key fs

-- the key can be read: a text has to be UTF-8, an int64 always reads
abbrev pub KeyReads : KeyKind → List Wire → Type 0
KeyReads text fs = IsUtf8 (bytes_at entry_field.key fs)
KeyReads int64 fs = Unit {0}

-- ---- entries

-- an entry: its key, and the payloads of its value
abbrev pub Entry : KeyKind → Type 0
Entry kind = KeyOf kind × List (List ℕ)

-- the payload is this entry
abbrev pub IsEntry : (kind : KeyKind) → List ℕ → Entry kind → Type 0
IsEntry kind bytes entry =
    (fs : List Wire) × IsMessage (entry_keys kind) (bytes ∷ []) fs × KeyReads kind fs
    × (entry ≡ (key_at kind fs, payloads entry_field.value fs))

-- the payloads are these entries, in order
abbrev pub AreEntries : (kind : KeyKind) → List (List ℕ) → List (Entry kind) → Type 0
AreEntries kind parts es = AllZip (IsEntry kind) parts es

-- the map of the entries: at each key the payloads of its last entry
abbrev pub map_of : (kind : KeyKind) → List (Entry kind)
    → FinMap (key_cmp kind) (List (List ℕ))
map_of kind es = from_entries (reverse es)

-- a fault of an entry: of its own fields, or of its key
pub data EntryFault (kind : KeyKind) (bytes : List ℕ) (e : Refusal) : Type 0 where
  entry_fields : MessageFault (entry_keys kind) (bytes ∷ []) e → EntryFault kind bytes e
  entry_key : (fs : List Wire) → Merges (bytes ∷ []) fs → ¬ (KeyReads kind fs) → e ≡ BadText
      → EntryFault kind bytes e

-- some payload has a fault as an entry
abbrev pub SomeEntryFault : KeyKind → List (List ℕ) → Refusal → Type 0
SomeEntryFault kind parts e =
    (part : List ℕ) × Contains parts part × EntryFault kind part e

-- the entries among the payloads, in order, without those that have a fault of their own
abbrev pub Readable : (kind : KeyKind) → List (List ℕ) → List (Entry kind) → Type 0
Readable kind [] read = read ≡ []
Readable kind (part ∷ parts) read =
    ((entry : Entry kind) × (others : List (Entry kind)) × IsEntry kind part entry
    × Readable kind parts others × (read ≡ entry ∷ others))
    ⊎ ((e : Refusal) × EntryFault kind part e × Readable kind parts read)

-- ---- values

-- the values by key: at each key, the value that the key's payloads merge to; at other keys, none
abbrev pub AreValues : (kind : KeyKind) {V : Type 0} → (List (List ℕ) → V → Type 0)
    → FinMap (key_cmp kind) (List (List ℕ)) → FinMap (key_cmp kind) V → Type 0
AreValues kind IsValue named values = (key : KeyOf kind)
    → MatchOption (get named key) (get values key ≡ None)
    (λ parts. IsSomeAnd (get values key) (IsValue parts))

-- the payloads of some key have this fault as a value
abbrev pub SomeValueFault : (kind : KeyKind) → (List (List ℕ) → Refusal → Type 0)
    → List (Entry kind) → Refusal → Type 0
SomeValueFault kind ValueFault es e = (key : KeyOf kind) × (parts : List (List ℕ))
    × (find (key_cmp kind) key es ≡ Some parts) × ValueFault parts e

-- the payloads are entries, and these are their values by key
abbrev pub IsMap : (kind : KeyKind) {V : Type 0} → (List (List ℕ) → V → Type 0)
    → List (List ℕ) → FinMap (key_cmp kind) V → Type 0
IsMap kind IsValue parts values = (es : List (Entry kind)) × AreEntries kind parts es
    × AreValues kind IsValue (map_of kind es) values

-- a fault of a map: of an entry, or of the value at a key. If an entry has a fault of its own, the
-- map omits it, but a fault of its value counts too
pub data MapFault (kind : KeyKind) (ValueFault : List (List ℕ) → Refusal → Type 0)
    (parts : List (List ℕ)) (e : Refusal) : Type 0 where
  in_entry : SomeEntryFault kind parts e → MapFault kind ValueFault parts e
  in_faulty_entry : (part : List ℕ) (own : List Wire) (reason : Refusal) → Contains parts part
      → EntryFault kind part reason → Fields part own → payloads entry_field.value own ≢ []
      → ValueFault (payloads entry_field.value own) e → MapFault kind ValueFault parts e
  in_value : (read : List (Entry kind)) → Readable kind parts read
      → SomeValueFault kind ValueFault (entries (map_of kind read)) e
      → MapFault kind ValueFault parts e

-- ---- the code's maps

-- the entries of the code's map in order: each key with its payloads
abbrev pub entries_view : {K : Type 0} (kind : KeyKind) → (K → KeyOf kind)
    → List (K × SmallVec (Bor (List ℕ))) → List (Entry kind)
entries_view kind key_view es = map (λ e. (key_view e.0, parts_view e.1.items)) es
