-- The value that a `Value` means.
use Rattle.std.specs.Prelude.{List, [], ◌∷◌, map, Result, Ok, Err}
use Rattle.std.specs.Arc.{arc_slice_items}
use Rattle.std.specs.declared.sync.ArcStr.{ArcStr}
use Rattle.std.specs.declared.alloc.Global.{Global}
use Rattle.cel_value.specs.Values.{CelKey, bool_key, int_key, uint_key, text_key, CelValue, bool, int, uint, text, bytes, list, map_of, CelValues, no_items, item, CelEntries, no_entries, entry, CelAnswer, value, fails}
use Rattle.cel_value.specs.Texts.{text_view}
use Rattle.cel_value.specs.declared.error.CelError.{CelError}
use Rattle.cel_value.specs.declared.value.Key.{Key}
use Rattle.cel_value.specs.declared.value.Key.TheVariants as keys
use Rattle.cel_value.specs.declared.key.LentKey.{LentKey}
use Rattle.cel_value.specs.declared.key.LentKey.TheVariants as lents
use Rattle.cel_value.specs.declared.value.Map.{Map, fold-Map}
use Rattle.cel_value.specs.declared.value.Value.{Value, fold-Value}
use Rattle.cel_value.specs.declared.value.Map.TheOpen.{Value-F, Map-F}

-- the key that a `Key` means
abbrev pub key_view : Key → CelKey
key_view (keys.Bool b) = bool_key b
key_view (keys.Int i) = int_key i
key_view (keys.Uint n) = uint_key n
key_view (keys.Text t) = text_key (text_view t)

-- the key that a lent key means
abbrev pub lent_view : LentKey → CelKey
lent_view (lents.Bool b) = bool_key b
lent_view (lents.Int i) = int_key i
lent_view (lents.Uint n) = uint_key n
lent_view (lents.Text t) = text_key (text_view t.now)

-- a list of values, as items
abbrev pub items_of : List CelValue → CelValues
items_of [] = no_items
items_of (v ∷ vs) = item v (items_of vs)

-- a list of keys with values, as entries
abbrev pub entries_of : List (Key × CelValue) → CelEntries
entries_of [] = no_entries
entries_of (e ∷ es) = entry (key_view e.0) e.1 (entries_of es)

-- pairs of texts, as a map from text to text
abbrev pub pairs_view : List (ArcStr Global × ArcStr Global) → CelEntries
pairs_view [] = no_entries
pairs_view (p ∷ ps) = entry (text_key (text_view p.0)) (text (text_view p.1)) (pairs_view ps)

-- one level of a map, whose values are already translated
abbrev pub map_step : Map-F CelEntries CelValue → CelEntries
map_step (Map-F.Entries es) = entries_of es.value.items
map_step (Map-F.Texts ps) = pairs_view ps.value.items

-- one level of a value, whose inner values are already translated
abbrev pub value_step : Value-F CelEntries CelValue → CelValue
value_step (Value-F.Bool b) = bool b
value_step (Value-F.Int i) = int i
value_step (Value-F.Uint n) = uint n
value_step (Value-F.Text t) = text (text_view t)
value_step (Value-F.Bytes bs) = bytes (arc_slice_items bs)
value_step (Value-F.List vs) = list (items_of vs.value.items)
value_step (Value-F.Map es) = map_of es

-- the value that a `Value` means
abbrev pub value_view : Value → CelValue
value_view = fold-Value CelEntries CelValue map_step value_step

-- the values that `Value`s mean, in order
abbrev pub values_view : List Value → CelValues
values_view vs = items_of (map value_view vs)

-- the entries that keys with `Value`s mean, in order
abbrev pub entries_view : List (Key × Value) → CelEntries
entries_view es = entries_of (map (λ e. (e.0, value_view e.1)) es)

-- the entries that a `Map` means
abbrev pub map_view : Map → CelEntries
map_view = fold-Map CelEntries CelValue map_step value_step

-- the answer that an `Answer` means
abbrev pub answer_view : Result Value CelError → CelAnswer
answer_view (Ok v) = value (value_view v)
answer_view (Err e) = fails e
