-- How values, maps and types are seen, constructor by constructor.
use Rattle.std.proofs.Common.{◌≡◌, ◌+◌, false, rules, refl, sym, ap, ◌∙◌, arith, List, [], ◌∷◌, ◌++◌, length}
use Rattle.std.specs.Arc.{arc_slice_items}
use Rattle.std.specs.declared.sync.Arc.{Arc}
use Rattle.std.specs.declared.sync.ArcStr.{ArcStr}
use Rattle.std.specs.declared.sync.ArcSlice.{ArcSlice}
use Rattle.std.specs.declared.vec.Vec.{Vec}
use Rattle.std.specs.declared.alloc.Global.{Global}
use Rattle.std.specs.Prelude.{ℕ, ℤ, Bool}
use Rattle.cel_value.specs.Items.{joined_items}
use Rattle.cel_value.specs.Values.{CelValue, item, bool, int, uint, text, bytes, list, map_of}
use Rattle.cel_value.specs.Texts.{text_view}
use Rattle.cel_value.specs.View.{value_view, values_view, entries_view, pairs_view, map_view, items_of}
use Rattle.cel_value.specs.Masses.{item_count, entry_count}
use Rattle.cel_value.specs.Types.{ValueType, bool_type, int_type, uint_type, text_type, bytes_type, list_type, map_type, type_eq, type_view}
use Rattle.cel_value.specs.declared.value.Key.{Key}
use Rattle.cel_value.specs.declared.value.Map.{Map, Entries, Texts, the_lemmas as map_lemmas}
use Rattle.cel_value.specs.declared.value.Value.{Value, Bool as BoolValue, Int, Uint, Text, Bytes, List as ListValue, Map as MapValue, the_lemmas}
use Rattle.cel_value.specs.declared.cel_type.KeyType.{KeyType}
use Rattle.cel_value.specs.declared.cel_type.CelType.{CelType, Bool as BoolType, Int as IntType, Uint as UintType, Text as TextType, Bytes as BytesType, List as ListType, Map as MapType, List' as ListType', Map' as MapType', the_lemmas as type_lemmas}

pub view_bool : (b : Bool) → value_view (BoolValue b) ≡ bool b
view_bool b = search (rules, the_lemmas)

pub view_int : (i : ℤ) → value_view (Int i) ≡ int i
view_int i = search (rules, the_lemmas)

pub view_uint : (n : ℕ) → value_view (Uint n) ≡ uint n
view_uint n = search (rules, the_lemmas)

pub view_text : (t : ArcStr Global) → value_view (Text t) ≡ text (text_view t)
view_text t = search (rules, the_lemmas)

pub view_bytes : (b : ArcSlice ℕ Global) → value_view (Bytes b) ≡ bytes (arc_slice_items b)
view_bytes b = search (rules, the_lemmas)

pub view_list : (v : Arc (Vec Value Global) Global) → value_view (ListValue v)
    ≡ list (values_view v.value.items)
view_list v = search (rules, the_lemmas)

pub view_map : (m : Map) → value_view (MapValue m) ≡ map_of (map_view m)
view_map m = search (rules, the_lemmas)

pub view_entries : (v : Arc (Vec (Key × Value) Global) Global) → map_view (Entries v)
    ≡ entries_view v.value.items
view_entries v = search (rules, map_lemmas)

pub view_texts : (v : Arc (Vec (ArcStr Global × ArcStr Global) Global) Global) → map_view (Texts v)
    ≡ pairs_view v.value.items
view_texts v = search (rules, map_lemmas)

pub view_list_type : (t : Arc CelType Global) → type_view (ListType t) ≡ list_type (type_view t.value)
view_list_type t = search (rules, type_lemmas)

pub view_map_type : (k : KeyType) (t : Arc CelType Global) → type_view (MapType k t)
    ≡ map_type k (type_view t.value)
view_map_type k t = search (rules, type_lemmas)

-- how many a view has

pub count_items : (vs : List Value) → item_count (values_view vs) ≡ length vs
count_items [] = refl
count_items (v ∷ vs) = ap (λ n. 1 + n) (count_items vs) ∙ omega arith

pub count_entries : (es : List (Key × Value)) → entry_count (entries_view es) ≡ length es
count_entries [] = refl
count_entries (e ∷ es) = ap (λ n. 1 + n) (count_entries es) ∙ omega arith

pub count_pairs : (ps : List (ArcStr Global × ArcStr Global)) → entry_count (pairs_view ps)
    ≡ length ps
count_pairs [] = refl
count_pairs (p ∷ ps) = ap (λ n. 1 + n) (count_pairs ps) ∙ omega arith

-- what a map's own items say of it

pub seen_entries : (m : Map) (v : Arc (Vec (Key × Value) Global) Global) (w : Vec
    (Key × Value) Global)
    (es : List (Key × Value)) → m ≡ Entries v → w ≡ v.value → es ≡ w.items
    → entries_view es ≡ map_view m
seen_entries m v w es is at items =
    ap entries_view (items ∙ ap (λ u. u.items) at) ∙ sym (ap map_view is ∙ view_entries v)

pub seen_texts : (m : Map) (v : Arc (Vec (ArcStr Global × ArcStr Global) Global) Global)
    (w : Vec (ArcStr Global × ArcStr Global) Global) (ps : List (ArcStr Global × ArcStr Global))
    → m ≡ Texts v → w ≡ v.value → ps ≡ w.items → pairs_view ps ≡ map_view m
seen_texts m v w ps is at items =
    ap pairs_view (items ∙ ap (λ u. u.items) at) ∙ sym (ap map_view is ∙ view_texts v)

-- a type that is no list is another type than each list's, and likewise of maps

pub view_bool_type : type_view BoolType ≡ bool_type
view_bool_type = search (rules, type_lemmas)

pub view_int_type : type_view IntType ≡ int_type
view_int_type = search (rules, type_lemmas)

pub view_uint_type : type_view UintType ≡ uint_type
view_uint_type = search (rules, type_lemmas)

pub view_text_type : type_view TextType ≡ text_type
view_text_type = search (rules, type_lemmas)

pub view_bytes_type : type_view BytesType ≡ bytes_type
view_bytes_type = search (rules, type_lemmas)

pub no_list : (t : CelType) → ((x : Arc CelType Global) → t ≡ ListType x → ⊥) → (s : ValueType)
    → false ≡ type_eq (list_type s) (type_view t)
no_list BoolType h s = rw view_bool_type refl
no_list IntType h s = rw view_int_type refl
no_list UintType h s = rw view_uint_type refl
no_list TextType h s = rw view_text_type refl
no_list BytesType h s = rw view_bytes_type refl
no_list (ListType' p t) h s = absurd (h (record { ptr = p.ptr; value = t }) refl)
no_list (MapType' k p t) h s = rw (view_map_type k (record { ptr = p.ptr; value = t })) refl

pub no_map : (t : CelType) → ((k : KeyType) (x : Arc CelType Global) → t ≡ MapType k x → ⊥)
    → (k : KeyType) (s : ValueType) → false ≡ type_eq (map_type k s) (type_view t)
no_map BoolType h k s = rw view_bool_type refl
no_map IntType h k s = rw view_int_type refl
no_map UintType h k s = rw view_uint_type refl
no_map TextType h k s = rw view_text_type refl
no_map BytesType h k s = rw view_bytes_type refl
no_map (ListType' p t) h k s = rw (view_list_type (record { ptr = p.ptr; value = t })) refl
no_map (MapType' j p t) h k s = absurd (h j (record { ptr = p.ptr; value = t }) refl)

-- joined lists of values are seen as joined items
pub items_of_append : (vs ws : List CelValue) → items_of (vs ++ ws)
    ≡ joined_items (items_of vs) (items_of ws)
items_of_append [] ws = refl
items_of_append (v ∷ vs) ws = ap (item v) (items_of_append vs ws)
