-- Operations on lists and maps keep types.
use Rattle.std.proofs.Common.{◌≡◌, ℕ, ℤ, pos, negsuc, true, ◌++◌, List, [], ◌∷◌, length, Option, Some, None, refl, ap}
use Rattle.std.specs.Prelude.{option_map}
use Rattle.std.specs.List.{AllByRecursion}
use Rattle.std.specs.Option.{option_and_then}
use Rattle.std.specs.Str.{all_scalars}
use Rattle.std.proofs.Math.Utf8.{scalar}
use Rattle.std.proofs.lemmas.Bool.{and_parts}
use Rattle.cel_value.specs.Values.{CelKey, text_key, CelValue, int, list, CelValues, CelEntries, no_entries, entry, CelAnswer, value, fails}
use Rattle.cel_value.specs.Types.{ValueType, bool_type, int_type, uint_type, text_type, bytes_type, list_type, map_type, type_of_key, EachItem, EachEntry, KeyHasType, HasType}
use Rattle.cel_value.specs.Texts.{AreScalars}
use Rattle.cel_value.specs.Items.{item_at, key_items}
use Rattle.cel_value.specs.Keys.{get, IsAscending, is_ascending, key_of_value}
use Rattle.cel_value.specs.Masses.{item_count, entry_count}
use Rattle.cel_value.specs.declared.cel_type.KeyType.{KeyType}
use Rattle.cel_value.specs.declared.cel_type.KeyType.TheVariants as keys
use Rattle.cel_value.specs.declared.error.CelError.TheVariants.{NoKey, Index}
use Rattle.cel_value.proofs.Places.{is_ascending_decides}
use Rattle.cel_ops.specs.Strict.{Gathered, all_values, first_error, gather, gathered_after, strict_all}
use Rattle.cel_ops.specs.Parts.{joined}
use Rattle.cel_ops.specs.Collections.{size, list_index, item_of, map_index, at_key, value_at, has_key, in_map, field, has_field, in_list, list_literal, found_or, elements_of}
use Rattle.machine_code.specs.Slots.{Slot, failing, of, is_a, joined_slot, joined_all, sequence_slot, concat_slot, has_size, size_slot, list_index_slot, map_index_slot, in_map_slot, field_slot, has_field_slot, in_list_slot, list_of, list_literal_slot, loop_slot}
use Rattle.machine_code.specs.private.Holding.{MayHold}
use Rattle.machine_code.proofs.Fitting.{StackFits}
use Rattle.machine_code.proofs.Forms.{int_in, text_in, bytes_in, list_in, map_in}
use Rattle.machine_code.proofs.Asked.{Gives, KeepsOne, KeepsTwo, KeepsAll, as_type, given_if, some_is, keeps_joined, joined_holds}
use Rattle.machine_code.proofs.KeptScalars.{int_answer_held}
use Rattle.cel_ops.proofs.Typing.{get_typed as each_get, each_joined, key_typed as key_held, item_typed as each_at}
pub use Rattle.cel_ops.proofs.Typing.{key_of as as_key}

-- ---- items and entries

each_key : (k : KeyType) (P : CelValue → Type 0) (es : CelEntries) → EachEntry (λ j. KeyHasType j k) P es
    → EachItem (λ v. HasType v (type_of_key k)) (key_items es)
each_key k P no_entries f = tt
each_key k P (entry j v es) f = (key_held k j f.0, each_key k P es f.2)

-- ---- joining and sizes

scalars_append : (cs ds : List ℕ) → AreScalars cs → AreScalars ds → AreScalars (cs ++ ds)
scalars_append [] ds f g = g
scalars_append (c ∷ cs) ds f g =
    let parts = and_parts (scalar c) (all_scalars cs) f in
    rw (parts.0) (scalars_append cs ds parts.1 g)

pub joined_typed : KeepsTwo concat_slot joined
joined_typed = keeps_joined sequence_slot joined joined_kept
  where
    joined_kept : (c : Slot) (x y : CelAnswer) → MayHold c x → MayHold c y
        → (r : Slot) → sequence_slot c ≡ Some r → Gives (joined x y) r
    joined_kept c (fails e) y f g r is = tt
    joined_kept c (value v) (fails e) f g r is = tt
    joined_kept failing (value v) (value w) f g r is = absurd f
    joined_kept (of text_type) (value v) (value w) f g r is =
        let a = text_in v f in let b = text_in w g in
        rw (← some_is (of text_type) r is, a.1, b.1) (scalars_append a.0 b.0 a.2 b.2)
    joined_kept (of bytes_type) (value v) (value w) f g r is =
        let a = bytes_in v f in let b = bytes_in w g in rw (← some_is (of bytes_type) r is, a.1, b.1) tt
    joined_kept (of (list_type t)) (value v) (value w) f g r is =
        let a = list_in t v f in let b = list_in t w g in
        rw (← some_is (of (list_type t)) r is, a.1, b.1) (each_joined (λ u. HasType u t) a.0 b.0 a.2 b.2)
    joined_kept (of bool_type) (value v) (value w) f g r is = cc
    joined_kept (of int_type) (value v) (value w) f g r is = cc
    joined_kept (of uint_type) (value v) (value w) f g r is = cc
    joined_kept (of (map_type k t)) (value v) (value w) f g r is = cc

size_kept : (t : ValueType) (v : CelValue) → has_size (of t) ≡ true → HasType v t → Gives (size (value v)) (of int_type)
size_kept bool_type v h f = cc
size_kept int_type v h f = cc
size_kept uint_type v h f = cc
size_kept text_type v h f = let a = text_in v f in rw a.1 (int_answer_held (pos (length a.0)))
size_kept bytes_type v h f = let a = bytes_in v f in rw a.1 (int_answer_held (pos (length a.0)))
size_kept (list_type t) v h f = let a = list_in t v f in rw a.1 (int_answer_held (pos (item_count a.0)))
size_kept (map_type k t) v h f = let a = map_in k t v f in rw a.1 (int_answer_held (pos (entry_count a.0)))

pub size_typed : KeepsOne size_slot size
size_typed a (fails e) f r is = tt
size_typed failing (value v) f r is = absurd f
size_typed (of t) (value v) f r is =
    let given = given_if (has_size (of t)) int_type r is in rw (← given.1) (size_kept t v given.0 f)

-- ---- items of lists

found_held : (a : Slot) (o : Option CelValue) (missing : _) → ((v : CelValue) → o ≡ Some v → MayHold a (value v))
    → MayHold a (found_or (fails missing) o)
found_held a None missing f = tt
found_held a (Some v) missing f = f v refl

item_held : (t : ValueType) (vs : CelValues) (i : ℤ) → EachItem (λ v. HasType v t) vs
    → Gives (item_of (list vs) (int i)) (of t)
item_held t vs (pos n) f = found_held (of t) (item_at vs n) Index (λ v e. each_at (λ u. HasType u t) vs n v f e)
item_held t vs (negsuc n) f = tt

pub list_index_typed : KeepsTwo list_index_slot list_index
list_index_typed a b (fails e) y f g r is = tt
list_index_typed a b (value v) (fails e) f g r is = tt
list_index_typed failing b (value v) (value w) f g r is = absurd f
list_index_typed (of (list_type t)) b (value v) (value w) f g r is =
    let given = given_if (is_a int_type b) t r is in
    let l = list_in t v f in
    let i = int_in w (as_type int_type b (value w) given.0 g) in
    rw (← given.1, l.1, i.1) (item_held t l.0 i.0 l.2)
list_index_typed (of bool_type) b (value v) (value w) f g r is = cc
list_index_typed (of int_type) b (value v) (value w) f g r is = cc
list_index_typed (of uint_type) b (value v) (value w) f g r is = cc
list_index_typed (of text_type) b (value v) (value w) f g r is = cc
list_index_typed (of bytes_type) b (value v) (value w) f g r is = cc
list_index_typed (of (map_type k t)) b (value v) (value w) f g r is = cc

in_list_kept : (t : ValueType) (v w : CelValue) → HasType w (list_type t)
    → Gives (in_list (value v) (value w)) (of bool_type)
in_list_kept t v w g = let l = list_in t w g in rw l.1 tt

pub in_list_typed : KeepsTwo in_list_slot in_list
in_list_typed a b (fails e) y f g r is = tt
in_list_typed a b (value v) (fails e) f g r is = tt
in_list_typed a failing (value v) (value w) f g r is = absurd g
in_list_typed a (of (list_type t)) (value v) (value w) f g r is =
    let given = given_if (is_a t a) bool_type r is in rw (← given.1) (in_list_kept t v w g)
in_list_typed a (of bool_type) (value v) (value w) f g r is = cc
in_list_typed a (of int_type) (value v) (value w) f g r is = cc
in_list_typed a (of uint_type) (value v) (value w) f g r is = cc
in_list_typed a (of text_type) (value v) (value w) f g r is = cc
in_list_typed a (of bytes_type) (value v) (value w) f g r is = cc
in_list_typed a (of (map_type k t)) (value v) (value w) f g r is = cc

-- ---- values of maps

at_key_gives : (answer : CelEntries → CelKey → CelAnswer) (es : CelEntries) (o : Option CelKey) (j : CelKey) (a : Slot)
    → o ≡ Some j → IsAscending es → MayHold a (answer es j) → Gives (at_key answer es o) a
at_key_gives answer es o j a e up f =
    let rises : is_ascending es ≡ true = (is_ascending_decides es).1 up in rw (e, rises) f

value_held : (k : KeyType) (t : ValueType) (es : CelEntries) (j : CelKey)
    → EachEntry (λ q. KeyHasType q k) (λ v. HasType v t) es → MayHold (of t) (value_at es j)
value_held k t es j f =
    found_held (of t) (get es j) NoKey (λ v e. each_get (λ q. KeyHasType q k) (λ u. HasType u t) es j v f e)

pub map_index_typed : KeepsTwo map_index_slot map_index
map_index_typed a b (fails e) y f g r is = tt
map_index_typed a b (value v) (fails e) f g r is = tt
map_index_typed failing b (value v) (value w) f g r is = absurd f
map_index_typed (of (map_type k t)) b (value v) (value w) f g r is =
    let given = given_if (is_a (type_of_key k) b) t r is in
    let m = map_in k t v f in
    let j = as_key k w (as_type (type_of_key k) b (value w) given.0 g) in
    rw (← given.1, m.1) (at_key_gives value_at m.0 (key_of_value w) j.0 (of t) j.1 m.3 (value_held k t m.0 j.0 m.2))
map_index_typed (of bool_type) b (value v) (value w) f g r is = cc
map_index_typed (of int_type) b (value v) (value w) f g r is = cc
map_index_typed (of uint_type) b (value v) (value w) f g r is = cc
map_index_typed (of text_type) b (value v) (value w) f g r is = cc
map_index_typed (of bytes_type) b (value v) (value w) f g r is = cc
map_index_typed (of (list_type t)) b (value v) (value w) f g r is = cc

pub in_map_typed : KeepsTwo in_map_slot in_map
in_map_typed a b (fails e) y f g r is = tt
in_map_typed a b (value v) (fails e) f g r is = tt
in_map_typed a failing (value v) (value w) f g r is = absurd g
in_map_typed a (of (map_type k t)) (value v) (value w) f g r is =
    let given = given_if (is_a (type_of_key k) a) bool_type r is in
    let m = map_in k t w g in
    let j = as_key k v (as_type (type_of_key k) a (value v) given.0 f) in
    rw (← given.1, m.1) (at_key_gives has_key m.0 (key_of_value v) j.0 (of bool_type) j.1 m.3 tt)
in_map_typed a (of bool_type) (value v) (value w) f g r is = cc
in_map_typed a (of int_type) (value v) (value w) f g r is = cc
in_map_typed a (of uint_type) (value v) (value w) f g r is = cc
in_map_typed a (of text_type) (value v) (value w) f g r is = cc
in_map_typed a (of bytes_type) (value v) (value w) f g r is = cc
in_map_typed a (of (list_type t)) (value v) (value w) f g r is = cc

pub field_typed : (name : List ℕ) → KeepsOne field_slot (field name)
field_typed name a (fails e) f r is = tt
field_typed name failing (value v) f r is = absurd f
field_typed name (of (map_type keys.Text t)) (value v) f r is =
    let m = map_in keys.Text t v f in
    rw (← some_is (of t) r is, m.1)
    (at_key_gives value_at m.0 (Some (text_key name)) (text_key name) (of t) refl m.3 (value_held keys.Text t m.0 (text_key name) m.2))
field_typed name (of (map_type keys.Bool t)) (value v) f r is = cc
field_typed name (of (map_type keys.Int t)) (value v) f r is = cc
field_typed name (of (map_type keys.Uint t)) (value v) f r is = cc
field_typed name (of bool_type) (value v) f r is = cc
field_typed name (of int_type) (value v) f r is = cc
field_typed name (of uint_type) (value v) f r is = cc
field_typed name (of text_type) (value v) f r is = cc
field_typed name (of bytes_type) (value v) f r is = cc
field_typed name (of (list_type t)) (value v) f r is = cc

pub has_field_typed : (name : List ℕ) → KeepsOne has_field_slot (has_field name)
has_field_typed name a (fails e) f r is = tt
has_field_typed name failing (value v) f r is = absurd f
has_field_typed name (of (map_type keys.Text t)) (value v) f r is =
    let m = map_in keys.Text t v f in
    rw (← some_is (of bool_type) r is, m.1)
    (at_key_gives has_key m.0 (Some (text_key name)) (text_key name) (of bool_type) refl m.3 tt)
has_field_typed name (of (map_type keys.Bool t)) (value v) f r is = cc
has_field_typed name (of (map_type keys.Int t)) (value v) f r is = cc
has_field_typed name (of (map_type keys.Uint t)) (value v) f r is = cc
has_field_typed name (of bool_type) (value v) f r is = cc
has_field_typed name (of int_type) (value v) f r is = cc
has_field_typed name (of uint_type) (value v) f r is = cc
has_field_typed name (of text_type) (value v) f r is = cc
has_field_typed name (of bytes_type) (value v) f r is = cc
has_field_typed name (of (list_type t)) (value v) f r is = cc

-- ---- loops

-- what a loop goes over
pub elements_held : (a each : Slot) (v : CelValue) → loop_slot a ≡ Some each → MayHold a (value v)
    → (vs : CelValues) × (elements_of v ≡ Some vs) × EachItem (λ w. MayHold each (value w)) vs
elements_held failing each v e f = absurd f
elements_held (of (list_type t)) each v e f =
    let l = list_in t v f in (l.0, ap elements_of l.1, rw (← some_is (of t) each e) l.2)
elements_held (of (map_type k t)) each v e f =
    let m = map_in k t v f in
    (key_items m.0, ap elements_of m.1, rw (← some_is (of (type_of_key k)) each e) (each_key k (λ u. HasType u t) m.0 m.2))
elements_held (of bool_type) each v e f = cc
elements_held (of int_type) each v e f = cc
elements_held (of uint_type) each v e f = cc
elements_held (of text_type) each v e f = cc
elements_held (of bytes_type) each v e f = cc

-- ---- list literals

all_joined : (a : Slot) (rest : List Slot) (c : Slot) (x : CelAnswer) (xs : List CelAnswer)
    → joined_all a rest ≡ Some c → MayHold a x → StackFits rest xs → MayHold c x × AllByRecursion (MayHold c) xs
all_joined a [] c x [] e f g = (rw (← some_is a c e) f, tt)
all_joined a [] c x (y ∷ ys) e f g = absurd g
all_joined a (b ∷ rest) c x [] e f g = absurd g
all_joined a (b ∷ rest) c x (y ∷ ys) e f g =
    by_join (λ d z later held. all_joined d rest c z ys later held g.1) (joined_slot a b) refl e
  where
    by_join : ((d : Slot) (z : CelAnswer) → joined_all d rest ≡ Some c → MayHold d z
        → MayHold c z × AllByRecursion (MayHold c) ys)
        → (o : Option Slot) → joined_slot a b ≡ o → option_and_then (λ d. joined_all d rest) o ≡ Some c
        → MayHold c x × AllByRecursion (MayHold c) (y ∷ ys)
    by_join behind None is e = cc
    by_join behind (Some d) is e =
        let held = joined_holds a b d x y is f g.0 in
        let left = behind d x e held.0 in
        let right = behind d y e held.1 in
        (left.0, (right.0, right.1))

abbrev GatheredFits : Slot → Gathered → Type 0
GatheredFits c (all_values vs) = EachItem (λ v. MayHold c (value v)) vs
GatheredFits c (first_error e) = Unit {0}

after_fits : (c : Slot) (v : CelValue) (g : Gathered) → MayHold c (value v) → GatheredFits c g
    → GatheredFits c (gathered_after v g)
after_fits c v (all_values vs) f h = (f, h)
after_fits c v (first_error e) f h = tt

gathered_fits : (c : Slot) (xs : List CelAnswer) → AllByRecursion (MayHold c) xs → GatheredFits c (gather xs)
gathered_fits c [] f = tt
gathered_fits c (fails e ∷ xs) f = tt
gathered_fits c (value v ∷ xs) f = after_fits c v (gather xs) f.0 (gathered_fits c xs f.1)

listed : (t : ValueType) (g : Gathered) → GatheredFits (of t) g
    → Gives (strict_all (λ vs. Some (value (list vs))) g) (of (list_type t))
listed t (all_values vs) f = f
listed t (first_error e) f = tt

pub list_literal_typed : KeepsAll list_literal_slot list_literal
list_literal_typed [] xs f r is = cc
list_literal_typed (a ∷ rest) [] f r is = absurd f
list_literal_typed (a ∷ rest) (x ∷ xs) f r is = by_join (joined_all a rest) refl is
  where
    held : (c : Slot) → AllByRecursion (MayHold c) (x ∷ xs) → (y : CelAnswer) → x ≡ y → MayHold c y
        → Gives (list_literal (x ∷ xs)) (list_of c)
    held failing all (fails e) same g = rw same tt
    held failing all (value v) same g = absurd g
    held (of t) all y same g = listed t (gather (x ∷ xs)) (gathered_fits (of t) (x ∷ xs) all)

    by_join : (o : Option Slot) → joined_all a rest ≡ o → option_map list_of o ≡ Some r → Gives (list_literal (x ∷ xs)) r
    by_join None is e = cc
    by_join (Some c) is e =
        let all = all_joined a rest c x xs is f.0 f.1 in
        rw (← some_is (list_of c) r e) (held c (all.0, all.1) x refl all.0)
