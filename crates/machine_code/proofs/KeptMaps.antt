-- Map literals keep types.
use Rattle.std.proofs.Common.{◌≡◌, Bool, true, false, cond, List, [], ◌∷◌, Option, Some, None, refl, sym, ap}
use Rattle.std.specs.Prelude.{option_map, is_some}
use Rattle.std.specs.Option.{option_and_then}
use Rattle.std.specs.Ordering.{is_lt}
use Rattle.cel_value.specs.Values.{CelKey, CelValue, CelEntries, no_entries, entry, CelAnswer, value, fails}
use Rattle.cel_value.specs.Types.{ValueType, bool_type, int_type, uint_type, text_type, bytes_type, list_type, map_type, type_of_key, EachEntry, KeyHasType, HasType, key_type_of}
use Rattle.cel_value.specs.Keys.{get, put, key_cmp, IsAscending}
use Rattle.cel_value.specs.declared.cel_type.KeyType.{KeyType}
use Rattle.cel_value.specs.declared.cel_type.KeyType.TheVariants as keys
use Rattle.cel_value.specs.declared.error.CelError.TheVariants.{RepeatedKey}
use Rattle.cel_value.proofs.Places.{put_ascending}
use Rattle.cel_ops.specs.Strict.{Gathered, all_values, first_error, gather, gathered_after, strict_all}
use Rattle.cel_ops.specs.Collections.{map_literal, map_made_of, written_entries}
use Rattle.cel_ops.proofs.MadeMaps.{insert_all, made_map}
use Rattle.machine_code.specs.Slots.{Slot, failing, of, SlotFits, joined_slot, joined_entries, map_of_slots, map_literal_slot}
use Rattle.machine_code.specs.private.Holding.{MayHold}
use Rattle.machine_code.proofs.Fitting.{StackFits, slot_fits, slot_refl, slot_trans}
use Rattle.machine_code.proofs.Asked.{Gives, KeepsAll, some_is, joined_fits}
use Rattle.machine_code.proofs.KeptItems.{as_key}

-- ---- entries that are put in their places

each_put : (K : CelKey → Type 0) (P : CelValue → Type 0) (k : CelKey) (v : CelValue) (es : CelEntries)
    → K k → P v → EachEntry K P es → EachEntry K P (put k v es)
each_put K P k v no_entries f g h = (f, g, tt)
each_put K P k v (entry j w es) f g h = by_test (is_lt (key_cmp k j)) (each_put K P k v es f g h.2)
  where
    by_test : (b : Bool) → EachEntry K P (put k v es)
        → EachEntry K P (cond b (entry k v (entry j w es)) (entry j w (put k v es)))
    by_test true behind = (f, g, h)
    by_test false behind = (h.0, h.1, behind)

some_or_none : (o : Option CelValue) → is_some o ≡ false → o ≡ None
some_or_none None e = refl
some_or_none (Some v) e = cc

module _ (k : KeyType) (t : ValueType) where
  abbrev Entries : CelEntries → Type 0
  Entries es = EachEntry (λ j. KeyHasType j k) (λ v. HasType v t) es

  inserted : (made es : CelEntries) → Entries made → IsAscending made → Entries es
      → MayHold (of (map_type k t)) (insert_all made es)
  inserted made no_entries f up g = (f, up)
  inserted made (entry j v es) f up g =
      by_test (is_some (get made j)) refl (λ new. inserted (put j v made) es
      (each_put (λ q. KeyHasType q k) (λ u. HasType u t) j v made g.0 g.1 f)
      (put_ascending j v made (some_or_none (get made j) new) up) g.2)
    where
      by_test : (b : Bool) → is_some (get made j) ≡ b
          → (is_some (get made j) ≡ false → MayHold (of (map_type k t)) (insert_all (put j v made) es))
          → MayHold (of (map_type k t)) (cond b (fails RepeatedKey) (insert_all (put j v made) es))
      by_test true is behind = tt
      by_test false is behind = behind is

  made_held : (es : CelEntries) → Entries es → MayHold (of (map_type k t)) (map_made_of es)
  made_held es f = rw (← made_map es) (inserted no_entries es tt tt f)

  -- keys and values in turn, of these types
  abbrev EntriesFit : List CelAnswer → Type 0
  EntriesFit [] = Unit {0}
  EntriesFit (x ∷ []) = ⊥
  EntriesFit (x ∷ y ∷ rest) = MayHold (of (type_of_key k)) x × MayHold (of t) y × EntriesFit rest

  abbrev Written : Gathered → Type 0
  Written (all_values vs) = (es : CelEntries) × (written_entries vs ≡ Some es) × Entries es
  Written (first_error e) = Unit {0}

  entry_written : (v w : CelValue) (g : Gathered) → HasType v (type_of_key k) → HasType w t → Written g
      → Written (gathered_after v (gathered_after w g))
  entry_written v w (all_values vs) f g h =
      let j = as_key k v f in
      (entry j.0 w h.0, rw (j.1, h.1) refl, (j.2, g, h.2))
  entry_written v w (first_error e) f g h = tt

  entries_written : (xs : List CelAnswer) → EntriesFit xs → Written (gather xs)
  entries_written [] f = (no_entries, refl, tt)
  entries_written (x ∷ []) f = absurd f
  entries_written (fails e ∷ y ∷ rest) f = tt
  entries_written (value v ∷ fails e ∷ rest) f = tt
  entries_written (value v ∷ value w ∷ rest) f = entry_written v w (gather rest) f.0 f.1 (entries_written rest f.2)

  made : (g : Gathered) → Written g
      → Gives (strict_all (λ vs. option_map map_made_of (written_entries vs)) g) (of (map_type k t))
  made (all_values vs) h = rw h.1 (made_held h.0 h.2)
  made (first_error e) h = tt

-- ---- slots of keys and of values

-- keys and values in turn
abbrev InTurn : Slot → Slot → List CelAnswer → Type 0
InTurn k v [] = Unit {0}
InTurn k v (x ∷ []) = ⊥
InTurn k v (x ∷ y ∷ rest) = MayHold k x × MayHold v y × InTurn k v rest

both_are : (a b c d : Slot) → ◌≡◌ {A = Option (Slot × Slot)} (Some (a, b)) (Some (c, d)) → (a ≡ c) × (b ≡ d)
both_are a b c d e = let pair : ◌≡◌ {A = Slot × Slot} (a, b) (c, d) = cc in (ap (λ p. p.0) pair, ap (λ p. p.1) pair)

abbrev Joined : Slot → Slot → Slot → Slot → List CelAnswer → Type 0
Joined k v j w xs = InTurn j w xs × SlotFits k j × SlotFits v w

entries_joined : (k v : Slot) (as' : List Slot) (j w : Slot) (xs : List CelAnswer)
    → joined_entries k v as' ≡ Some (j, w) → StackFits as' xs → Joined k v j w xs
entries_joined k v [] j w [] e f =
    let same = both_are k v j w e in (tt, rw same.0 (slot_refl j), rw same.1 (slot_refl w))
entries_joined k v [] j w (x ∷ xs) e f = absurd f
entries_joined k v (a ∷ []) j w xs e f = cc
entries_joined k v (a ∷ b ∷ rest) j w [] e f = absurd f
entries_joined k v (a ∷ b ∷ rest) j w (x ∷ []) e f = absurd f.1
entries_joined k v (a ∷ b ∷ rest) j w (x ∷ y ∷ xs) e f =
    by_key (λ c d later. entries_joined c d rest j w xs later f.1.1) (joined_slot k a) refl e
  where
    by_value : ((c d : Slot) → joined_entries c d rest ≡ Some (j, w) → Joined c d j w xs)
        → (c : Slot) → joined_slot k a ≡ Some c → (o : Option Slot) → joined_slot v b ≡ o
        → option_and_then (λ d. joined_entries c d rest) o ≡ Some (j, w) → Joined k v j w (x ∷ y ∷ xs)
    by_value behind c key None is e = cc
    by_value behind c key (Some d) is e =
        let later = behind c d e in
        let keys_fit = joined_fits k a c key in
        let values_fit = joined_fits v b d is in (
          (
            slot_fits a j x (slot_trans a c j keys_fit.1 later.1) f.0,
            slot_fits b w y (slot_trans b d w values_fit.1 later.2) f.1.0,
            later.0,
          ),
          slot_trans k c j keys_fit.0 later.1,
          slot_trans v d w values_fit.0 later.2,
        )

    by_key : ((c d : Slot) → joined_entries c d rest ≡ Some (j, w) → Joined c d j w xs)
        → (o : Option Slot) → joined_slot k a ≡ o
        → option_and_then (λ c. option_and_then (λ d. joined_entries c d rest) (joined_slot v b)) o ≡ Some (j, w)
        → Joined k v j w (x ∷ y ∷ xs)
    by_key behind None is e = cc
    by_key behind (Some c) is e = by_value behind c is (joined_slot v b) refl e

key_type_is : (k : ValueType) (key : KeyType) → key_type_of k ≡ Some key → type_of_key key ≡ k
key_type_is bool_type key e = let it : keys.Bool ≡ key = cc in ap type_of_key (sym it)
key_type_is int_type key e = let it : keys.Int ≡ key = cc in ap type_of_key (sym it)
key_type_is uint_type key e = let it : keys.Uint ≡ key = cc in ap type_of_key (sym it)
key_type_is text_type key e = let it : keys.Text ≡ key = cc in ap type_of_key (sym it)
key_type_is bytes_type key e = cc
key_type_is (list_type t) key e = cc
key_type_is (map_type k t) key e = cc

in_turn_typed : (k : ValueType) (key : KeyType) (t : ValueType) (xs : List CelAnswer) → type_of_key key ≡ k
    → InTurn (of k) (of t) xs → EntriesFit key t xs
in_turn_typed k key t [] is f = tt
in_turn_typed k key t (x ∷ []) is f = f
in_turn_typed k key t (x ∷ y ∷ rest) is f = (rw is f.0, f.1, in_turn_typed k key t rest is f.2)

-- a map literal that has an error among its operands answers an error
first_fails : (v : Slot) (x : CelAnswer) (rest : List CelAnswer) → MayHold failing x → Gives (map_literal (x ∷ rest)) v
first_fails v (fails e) rest f = tt
first_fails v (value u) rest f = absurd f

second_fails : (v : Slot) (x y : CelAnswer) (rest : List CelAnswer) → MayHold failing y
    → Gives (map_literal (x ∷ y ∷ rest)) v
second_fails v (fails e) y rest f = tt
second_fails v (value u) (fails e) rest f = tt
second_fails v (value u) (value w) rest f = absurd f

mapped : (j w : Slot) (x : CelAnswer) (xs : List CelAnswer) (r : Slot) → InTurn j w (x ∷ xs)
    → map_of_slots (j, w) ≡ Some r → Gives (map_literal (x ∷ xs)) r
mapped j w x [] r f e = absurd f
mapped failing w x (y ∷ rest) r f e = first_fails r x (y ∷ rest) f.0
mapped (of k) failing x (y ∷ rest) r f e = second_fails r x y rest f.1
mapped (of k) (of t) x (y ∷ rest) r f e = by_key (key_type_of k) refl e
  where
    by_key : (o : Option KeyType) → key_type_of k ≡ o → option_map (λ key. of (map_type key t)) o ≡ Some r
        → Gives (map_literal (x ∷ y ∷ rest)) r
    by_key None is e = cc
    by_key (Some key) is e =
        rw (← some_is (of (map_type key t)) r e)
        (made key t (gather (x ∷ y ∷ rest)) (entries_written key t (x ∷ y ∷ rest)
        (in_turn_typed k key t (x ∷ y ∷ rest) (key_type_is k key is) f)))

pub map_literal_typed : KeepsAll map_literal_slot map_literal
map_literal_typed [] xs f r is = cc
map_literal_typed (a ∷ rest) [] f r is = absurd f
map_literal_typed (a ∷ rest) (x ∷ xs) f r is = by_join (joined_entries failing failing (a ∷ rest)) refl is
  where
    by_join : (o : Option (Slot × Slot)) → joined_entries failing failing (a ∷ rest) ≡ o
        → option_and_then map_of_slots o ≡ Some r → Gives (map_literal (x ∷ xs)) r
    by_join None is e = cc
    by_join (Some p) is e =
        let joined = entries_joined failing failing (a ∷ rest) p.0 p.1 (x ∷ xs) is f in
        mapped p.0 p.1 x xs r joined.0 e
