-- Where instructions lead from shapes of well typed code.
use Rattle.std.proofs.Common.{◌≡◌, ℕ, suc, ◌+◌, ◌*◌, ◌<◌, ◌≤◌, ◌^◌, Bool, true, false, cond, nat_eq, nat_le, nat_lt, List, [], ◌∷◌, ◌++◌, length, reverse, take, drop, map, Option, Some, None, option_map, refl, sym, ap, ◌∙◌, subst, arith, append_assoc, length-append, ne_eqb, if◌then◌else◌}
use Rattle.std.specs.Option.{option_and_then}
use Rattle.std.proofs.lemmas.Bool.Decides.{nat_tests}
use Rattle.std.proofs.lemmas.Grind.{reverse_onto}
use Rattle.std.proofs.lemmas.List.{length-map, length-reverse, reverse-reverse}
use Rattle.std.proofs.Math.Seq.{take-append_seam, drop-append_seam}
use Rattle.cel_value.specs.Types.{HasType, ValueType, bool_type, int_type, uint_type, text_type, bytes_type, list_type, map_type, type_of_key, key_type_of}
use Rattle.cel_value.specs.Values.{CelValue, bool, int, uint, text, bytes}
use Rattle.cel_value.specs.declared.cel_type.KeyType.{KeyType}
use Rattle.cel_value.specs.declared.cel_type.KeyType.TheVariants as keys
use Rattle.cel_ops.specs.Arithmetic.{is_int64}
use Rattle.cel_ops.specs.Typed.{IsJoined, IsSized}
use Rattle.cel_ops.specs.declared.comparison.CompareOp.{CompareOp}
use Rattle.cel_ops.specs.declared.comparison.CompareOp.TheVariants as comparisons
use Rattle.cel_overload.specs.Overloads.{IsCompared, IsNumber, Takes}
use Rattle.cel_overload.specs.declared.overload.Overload.{Overload}
use Rattle.cel_ops.specs.declared.conversion.Conversion.TheVariants as conversions
use Rattle.cel_ops.specs.declared.operation.Operation.TheVariants as operations
use Rattle.cel_overload.specs.declared.overload.Overload.TheVariants as overloads
use Rattle.cel_types.specs.Elaborated.{TypedTrees, kinds, no_typed, typed}
use Rattle.cel_types.specs.TypedMeaning.{local_at}
use Rattle.cel_types.specs.Typing.{IsOver, constant_type}
use Rattle.cel_types.specs.WellTyped.{AreAll, AreKeyed}
use Rattle.cel_types.specs.declared.typed.Variables.{Variables}
use Rattle.cel_types.specs.declared.typed.Variables.TheVariants as variables
use Rattle.machine_code.specs.Instructions.{Instruction}
use Rattle.machine_code.specs.Locals.{with_local}
use Rattle.machine_code.specs.Slots.{Slot, of, arithmetic_slot, compare_slot, concat_slot, constant_slot, has_size, in_list_slot, in_map_slot, joined_all, joined_entries, joined_slot, list_literal_slot, list_of, loop_slot, map_index_slot, map_literal_slot, map_of_slots, may_compare, of_type_if, size_slot}
use Rattle.machine_code.specs.Shapes.{Shape, Way, binary, leaves, literal, unary, ways}
use Rattle.cel_compile.specs.Codes.{count, instruction_of, list_instruction, map_instruction, pairs}
use Rattle.cel_compile.proofs.Calls.{IsStrict}
use Rattle.cel_compile.proofs.Sound.{some_list, some_map}
use Rattle.cel_overload.proofs.Choosing.{ordered}
pub use Rattle.cel_overload.proofs.Choosing.{itself as type_self}
use Rattle.cel_ops.proofs.Numbers.{fits_int64, below_uint64}

-- ---- shapes

-- what is known of locals of these types, the innermost first
abbrev pub locals_of : List ValueType → ℕ → Option Slot
locals_of [] = λ l. None
locals_of (t ∷ ks) = with_local (locals_of ks) (length ks) (of t)

-- these slots and open loops, and locals of these types
abbrev pub shape : List Slot → List ValueType → List Slot → Shape
shape slots ks loops = record { slots = slots; locals = locals_of ks; loops = loops }

-- the way to a position with this shape
abbrev pub to : ℕ → Shape → Way
to p s = record { target = p; shape = s }

-- slots of these types in turn, the last on top
abbrev pub pushed : List ValueType → List Slot → List Slot
pushed [] slots = slots
pushed (t ∷ ts) slots = pushed ts (of t ∷ slots)

-- ---- locals

-- a local in scope is known
pub known_local : (ks : List ValueType) (outside : ℕ) (t : ValueType) → local_at outside ks ≡ Some t → locals_of ks outside ≡ Some (of t)
known_local [] outside t e = absurd cc
known_local (k ∷ ks) outside t e = by_test (nat_eq outside (length ks)) e (known_local ks outside t)
  where
    by_test : (b : Bool) → cond b (Some k) (local_at outside ks) ≡ Some t
        → (local_at outside ks ≡ Some t → locals_of ks outside ≡ Some (of t))
        → cond b (Some (of k)) (locals_of ks outside) ≡ Some (of t)
    by_test true e more = let same : k ≡ t = cc in ap (λ z. Some (of z)) same
    by_test false e more = more e

known_below : (ks : List ValueType) (l : ℕ) (a : Slot) → locals_of ks l ≡ Some a → l < length ks
known_below [] l a e = absurd cc
known_below (k ∷ ks) l a e = by_test (nat_eq l (length ks)) refl e (known_below ks l a)
  where
    by_test : (b : Bool) → nat_eq l (length ks) ≡ b → cond b (Some (of k)) (locals_of ks l) ≡ Some a
        → (locals_of ks l ≡ Some a → l < length ks) → l < suc (length ks)
    by_test true is e more = let same : l ≡ length ks = grind (arith, nat_tests) in omega (arith, same)
    by_test false is e more = let below = more e in omega (arith, below)

-- one more local changes none of the others
pub known_still : (ks : List ValueType) (t : ValueType) (l : ℕ) (a : Slot) → locals_of ks l ≡ Some a → locals_of (t ∷ ks) l ≡ Some a
known_still ks t l a e =
    let below = known_below ks l a e in rw (ne_eqb l (length ks) (λ same. omega (arith, same, below))) e

-- nor do several more
pub known_outside : (each ks : List ValueType) (l : ℕ) (a : Slot) → locals_of ks l ≡ Some a → locals_of (each ++ ks) l ≡ Some a
known_outside [] ks l a e = e
known_outside (t ∷ each) ks l a e = known_still (each ++ ks) t l a (known_outside each ks l a e)

-- what is gathered is known again behind the step
pub known_again : (each ks : List ValueType) (t s : ValueType) (l : ℕ) (a : Slot) → s ≡ t → locals_of (t ∷ ks) l ≡ Some a
    → with_local (locals_of (each ++ t ∷ ks)) (length ks) (of s) l ≡ Some a
known_again each ks t s l a same e = rw same (by_test (nat_eq l (length ks)) e
    (λ h. known_outside each (t ∷ ks) l a (known_still ks t l a h)))
  where
    by_test : (b : Bool) → cond b (Some (of t)) (locals_of ks l) ≡ Some a
        → (locals_of ks l ≡ Some a → locals_of (each ++ t ∷ ks) l ≡ Some a)
        → cond b (Some (of t)) (locals_of (each ++ t ∷ ks) l) ≡ Some a
    by_test true e more = e
    by_test false e more = more e

-- ---- constants

given : (b : Bool) (s t : ValueType) → b ≡ true → Some s ≡ Some t → of_type_if b s ≡ Some (of t)
given b s t is e = let same : s ≡ t = cc (e) in rw (is, same) refl

pub constant_known : (v : CelValue) (t : ValueType) → constant_type v ≡ Some t → HasType v t → constant_slot v ≡ Some (of t)
constant_known (bool b) t e h = given true bool_type t refl e
constant_known (int i) t e h =
    let same : int_type ≡ t = cc in
    let fits : HasType (int i) int_type = subst (λ z. HasType (int i) z) (sym same) h in
    given (is_int64 i) int_type t (fits_int64 i fits) e
constant_known (uint n) t e h =
    let same : uint_type ≡ t = cc in
    let fits : HasType (uint n) uint_type = subst (λ z. HasType (uint n) z) (sym same) h in
    given (nat_lt n (2 ^ 64)) uint_type t (below_uint64 n fits) e
constant_known (text cs) t e h =
    let same : text_type ≡ t = cc in
    let fits : HasType (text cs) text_type = subst (λ z. HasType (text cs) z) (sym same) h in
    given _ text_type t fits e
constant_known (bytes bs) t e h = given true bytes_type t refl e
constant_known _ t e h = absurd cc

-- ---- slots of one type

joined_self : (t : ValueType) → joined_slot (of t) (of t) ≡ Some (of t)
joined_self t = rw (type_self t) refl

compared : (op : CompareOp) (t : ValueType) → IsCompared op t → may_compare op (of t) ≡ true
compared comparisons.Equal t h = refl
compared comparisons.NotEqual t h = refl
compared _ t h = ordered t h

sized : (t : ValueType) → IsSized t → has_size (of t) ≡ true
sized text_type h = refl
sized bytes_type h = refl
sized (list_type t) h = refl
sized (map_type k t) h = refl
sized _ h = absurd h

compare_known : (op : CompareOp) (t : ValueType) → IsCompared op t → compare_slot op (of t) (of t) ≡ Some (of bool_type)
compare_known op t h =
    ap (option_and_then (λ c. of_type_if (may_compare op c) bool_type)) (joined_self t)
    ∙ ap (λ b. of_type_if b bool_type) (compared op t h)

number_known : (t : ValueType) → IsNumber t → arithmetic_slot (of t) (of t) ≡ Some (of t)
number_known int_type h = refl
number_known uint_type h = refl
number_known _ h = absurd h

concat_known : (t : ValueType) → IsJoined t → concat_slot (of t) (of t) ≡ Some (of t)
concat_known text_type h = refl
concat_known bytes_type h = refl
concat_known (list_type t) h = rw (type_self t) refl
concat_known _ h = absurd h

key_known : (k : KeyType) → key_type_of (type_of_key k) ≡ Some k
key_known keys.Bool = refl
key_known keys.Int = refl
key_known keys.Uint = refl
key_known keys.Text = refl

-- what the variables of a loop over the range get, the innermost first
pub walked : Variables → ValueType → List ValueType
walked variables.One (list_type s) = s ∷ []
walked variables.One (map_type k s) = type_of_key k ∷ []
walked variables.Two (list_type s) = s ∷ int_type ∷ []
walked variables.Two (map_type k s) = s ∷ type_of_key k ∷ []
walked vars t = []

pub walked_is : (vars : Variables) (t : ValueType) (each : List ValueType) → IsOver vars t each → each ≡ walked vars t
unfolding walked
walked_is variables.One (list_type s) each h = h
walked_is variables.One (map_type k s) each h = h
walked_is variables.Two (list_type s) each h = h
walked_is variables.Two (map_type k s) each h = h
walked_is variables.One _ each h = absurd h
walked_is variables.Two _ each h = absurd h

-- a loop opens over the range
pub loop_known : (vars : Variables) (t : ValueType) (each : List ValueType) → IsOver vars t each → (a : Slot) × (loop_slot (of t) ≡ Some a)
loop_known variables.One (list_type s) each h = (of s, refl)
loop_known variables.One (map_type k s) each h = (of (type_of_key k), refl)
loop_known variables.Two (list_type s) each h = (of s, refl)
loop_known variables.Two (map_type k s) each h = (of (type_of_key k), refl)
loop_known variables.One _ each h = absurd h
loop_known variables.Two _ each h = absurd h

-- ---- calls

module _ (m : ℕ) (slots : List Slot) (ks : List ValueType) (loops : List Slot) where
  -- the instruction leaves this type in the place of these
  abbrev pub Leaves : Instruction → List ValueType → ValueType → Type 0
  Leaves i ts t = ways i m (shape (pushed ts slots) ks loops) ≡ Some (to (m + 1) (shape (of t ∷ slots) ks loops) ∷ [])

  one : (f : Slot → Option Slot) (a : ValueType) (t : ValueType) (ts : List ValueType) → ts ≡ a ∷ [] → f (of a) ≡ Some (of t)
      → unary f m (shape (pushed ts slots) ks loops) ≡ Some (to (m + 1) (shape (of t ∷ slots) ks loops) ∷ [])
  one f a t ts are e =
      ap (λ z. unary f m (shape (pushed z slots) ks loops)) are
      ∙ ap (λ o. leaves o m (shape (of a ∷ slots) ks loops) slots) e

  two : (f : Slot → Slot → Option Slot) (a b : ValueType) (t : ValueType) (ts : List ValueType) → ts ≡ a ∷ b ∷ [] → f (of a) (of b) ≡ Some (of t)
      → binary f m (shape (pushed ts slots) ks loops) ≡ Some (to (m + 1) (shape (of t ∷ slots) ks loops) ∷ [])
  two f a b t ts are e =
      ap (λ z. binary f m (shape (pushed z slots) ks loops)) are
      ∙ ap (λ o. leaves o m (shape (of b ∷ of a ∷ slots) ks loops) slots) e

  pub call_leaves : (o : Overload) (ts : List ValueType) (t : ValueType) → IsStrict o → Takes o ts t → Leaves (instruction_of o) ts t
  call_leaves (overloads.Operate operations.And) ts t s (are, is) = rw is (two _ bool_type bool_type bool_type ts are refl)
  call_leaves (overloads.Operate operations.Or) ts t s (are, is) = rw is (two _ bool_type bool_type bool_type ts are refl)
  call_leaves (overloads.Operate operations.Not) ts t s (are, is) = rw is (one _ bool_type bool_type ts are refl)
  call_leaves (overloads.Operate operations.NotStrictlyFalse) ts t s (are, is) = rw is (one _ bool_type bool_type ts are refl)
  call_leaves overloads.Conditional ts t s h = absurd s
  call_leaves (overloads.Operate (operations.Compare op)) ts t s (a, may, are, is) = rw is (two (compare_slot op) a a bool_type ts are (compare_known op a may))
  call_leaves (overloads.Operate (operations.Arithmetic op)) ts t s (number, are) = two arithmetic_slot t t t ts are (number_known t number)
  call_leaves (overloads.Operate operations.Concat) ts t s (joins, are) = two concat_slot t t t ts are (concat_known t joins)
  call_leaves (overloads.Operate operations.Negate) ts t s (are, is) = rw is (one _ int_type int_type ts are refl)
  call_leaves (overloads.Operate operations.ListIndex) ts t s are = two _ (list_type t) int_type t ts are refl
  call_leaves (overloads.Operate operations.MapIndex) ts t s (k, are) =
      two map_index_slot (map_type k t) (type_of_key k) t ts are (ap (λ b. of_type_if b t) (type_self (type_of_key k)))
  call_leaves (overloads.Operate operations.InList) ts t s (a, are, is) =
      rw is (two in_list_slot a (list_type a) bool_type ts are (ap (λ b. of_type_if b bool_type) (type_self a)))
  call_leaves (overloads.Operate operations.InMap) ts t s (k, a, are, is) =
      rw is (two in_map_slot (type_of_key k) (map_type k a) bool_type ts are (ap (λ b. of_type_if b bool_type) (type_self (type_of_key k))))
  call_leaves (overloads.Operate operations.Size) ts t s (a, sizes, are, is) =
      rw is (one size_slot a int_type ts are (ap (λ b. of_type_if b int_type) (sized a sizes)))
  call_leaves (overloads.Operate (operations.Convert conversions.UintToInt)) ts t s (are, is) = rw is (one _ uint_type int_type ts are refl)
  call_leaves (overloads.Operate (operations.Convert conversions.IntToUint)) ts t s (are, is) = rw is (one _ int_type uint_type ts are refl)
  call_leaves (overloads.Operate (operations.Convert conversions.IntToText)) ts t s (are, is) = rw is (one _ int_type text_type ts are refl)
  call_leaves (overloads.Operate (operations.Convert conversions.UintToText)) ts t s (are, is) = rw is (one _ uint_type text_type ts are refl)
  call_leaves (overloads.Operate (operations.Convert conversions.BytesToText)) ts t s (are, is) = rw is (one _ bytes_type text_type ts are refl)
  call_leaves (overloads.Operate (operations.Convert conversions.TextToBytes)) ts t s (are, is) = rw is (one _ text_type bytes_type ts are refl)
  call_leaves (overloads.Operate (operations.TestText test)) ts t s (are, is) = rw is (two _ text_type text_type bool_type ts are refl)

-- ---- literals

pushed_reversed : (ts : List ValueType) (slots : List Slot) → pushed ts slots ≡ reverse (map of ts) ++ slots
pushed_reversed [] slots = refl
pushed_reversed (t ∷ ts) slots = pushed_reversed ts (of t ∷ slots) ∙ turned
  where
    turned : reverse (map of ts) ++ of t ∷ slots ≡ reverse (of t ∷ map of ts) ++ slots
    turned =
        let e : reverse (of t ∷ map of ts) ≡ reverse (map of ts) ++ of t ∷ [] = reverse_onto (map of ts) (of t) [] in
        rw e (sym (append_assoc (reverse (map of ts)) (of t ∷ []) slots))

long : (ts : List ValueType) → length (reverse (map of ts)) ≡ length ts
long ts = length-reverse (map of ts) ∙ length-map ts of

top : (ts : List ValueType) (slots : List Slot) → reverse (take (length ts) (pushed ts slots)) ≡ map of ts
top ts slots =
    rw (pushed_reversed ts slots, sym (long ts), take-append_seam (reverse (map of ts)) slots) (reverse-reverse (map of ts))

under : (ts : List ValueType) (slots : List Slot) → drop (length ts) (pushed ts slots) ≡ slots
under ts slots = rw (pushed_reversed ts slots, sym (long ts)) (drop-append_seam (reverse (map of ts)) slots)

enough : (ts : List ValueType) (slots : List Slot) → nat_le (length ts) (length (pushed ts slots)) ≡ true
enough ts slots =
    let e : length (pushed ts slots) ≡ length ts + length slots =
    ap length (pushed_reversed ts slots) ∙ length-append (reverse (map of ts)) slots ∙ ap (λ n. n + length slots) (long ts) in
    let le : length ts ≤ length (pushed ts slots) = omega arith in
    grind (arith, nat_tests)

module _ (m : ℕ) (slots : List Slot) (ks : List ValueType) (loops : List Slot) where
  literal_leaves : (f : List Slot → Option Slot) (n : ℕ) (ts : List ValueType) (t : ValueType) → length ts ≡ n → f (map of ts) ≡ Some (of t)
      → literal f n m (shape (pushed ts slots) ks loops) ≡ Some (to (m + 1) (shape (of t ∷ slots) ks loops) ∷ [])
  literal_leaves f n ts t many e =
      let s = shape (pushed ts slots) ks loops in
      subst (λ n. literal f n m s ≡ Some (to (m + 1) (shape (of t ∷ slots) ks loops) ∷ [])) many
      (ap (λ b. if b then leaves (f (reverse (take (length ts) (pushed ts slots)))) m s (drop (length ts) (pushed ts slots)) else None) (enough ts slots)
      ∙ ap (λ o. leaves o m s (drop (length ts) (pushed ts slots))) (ap f (top ts slots) ∙ e)
      ∙ ap (λ z. leaves (Some (of t)) m s z) (under ts slots))

  -- elements of one type

  all_joined : (t : ValueType) (ts : List ValueType) → AreAll t ts → joined_all (of t) (map of ts) ≡ Some (of t)
  all_joined t [] h = refl
  all_joined t (s ∷ ts) h =
      rw (h.0) (ap (option_and_then (λ c. joined_all c (map of ts))) (joined_self t) ∙ all_joined t ts h.1)

  list_known : (t : ValueType) (s : ValueType) (ts : List ValueType) → AreAll t (s ∷ ts) → list_literal_slot (map of (s ∷ ts)) ≡ Some (of (list_type t))
  list_known t s ts h =
      rw (h.0) (ap (option_map list_of) (all_joined t ts h.1))

  counted : (es : TypedTrees) → length (kinds es) ≡ count es
  counted no_typed = refl
  counted (typed e es) = let rest = counted es in omega (arith, rest)

  pub list_leaves : (t s : ValueType) (es : TypedTrees) → t ≡ list_type s → AreAll s (kinds es)
      → Leaves m slots ks loops (list_instruction t es) (kinds es) t
  list_leaves t s no_typed is h = rw is refl
  list_leaves t s (typed e es) is h =
      rw (some_list t e es, is)
      (literal_leaves list_literal_slot (count (typed e es)) (kinds (typed e es)) (list_type s) (counted (typed e es)) (list_known s _ (kinds es) h))

  -- keys and values of one type each

  all_entries : (k : KeyType) (t : ValueType) (ts : List ValueType) → AreKeyed k t ts
      → joined_entries (of (type_of_key k)) (of t) (map of ts) ≡ Some (of (type_of_key k), of t)
  all_entries k t [] h = refl
  all_entries k t (j ∷ []) h = absurd h
  all_entries k t (j ∷ s ∷ ts) h =
      rw (h.0, h.1)
      (ap (option_and_then (λ x. option_and_then (λ w. joined_entries x w (map of ts)) (joined_slot (of t) (of t)))) (joined_self (type_of_key k))
      ∙ ap (option_and_then (λ w. joined_entries (of (type_of_key k)) w (map of ts))) (joined_self t)
      ∙ all_entries k t ts h.2)

  map_known : (k : KeyType) (t j s : ValueType) (ts : List ValueType) → AreKeyed k t (j ∷ s ∷ ts)
      → map_literal_slot (map of (j ∷ s ∷ ts)) ≡ Some (of (map_type k t))
  map_known k t j s ts h =
      rw (h.0, h.1)
      (ap (option_and_then map_of_slots) (all_entries k t ts h.2)
      ∙ ap (option_map (λ key. of (map_type key t))) (key_known k))

  paired : (k : KeyType) (t : ValueType) (es : TypedTrees) → AreKeyed k t (kinds es) → length (kinds es) ≡ 2 * pairs es
  paired k t no_typed h = refl
  paired k t (typed a no_typed) h = absurd h
  paired k t (typed a (typed b es)) h = let rest = paired k t es h.2 in omega (arith, rest)

  pub map_leaves : (t : ValueType) (k : KeyType) (s : ValueType) (es : TypedTrees) → t ≡ map_type k s → AreKeyed k s (kinds es)
      → Leaves m slots ks loops (map_instruction t es) (kinds es) t
  map_leaves t k s no_typed is h = rw is refl
  map_leaves t k s (typed a no_typed) is h = absurd h
  map_leaves t k s (typed a (typed b es)) is h =
      rw (some_map t a (typed b es), is)
      (literal_leaves map_literal_slot (2 * pairs (typed a (typed b es))) (kinds (typed a (typed b es))) (map_type k s)
      (paired k s (typed a (typed b es)) h) (map_known k s _ _ (kinds es) h))
