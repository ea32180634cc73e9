-- What is chosen is the table's: a call that an overload takes is chosen, and what is chosen takes it.
use Rattle.std.proofs.Common.{◌≡◌, ◌&&◌, Bool, true, false, cond, List, [], ◌∷◌, Some, None, refl, sym, ap}
use Rattle.std.proofs.lemmas.Bool.{and_parts}
use Rattle.std.proofs.lemmas.Option.{none-some}
use Rattle.cel_value.specs.Types.{ValueType, bool_type, int_type, uint_type, text_type, bytes_type, list_type, map_type, type_eq, type_of_key, is_ordered}
use Rattle.cel_value.specs.private.EqualityLaws.{type_eq_decides}
use Rattle.cel_ops.specs.Typed.{IsJoined, IsOrdered, IsSized}
use Rattle.cel_ops.specs.declared.arithmetic.ArithmeticOp.{ArithmeticOp}
use Rattle.cel_ops.specs.declared.arithmetic.ArithmeticOp.TheVariants as ops
use Rattle.cel_ops.specs.declared.comparison.CompareOp.{CompareOp}
use Rattle.cel_ops.specs.declared.comparison.CompareOp.TheVariants as compares
use Rattle.cel_ops.specs.declared.conversion.Conversion.TheVariants as kinds
use Rattle.cel_overload.specs.Functions.{may_take}
use Rattle.cel_overload.specs.Overloads.{IsCompared, IsNumber, IsOverload, Takes, function_of}
use Rattle.cel_overload.specs.private.Choosing.{are_both, are_compared, calculated, choose, choose_arithmetic, choose_binary, choose_on, choose_ternary, choose_to_text, choose_unary, is_joined, is_number, is_sized, when}
use Rattle.cel_overload.specs.declared.function.Function.{Function}
use Rattle.cel_overload.specs.declared.function.Function.TheVariants as functions
use Rattle.cel_overload.specs.declared.overload.Overload.{Overload}
use Rattle.cel_ops.specs.declared.operation.Operation.TheVariants as operations
use Rattle.cel_overload.specs.declared.overload.Overload.TheVariants as overloads

same : (s t : ValueType) → type_eq s t ≡ true → s ≡ t
same s t e = (type_eq_decides s t).0 e

pub itself : (t : ValueType) → type_eq t t ≡ true
itself t = (type_eq_decides t t).1 refl

-- ---- what an overload takes is chosen

pub ordered : (t : ValueType) → IsOrdered t → is_ordered t ≡ true
ordered bool_type h = refl
ordered int_type h = refl
ordered uint_type h = refl
ordered text_type h = refl
ordered bytes_type h = refl
ordered (list_type t) h = absurd h
ordered (map_type k t) h = absurd h

compared : (op : CompareOp) (t : ValueType) → IsCompared op t → are_compared op t t ≡ true
compared compares.Equal t h = itself t
compared compares.NotEqual t h = itself t
compared compares.Less t h = rw (ordered t h) (itself t)
compared compares.LessOrEqual t h = rw (ordered t h) (itself t)
compared compares.Greater t h = rw (ordered t h) (itself t)
compared compares.GreaterOrEqual t h = rw (ordered t h) (itself t)

calculates : (op : ArithmeticOp) (t : ValueType) → IsNumber t
    → choose_arithmetic op t t ≡ Some (overloads.Operate (operations.Arithmetic op), t)
calculates ops.Add int_type h = refl
calculates ops.Subtract int_type h = refl
calculates ops.Multiply int_type h = refl
calculates ops.Divide int_type h = refl
calculates ops.Remainder int_type h = refl
calculates ops.Add uint_type h = refl
calculates ops.Subtract uint_type h = refl
calculates ops.Multiply uint_type h = refl
calculates ops.Divide uint_type h = refl
calculates ops.Remainder uint_type h = refl
calculates op _ h = absurd h

joins : (t : ValueType) → IsJoined t
    → choose_arithmetic ops.Add t t ≡ Some ((overloads.Operate operations.Concat), t)
joins text_type h = refl
joins bytes_type h = refl
joins (list_type t) h = rw (itself t) refl
joins _ h = absurd h

sizes : (t : ValueType) → IsSized t → is_sized t ≡ true
sizes text_type h = refl
sizes bytes_type h = refl
sizes (list_type t) h = refl
sizes (map_type k t) h = refl
sizes _ h = absurd h

chosen_on : (o : Overload) (ts : List ValueType) (r : ValueType) → Takes o ts r
    → choose_on (function_of o) ts ≡ Some (o, r)
chosen_on (overloads.Operate operations.And) ts r h = rw (h.0, h.1) refl
chosen_on (overloads.Operate operations.Or) ts r h = rw (h.0, h.1) refl
chosen_on (overloads.Operate operations.Not) ts r h = rw (h.0, h.1) refl
chosen_on (overloads.Operate operations.NotStrictlyFalse) ts r h = rw (h.0, h.1) refl
chosen_on overloads.Conditional ts r h = rw h (rw (itself r) refl)
chosen_on (overloads.Operate (operations.Compare op)) ts r h = rw (h.2, h.3) (rw (compared op h.0 h.1) refl)
chosen_on (overloads.Operate (operations.Arithmetic op)) ts r h = rw (h.1) (calculates op r h.0)
chosen_on (overloads.Operate operations.Concat) ts r h = rw (h.1) (joins r h.0)
chosen_on (overloads.Operate operations.Negate) ts r h = rw (h.0, h.1) refl
chosen_on (overloads.Operate operations.ListIndex) ts r h = rw h refl
chosen_on (overloads.Operate operations.MapIndex) ts r h = rw (h.1) (rw (itself (type_of_key h.0)) refl)
chosen_on (overloads.Operate operations.InList) ts r h = rw (h.1, h.2) (rw (itself h.0) refl)
chosen_on (overloads.Operate operations.InMap) ts r h = rw (h.2, h.3) (rw (itself (type_of_key h.0)) refl)
chosen_on (overloads.Operate operations.Size) ts r h = rw (h.2, h.3) (rw (sizes h.0 h.1) refl)
chosen_on (overloads.Operate (operations.TestText test)) ts r h = rw (h.0, h.1) refl
chosen_on (overloads.Operate (operations.Convert kinds.UintToInt)) ts r h = rw (h.0, h.1) refl
chosen_on (overloads.Operate (operations.Convert kinds.IntToUint)) ts r h = rw (h.0, h.1) refl
chosen_on (overloads.Operate (operations.Convert kinds.IntToText)) ts r h = rw (h.0, h.1) refl
chosen_on (overloads.Operate (operations.Convert kinds.UintToText)) ts r h = rw (h.0, h.1) refl
chosen_on (overloads.Operate (operations.Convert kinds.BytesToText)) ts r h = rw (h.0, h.1) refl
chosen_on (overloads.Operate (operations.Convert kinds.TextToBytes)) ts r h = rw (h.0, h.1) refl

pub chosen : (f : Function) (target : Bool) (ts : List ValueType) (o : Overload) (r : ValueType)
    → IsOverload f target ts o r → choose f target ts ≡ Some (o, r)
chosen f target ts o r h =
    rw (h.shape) (rw (sym h.function) (chosen_on o ts r h.operands))

-- ---- what is chosen is an overload that takes the operands

-- an overload of the function that takes the operands
abbrev pub Fits : Function → List ValueType → Overload → ValueType → Type 0
Fits f ts o r = (function_of o ≡ f) × Takes o ts r

chosen_when : (Q : Overload → ValueType → Type 0) (fits : Bool) (o : Overload) (r : ValueType)
    (p : Overload) (s : ValueType) → when fits o r ≡ Some (p, s) → (fits ≡ true → Q o r) → Q p s
chosen_when Q true o r p s e h =
    let both : ◌≡◌ {A = Overload × ValueType} (o, r) (p, s) = cc in
    let first : o ≡ p = ap (λ x. x.0) both in
    let second : r ≡ s = ap (λ x. x.1) both in
    rw (sym first, sym second) (h refl)
chosen_when Q false o r p s e h = absurd (none-some (p, s) e)

pair : (s t u : ValueType) → are_both s t u ≡ true → (s ∷ t ∷ []) ≡ (u ∷ u ∷ [])
pair s t u e =
    let parts = and_parts (type_eq s u) (type_eq t u) e in
    rw (same s u parts.0, same t u parts.1) refl

is_ordered_fact : (t : ValueType) → is_ordered t ≡ true → IsOrdered t
is_ordered_fact bool_type h = tt
is_ordered_fact int_type h = tt
is_ordered_fact uint_type h = tt
is_ordered_fact text_type h = tt
is_ordered_fact bytes_type h = tt
is_ordered_fact (list_type t) h = cc
is_ordered_fact (map_type k t) h = cc

is_number_fact : (t : ValueType) → is_number t ≡ true → IsNumber t
is_number_fact int_type h = tt
is_number_fact uint_type h = tt
is_number_fact bool_type h = cc
is_number_fact text_type h = cc
is_number_fact bytes_type h = cc
is_number_fact (list_type t) h = cc
is_number_fact (map_type k t) h = cc

is_joined_fact : (t : ValueType) → is_joined t ≡ true → IsJoined t
is_joined_fact text_type h = tt
is_joined_fact bytes_type h = tt
is_joined_fact (list_type t) h = tt
is_joined_fact bool_type h = cc
is_joined_fact int_type h = cc
is_joined_fact uint_type h = cc
is_joined_fact (map_type k t) h = cc

is_sized_fact : (t : ValueType) → is_sized t ≡ true → IsSized t
is_sized_fact text_type h = tt
is_sized_fact bytes_type h = tt
is_sized_fact (list_type t) h = tt
is_sized_fact (map_type k t) h = tt
is_sized_fact bool_type h = cc
is_sized_fact int_type h = cc
is_sized_fact uint_type h = cc

are_compared_fact : (op : CompareOp) (s t : ValueType) → are_compared op s t ≡ true
    → IsCompared op s × (s ≡ t)
are_compared_fact compares.Equal s t e = (tt, same s t e)
are_compared_fact compares.NotEqual s t e = (tt, same s t e)
are_compared_fact compares.Less s t e =
    let parts = and_parts (is_ordered s) (type_eq s t) e in
    (is_ordered_fact s parts.0, same s t parts.1)
are_compared_fact compares.LessOrEqual s t e =
    let parts = and_parts (is_ordered s) (type_eq s t) e in
    (is_ordered_fact s parts.0, same s t parts.1)
are_compared_fact compares.Greater s t e =
    let parts = and_parts (is_ordered s) (type_eq s t) e in
    (is_ordered_fact s parts.0, same s t parts.1)
are_compared_fact compares.GreaterOrEqual s t e =
    let parts = and_parts (is_ordered s) (type_eq s t) e in
    (is_ordered_fact s parts.0, same s t parts.1)

twice : (s t : ValueType) → s ≡ t → (s ∷ t ∷ []) ≡ (s ∷ s ∷ [])
twice s t e = rw (sym e) refl

calculated_fits : (op : ArithmeticOp) (s t : ValueType) (o : Overload) (r : ValueType)
    → calculated op s t ≡ Some (o, r) → Fits (functions.Arithmetic op) (s ∷ t ∷ []) o r
calculated_fits op s t o r e =
    chosen_when (Fits (functions.Arithmetic op) (s ∷ t ∷ [])) (is_number s && type_eq s t)
    (overloads.Operate (operations.Arithmetic op)) s o r e (λ h.
    let parts = and_parts (is_number s) (type_eq s t) h in
    (refl, (is_number_fact s parts.0, twice s t (same s t parts.1))))

arithmetic_fits : (op : ArithmeticOp) (s t : ValueType) (o : Overload) (r : ValueType)
    → choose_arithmetic op s t ≡ Some (o, r) → Fits (functions.Arithmetic op) (s ∷ t ∷ []) o r
arithmetic_fits ops.Add s t o r e = at (is_joined s) refl e
  where
    at : (b : Bool) → is_joined s ≡ b
        → cond b (when (type_eq s t) (overloads.Operate operations.Concat) s) (calculated ops.Add s t) ≡ Some (o, r)
        → Fits (functions.Arithmetic ops.Add) (s ∷ t ∷ []) o r
    at true j e = chosen_when (Fits (functions.Arithmetic ops.Add) (s ∷ t ∷ [])) (type_eq s t)
        (overloads.Operate operations.Concat) s o r e (λ h. (refl, (is_joined_fact s j, twice s t (same s t h))))
    at false j e = calculated_fits ops.Add s t o r e
arithmetic_fits ops.Subtract s t o r e = calculated_fits ops.Subtract s t o r e
arithmetic_fits ops.Multiply s t o r e = calculated_fits ops.Multiply s t o r e
arithmetic_fits ops.Divide s t o r e = calculated_fits ops.Divide s t o r e
arithmetic_fits ops.Remainder s t o r e = calculated_fits ops.Remainder s t o r e

to_text_fits : (s : ValueType) (o : Overload) (r : ValueType)
    → choose_to_text s ≡ Some (o, r) → Fits functions.ToText (s ∷ []) o r
to_text_fits int_type o r e =
    chosen_when (Fits functions.ToText (int_type ∷ [])) true
    (overloads.Operate (operations.Convert kinds.IntToText)) text_type o r e (λ h. (refl, (refl, refl)))
to_text_fits uint_type o r e =
    chosen_when (Fits functions.ToText (uint_type ∷ [])) true
    (overloads.Operate (operations.Convert kinds.UintToText)) text_type o r e (λ h. (refl, (refl, refl)))
to_text_fits bytes_type o r e =
    chosen_when (Fits functions.ToText (bytes_type ∷ [])) true
    (overloads.Operate (operations.Convert kinds.BytesToText)) text_type o r e (λ h. (refl, (refl, refl)))
to_text_fits _ o r e = absurd (none-some (o, r) e)

unary_fits : (f : Function) (s : ValueType) (o : Overload) (r : ValueType)
    → choose_unary f s ≡ Some (o, r) → Fits f (s ∷ []) o r
unary_fits functions.Not s o r e =
    chosen_when (Fits functions.Not (s ∷ [])) (type_eq s bool_type) (overloads.Operate operations.Not) bool_type
    o r e (λ h. (refl, (rw (same s bool_type h) refl, refl)))
unary_fits functions.NotStrictlyFalse s o r e =
    chosen_when (Fits functions.NotStrictlyFalse (s ∷ [])) (type_eq s bool_type)
    (overloads.Operate operations.NotStrictlyFalse) bool_type
    o r e (λ h. (refl, (rw (same s bool_type h) refl, refl)))
unary_fits functions.Negate s o r e =
    chosen_when (Fits functions.Negate (s ∷ [])) (type_eq s int_type) (overloads.Operate operations.Negate) int_type
    o r e (λ h. (refl, (rw (same s int_type h) refl, refl)))
unary_fits functions.Size s o r e =
    chosen_when (Fits functions.Size (s ∷ [])) (is_sized s) (overloads.Operate operations.Size) int_type
    o r e (λ h. (refl, (s, is_sized_fact s h, refl, refl)))
unary_fits functions.ToInt s o r e =
    chosen_when (Fits functions.ToInt (s ∷ [])) (type_eq s uint_type)
    (overloads.Operate (operations.Convert kinds.UintToInt)) int_type
    o r e (λ h. (refl, (rw (same s uint_type h) refl, refl)))
unary_fits functions.ToUint s o r e =
    chosen_when (Fits functions.ToUint (s ∷ [])) (type_eq s int_type)
    (overloads.Operate (operations.Convert kinds.IntToUint)) uint_type
    o r e (λ h. (refl, (rw (same s int_type h) refl, refl)))
unary_fits functions.ToText s o r e = to_text_fits s o r e
unary_fits functions.ToBytes s o r e =
    chosen_when (Fits functions.ToBytes (s ∷ [])) (type_eq s text_type)
    (overloads.Operate (operations.Convert kinds.TextToBytes)) bytes_type
    o r e (λ h. (refl, (rw (same s text_type h) refl, refl)))
unary_fits _ s o r e = absurd (none-some (o, r) e)

index_fits : (s t : ValueType) (o : Overload) (r : ValueType)
    → choose_binary functions.Index s t ≡ Some (o, r) → Fits functions.Index (s ∷ t ∷ []) o r
index_fits (list_type s) t o r e =
    chosen_when (Fits functions.Index (list_type s ∷ t ∷ [])) (type_eq t int_type)
    (overloads.Operate operations.ListIndex) s o r e (λ h. (refl, rw (same t int_type h) refl))
index_fits (map_type k s) t o r e =
    chosen_when (Fits functions.Index (map_type k s ∷ t ∷ [])) (type_eq t (type_of_key k))
    (overloads.Operate operations.MapIndex) s o r e (λ h. (refl, (k, rw (same t (type_of_key k) h) refl)))
index_fits _ t o r e = absurd (none-some (o, r) e)

in_fits : (s t : ValueType) (o : Overload) (r : ValueType)
    → choose_binary functions.In s t ≡ Some (o, r) → Fits functions.In (s ∷ t ∷ []) o r
in_fits s (list_type t) o r e =
    chosen_when (Fits functions.In (s ∷ list_type t ∷ [])) (type_eq s t)
    (overloads.Operate operations.InList) bool_type o r e (λ h. (refl, (t, rw (same s t h) refl, refl)))
in_fits s (map_type k t) o r e =
    chosen_when (Fits functions.In (s ∷ map_type k t ∷ [])) (type_eq s (type_of_key k))
    (overloads.Operate operations.InMap) bool_type o r e (λ h. (refl, (k, t, rw (same s (type_of_key k) h) refl, refl)))
in_fits s _ o r e = absurd (none-some (o, r) e)

binary_fits : (f : Function) (s t : ValueType) (o : Overload) (r : ValueType)
    → choose_binary f s t ≡ Some (o, r) → Fits f (s ∷ t ∷ []) o r
binary_fits functions.And s t o r e =
    chosen_when (Fits functions.And (s ∷ t ∷ [])) (are_both s t bool_type)
    (overloads.Operate operations.And) bool_type o r e (λ h. (refl, (pair s t bool_type h, refl)))
binary_fits functions.Or s t o r e =
    chosen_when (Fits functions.Or (s ∷ t ∷ [])) (are_both s t bool_type)
    (overloads.Operate operations.Or) bool_type o r e (λ h. (refl, (pair s t bool_type h, refl)))
binary_fits (functions.Compare op) s t o r e =
    chosen_when (Fits (functions.Compare op) (s ∷ t ∷ [])) (are_compared op s t)
    (overloads.Operate (operations.Compare op)) bool_type o r e (λ h.
    let parts = are_compared_fact op s t h in (refl, (s, parts.0, twice s t parts.1, refl)))
binary_fits (functions.Arithmetic op) s t o r e = arithmetic_fits op s t o r e
binary_fits functions.Index s t o r e = index_fits s t o r e
binary_fits functions.In s t o r e = in_fits s t o r e
binary_fits (functions.TestText test) s t o r e =
    chosen_when (Fits (functions.TestText test) (s ∷ t ∷ [])) (are_both s t text_type)
    (overloads.Operate (operations.TestText test)) bool_type o r e (λ h. (refl, (pair s t text_type h, refl)))
binary_fits _ s t o r e = absurd (none-some (o, r) e)

ternary_fits : (f : Function) (s t u : ValueType) (o : Overload) (r : ValueType)
    → choose_ternary f s t u ≡ Some (o, r) → Fits f (s ∷ t ∷ u ∷ []) o r
ternary_fits functions.Conditional s t u o r e =
    chosen_when (Fits functions.Conditional (s ∷ t ∷ u ∷ [])) (type_eq s bool_type && type_eq t u)
    overloads.Conditional t o r e (λ h.
    let parts = and_parts (type_eq s bool_type) (type_eq t u) h in
    (refl, rw (same s bool_type parts.0, sym (same t u parts.1)) refl))
ternary_fits _ s t u o r e = absurd (none-some (o, r) e)

on_fits : (f : Function) (ts : List ValueType) (o : Overload) (r : ValueType)
    → choose_on f ts ≡ Some (o, r) → Fits f ts o r
on_fits f [] o r e = absurd (none-some (o, r) e)
on_fits f (s ∷ []) o r e = unary_fits f s o r e
on_fits f (s ∷ t ∷ []) o r e = binary_fits f s t o r e
on_fits f (s ∷ t ∷ u ∷ []) o r e = ternary_fits f s t u o r e
on_fits f (s ∷ t ∷ u ∷ v ∷ ts) o r e = absurd (none-some (o, r) e)

pub chosen_fits : (f : Function) (target : Bool) (ts : List ValueType) (o : Overload)
    (r : ValueType) → choose f target ts ≡ Some (o, r) → IsOverload f target ts o r
chosen_fits f target ts o r e = at (may_take f target) refl e
  where
    at : (b : Bool) → may_take f target ≡ b → cond b (choose_on f ts) None ≡ Some (o, r)
        → IsOverload f target ts o r
    at true shape e =
        let fits = on_fits f ts o r e in
        record { function = fits.0; shape = shape; operands = fits.1 }
    at false shape e = absurd (none-some (o, r) e)
