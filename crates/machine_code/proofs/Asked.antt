-- What operations answer to operands of the kinds that the table of shapes asks for.
use Rattle.std.proofs.Common.{◌≡◌, Bool, true, false, ◌&&◌, if◌then◌else◌, List, Option, Some, None, refl}
use Rattle.cel_value.specs.Values.{CelAnswer, value, fails}
use Rattle.cel_value.specs.Types.{ValueType, type_eq}
use Rattle.cel_value.specs.private.EqualityLaws.{type_eq_decides}
use Rattle.machine_code.specs.Slots.{Slot, failing, of, SlotFits, is_a, of_type_if, joined_slot}
use Rattle.machine_code.specs.private.Holding.{MayHold}
use Rattle.std.specs.Option.{option_and_then}
use Rattle.std.proofs.lemmas.Bool.{and_parts}
use Rattle.machine_code.proofs.Fitting.{StackFits, slot_refl, slot_fits}

-- there is an answer, and the slot may hold it
abbrev pub Gives : Option CelAnswer → Slot → Type 0
Gives None r = ⊥
Gives (Some x) r = MayHold r x

-- an operation on one slot answers what the slot may hold that it leaves
abbrev pub KeepsOne : (Slot → Option Slot) → (CelAnswer → Option CelAnswer) → Type 0
KeepsOne result answer = (a : Slot) (x : CelAnswer) → MayHold a x
    → (r : Slot) → result a ≡ Some r → Gives (answer x) r

-- the same of two
abbrev pub KeepsTwo : (Slot → Slot → Option Slot) → (CelAnswer → CelAnswer → Option CelAnswer) → Type 0
KeepsTwo result answer = (a b : Slot) (x y : CelAnswer) → MayHold a x → MayHold b y
    → (r : Slot) → result a b ≡ Some r → Gives (answer x y) r

-- the same of any number
abbrev pub KeepsAll : (List Slot → Option Slot) → (List CelAnswer → Option CelAnswer) → Type 0
KeepsAll result answer = (as' : List Slot) (xs : List CelAnswer) → StackFits as' xs
    → (r : Slot) → result as' ≡ Some r → Gives (answer xs) r

-- a slot that may be used as a type has a value of the type, or an error
pub as_type : (t : ValueType) (a : Slot) (x : CelAnswer) → is_a t a ≡ true → MayHold a x → MayHold (of t) x
as_type t a (fails e) is f = tt
as_type t failing (value v) is f = absurd f
as_type t (of s) (value v) is f = rw (← (type_eq_decides s t).0 is) f

pub some_is : {A : Type 0} (a b : A) → Some a ≡ Some b → a ≡ b
some_is a b e = cc

-- what a test lets through
pub given_if : (test : Bool) (t : ValueType) (r : Slot) → of_type_if test t ≡ Some r → (test ≡ true) × (of t ≡ r)
given_if true t r e = (refl, some_is (of t) r e)
given_if false t r e = cc

-- an operation on one type, on two
pub keeps_one : (t u : ValueType) (answer : CelAnswer → Option CelAnswer)
    → ((x : CelAnswer) → MayHold (of t) x → Gives (answer x) (of u))
    → KeepsOne (λ a. of_type_if (is_a t a) u) answer
keeps_one t u answer keeps a x f r e =
    let given = given_if (is_a t a) u r e in
    rw (← given.1) (keeps x (as_type t a x given.0 f))

pub keeps_two : (t u w : ValueType) (answer : CelAnswer → CelAnswer → Option CelAnswer)
    → ((x y : CelAnswer) → MayHold (of t) x → MayHold (of u) y → Gives (answer x y) (of w))
    → KeepsTwo (λ a b. of_type_if (is_a t a && is_a u b) w) answer
keeps_two t u w answer keeps a b x y f g r e =
    let given = given_if (is_a t a && is_a u b) w r e in
    let both = and_parts (is_a t a) (is_a u b) given.0 in
    rw (← given.1) (keeps x y (as_type t a x both.0 f) (as_type u b y both.1 g))

-- two slots fit their join
pub joined_fits : (a b c : Slot) → joined_slot a b ≡ Some c → SlotFits a c × SlotFits b c
joined_fits failing b c e = (tt, rw (some_is b c e) (slot_refl c))
joined_fits (of s) failing c e = (rw (some_is (of s) c e) (slot_refl c), tt)
joined_fits (of s) (of t) c e =
    let same = tested (type_eq s t) (of s) c e in
    let types : s ≡ t = (type_eq_decides s t).0 same.0 in
    (rw same.1 (slot_refl c), rw (← types, same.1) (slot_refl c))
  where
    tested : (b : Bool) (p q : Slot) → (if b then Some p else None) ≡ Some q → (b ≡ true) × (p ≡ q)
    tested true p q e = (refl, some_is p q e)
    tested false p q e = cc

-- what two slots hold their join holds
pub joined_holds : (a b c : Slot) (x y : CelAnswer) → joined_slot a b ≡ Some c → MayHold a x → MayHold b y
    → MayHold c x × MayHold c y
joined_holds a b c x y e f g =
    let fits = joined_fits a b c e in (slot_fits a c x fits.0 f, slot_fits b c y fits.1 g)

-- an operation on what two slots have in common
pub keeps_joined : (after : Slot → Option Slot) (answer : CelAnswer → CelAnswer → Option CelAnswer)
    → ((c : Slot) (x y : CelAnswer) → MayHold c x → MayHold c y → (r : Slot) → after c ≡ Some r → Gives (answer x y) r)
    → KeepsTwo (λ a b. option_and_then after (joined_slot a b)) answer
keeps_joined after answer keeps a b x y f g r e = by_join (joined_slot a b) refl e
  where
    by_join : (o : Option Slot) → joined_slot a b ≡ o → option_and_then after o ≡ Some r → Gives (answer x y) r
    by_join None is e = cc
    by_join (Some c) is e =
        let held = joined_holds a b c x y is f g in keeps c x y held.0 held.1 r e
