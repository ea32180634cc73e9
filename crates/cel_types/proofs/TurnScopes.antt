-- The scopes of turns, for one variable and for two: what is known of their locals, and their lengths.
use Rattle.std.proofs.Common.{arith, ◌≡◌, ◌+◌, ◌-◌, ◌≤◌, max, suc, ℕ, List, [], ◌∷◌, ◌++◌, length, map, refl, ap}
use Rattle.cel_value.specs.Types.{ValueType, list_type, map_type}
use Rattle.cel_types.specs.Names.{Scope, bound, turn_scope, variable_count, variable_names, variables_of}
use Rattle.cel_types.specs.Typing.{IsOver, Kinds, greatest}
use Rattle.std.proofs.Math.Nat.{le-max_left, le-max_right, max-le}

-- what is known of locals, without their names
abbrev pub known : {A : Type 0} → Scope A → List A
known [] = []
known (l ∷ ls) = l.1 ∷ known ls

-- the same names with another thing known of each
abbrev pub scoped : {A B : Type 0} → (A → B) → Scope A → Scope B
scoped f [] = []
scoped f (l ∷ ls) = (l.0, f l.1) ∷ scoped f ls

names_count : (x y : List ℕ) → length (variable_names x y) ≡ variable_count (variables_of y)
names_count x [] = refl
names_count x (c ∷ y) = refl

-- each variable has a type
pub over_length : (x y : List ℕ) (w : ValueType) (each : List ValueType) → IsOver (variables_of y) w each
    → length each ≡ length (variable_names x y)
over_length x [] (list_type s) each is = ap length is
over_length x [] (map_type k s) each is = ap length is
over_length x [] _ each is = absurd is
over_length x (c ∷ y) (list_type s) each is = ap length is
over_length x (c ∷ y) (map_type k s) each is = ap length is
over_length x (c ∷ y) _ each is = absurd is

known_bound : {A : Type 0} (names : List (List ℕ)) (things : List A) (ls : Scope A)
    → length things ≡ length names → known (bound names things ++ ls) ≡ things ++ known ls
known_bound [] [] ls e = refl
known_bound [] (a ∷ things) ls e = absurd (omega (arith, e))
known_bound (name ∷ names) [] ls e = absurd (omega (arith, e))
known_bound (name ∷ names) (a ∷ things) ls e =
    ap (λ l. a ∷ l) (known_bound names things ls (omega (arith, e)))

-- what is known of a turn's locals
pub known_turn : {A : Type 0} (x y acc : List ℕ) (things : List A) (a : A) (ls : Scope A)
    → length things ≡ length (variable_names x y)
    → known (turn_scope x y acc things a ls) ≡ things ++ a ∷ known ls
known_turn x y acc things a ls e = known_bound (variable_names x y) things ((acc, a) ∷ ls) e

bound_length : {A : Type 0} (names : List (List ℕ)) (things : List A) (ls : Scope A)
    → length things ≡ length names → length (bound names things ++ ls) ≡ length names + length ls
bound_length [] [] ls e = omega arith
bound_length [] (a ∷ things) ls e = absurd (omega (arith, e))
bound_length (name ∷ names) [] ls e = absurd (omega (arith, e))
bound_length (name ∷ names) (a ∷ things) ls e =
    let more = bound_length names things ls (omega (arith, e)) in omega (arith, more)

-- how many locals a turn has
pub turn_length : (x y acc : List ℕ) (w : ValueType) (each : List ValueType) (a : ValueType) (ks : Kinds)
    → IsOver (variables_of y) w each
    → length (turn_scope x y acc each a ks) ≡ variable_count (variables_of y) + (1 + length ks)
turn_length x y acc w each a ks is =
    let count = names_count x y in
    let long : length (turn_scope x y acc each a ks) ≡ length (variable_names x y) + suc (length ks) =
    bound_length (variable_names x y) each ((acc, a) ∷ ks) (over_length x y w each is) in
    omega (arith, count, long)

-- where a comprehension has few locals, so do its condition and its step
pub turn_fits : (x y acc : List ℕ) (w : ValueType) (each : List ValueType) (a : ValueType) (ks turn : Kinds)
    → turn ≡ turn_scope x y acc each a ks → IsOver (variables_of y) w each → (b d c s e : ℕ)
    → length ks + greatest b d (variable_count (variables_of y) + 1 + c)
    (variable_count (variables_of y) + 1 + s) (1 + e) ≤ 64
    → length turn + max c s ≤ 64
turn_fits x y acc w each a ks turn is over b d c s e few =
    let v = variable_count (variables_of y) in
    let p = v + 1 + c in
    let q = v + 1 + s in
    let r = 1 + e in
    let same : length turn ≡ length (turn_scope x y acc each a ks) = ap length is in
    let long : length (turn_scope x y acc each a ks) ≡ v + (1 + length ks) =
    turn_length x y acc w each a ks over in
    let first : p ≤ max p (max q r) = le-max_left p (max q r) in
    let second : q ≤ max q r = le-max_left q r in
    let inner : max q r ≤ max p (max q r) = le-max_right p (max q r) in
    let middle : max p (max q r) ≤ max d (max p (max q r)) = le-max_right d (max p (max q r)) in
    let outer : max d (max p (max q r)) ≤ max b (max d (max p (max q r))) =
    le-max_right b (max d (max p (max q r))) in
    let on_condition : length turn + c ≤ 64 = omega (arith, same, long, first, middle, outer, few) in
    let on_step : length turn + s ≤ 64 = omega (arith, same, long, second, inner, middle, outer, few) in
    let most : max c s ≤ 64 - length turn =
    max-le {k = 64 - length turn} (omega (arith, on_condition)) (omega (arith, on_step)) in
    omega (arith, most, on_condition)

scoped_bound : {A B : Type 0} (f : A → B) (names : List (List ℕ)) (things : List A) (ls : Scope A)
    → scoped f (bound names things ++ ls) ≡ bound names (map f things) ++ scoped f ls
scoped_bound f [] things ls = refl
scoped_bound f (name ∷ names) [] ls = refl
scoped_bound f (name ∷ names) (a ∷ things) ls =
    ap (λ l. (name, f a) ∷ l) (scoped_bound f names things ls)

-- a turn's names, with another thing known of each
pub scoped_turn : {A B : Type 0} (f : A → B) (x y acc : List ℕ) (things : List A) (a : A) (ls : Scope A)
    → scoped f (turn_scope x y acc things a ls) ≡ turn_scope x y acc (map f things) (f a) (scoped f ls)
scoped_turn f x y acc things a ls = scoped_bound f (variable_names x y) things ((acc, a) ∷ ls)
