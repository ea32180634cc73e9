-- What an instruction is charged is at most its cost at the sizes of its operands.
use Rattle.std.proofs.Common.{◌≤◌, ◌+◌, ◌*◌, ℕ, List, [], ◌∷◌, length, arith, mul-le-mul, mul-le-mul_left}
use Rattle.cel_value.specs.Masses.{item_count, length_of, mass}
use Rattle.cel_value.specs.Texts.{utf8_of}
use Rattle.cel_value.specs.Types.{HasType, ValueType, bytes_type, text_type}
use Rattle.cel_value.specs.Values.{CelAnswer, CelValue, bool, bytes, fails, int, list, map_of, text, uint, value}
use Rattle.cel_ops.specs.Charges.{comparison_charge, counted_length, field_charge, in_list_charge, in_map_charge, joined_charge, keys_mass, list_literal_charge, loop_charge, map_index_charge, map_literal_charge, pair_count, size_charge, strict_charge_all, strict_charge_two}
use Rattle.cel_ops.specs.Strict.{Gathered, all_values, first_error, gather, gathered_after}
use Rattle.cel_overload.specs.Answers.{HaveTypes}
use Rattle.cel_overload.specs.private.Charges.{charge_of_one, charge_of_two, overload_charge}
use Rattle.cel_overload.specs.declared.overload.Overload.{Overload}
use Rattle.cel_ops.specs.declared.operation.Operation.TheVariants as operations
use Rattle.cel_overload.specs.declared.overload.Overload.TheVariants as overloads
use Rattle.cel_costs.specs.Costs.{charge_at, counted_cost, field_cost, keys_of, map_cost, masses}
use Rattle.cel_costs.specs.Sizes.{AllWithin, Fits, Size, Within, mass_of, most_of}
use Rattle.cel_costs.proofs.Conversions.{conversion_charged, conversion_some}
use Rattle.cel_costs.proofs.Joins.{length_within, mass_within}

-- each charge is 1 at least
pub charge_some : (o : Overload) (ts : List ValueType) (sizes : List Size)
    → 1 ≤ charge_at o ts sizes
charge_some (overloads.Operate (operations.Compare op)) ts [] = omega arith
charge_some (overloads.Operate (operations.Compare op)) ts (s ∷ []) = omega arith
charge_some (overloads.Operate (operations.Compare op)) ts (s ∷ t ∷ []) = omega arith
charge_some (overloads.Operate (operations.Compare op)) ts (s ∷ t ∷ u ∷ ss) = omega arith
charge_some (overloads.Operate (operations.TestText test)) ts [] = omega arith
charge_some (overloads.Operate (operations.TestText test)) ts (s ∷ []) = omega arith
charge_some (overloads.Operate (operations.TestText test)) ts (s ∷ t ∷ []) = omega arith
charge_some (overloads.Operate (operations.TestText test)) ts (s ∷ t ∷ u ∷ ss) = omega arith
charge_some (overloads.Operate operations.Concat) ts [] = omega arith
charge_some (overloads.Operate operations.Concat) ts (s ∷ []) = omega arith
charge_some (overloads.Operate operations.Concat) ts (s ∷ t ∷ []) = omega arith
charge_some (overloads.Operate operations.Concat) ts (s ∷ t ∷ u ∷ ss) = omega arith
charge_some (overloads.Operate operations.MapIndex) ts [] = omega arith
charge_some (overloads.Operate operations.MapIndex) ts (s ∷ []) = omega arith
charge_some (overloads.Operate operations.MapIndex) ts (s ∷ t ∷ []) = omega arith
charge_some (overloads.Operate operations.MapIndex) ts (s ∷ t ∷ u ∷ ss) = omega arith
charge_some (overloads.Operate operations.InMap) ts [] = omega arith
charge_some (overloads.Operate operations.InMap) ts (s ∷ []) = omega arith
charge_some (overloads.Operate operations.InMap) ts (s ∷ t ∷ []) = omega arith
charge_some (overloads.Operate operations.InMap) ts (s ∷ t ∷ u ∷ ss) = omega arith
charge_some (overloads.Operate operations.InList) ts [] = omega arith
charge_some (overloads.Operate operations.InList) ts (s ∷ []) = omega arith
charge_some (overloads.Operate operations.InList) ts (s ∷ t ∷ []) = omega arith
charge_some (overloads.Operate operations.InList) ts (s ∷ t ∷ u ∷ ss) = omega arith
charge_some (overloads.Operate operations.Size) [] sizes = omega arith
charge_some (overloads.Operate operations.Size) (t ∷ []) [] = omega arith
charge_some (overloads.Operate operations.Size) (t ∷ []) (s ∷ []) = omega arith
charge_some (overloads.Operate operations.Size) (t ∷ []) (s ∷ u ∷ ss) = omega arith
charge_some (overloads.Operate operations.Size) (t ∷ k ∷ ts) sizes = omega arith
charge_some (overloads.Operate (operations.Convert kind)) ts sizes = conversion_some kind ts sizes
charge_some _ ts sizes = omega arith

-- a charge of two values that is at most a cost is so of two answers
two_values : (f : CelValue → CelValue → ℕ) (n : ℕ) (s t : Size)
    → ((v w : CelValue) → Fits v s → Fits w t → f v w ≤ n) → (a b : CelAnswer) → Within a s
    → Within b t → strict_charge_two f a b ≤ 1 + n
two_values f n s t each (fails e) b h k = omega arith
two_values f n s t each (value v) (fails e) h k = omega arith
two_values f n s t each (value v) (value w) h k = let most = each v w h k in omega (arith, most)

-- and so of any operands
two_charged : (f : CelAnswer → CelAnswer → ℕ) (cost : List Size → ℕ)
    → ((sizes : List Size) → 1 ≤ cost sizes)
    → ((a b : CelAnswer) (s t : Size) → Within a s → Within b t → f a b ≤ cost (s ∷ t ∷ []))
    → (answers : List CelAnswer) (sizes : List Size) → AllWithin answers sizes
    → charge_of_two f answers ≤ cost sizes
two_charged f cost some each [] sizes h = some sizes
two_charged f cost some each (a ∷ []) sizes h = some sizes
two_charged f cost some each (a ∷ b ∷ []) [] h = absurd h
two_charged f cost some each (a ∷ b ∷ []) (s ∷ []) h = absurd h.1
two_charged f cost some each (a ∷ b ∷ []) (s ∷ t ∷ []) h = each a b s t h.0 h.1.0
two_charged f cost some each (a ∷ b ∷ []) (s ∷ t ∷ u ∷ ss) h = absurd h.1.1
two_charged f cost some each (a ∷ b ∷ c ∷ answers) sizes h = some sizes

-- a product of parts that are at most so much
product : (a b c d : ℕ) → a ≤ c → b ≤ d → a * b ≤ c * d
product a b c d h k = mul-le-mul h k

masses_charged : (a b : CelAnswer) (s t : Size) → Within a s → Within b t
    → comparison_charge a b ≤ 1 + (mass_of s + mass_of t)
masses_charged a b s t h k = two_values (λ v w. mass v + mass w) (mass_of s + mass_of t) s t
    (λ v w hv hw. omega (arith, mass_within v s hv, mass_within w t hw)) a b h k

joined_charged : (a b : CelAnswer) (s t : Size) → Within a s → Within b t
    → joined_charge a b ≤ 1 + (most_of s + most_of t)
joined_charged a b s t h k =
    two_values (λ v w. length_of v + length_of w) (most_of s + most_of t) s t
    (λ v w hv hw. omega (arith, length_within v s hv, length_within w t hw)) a b h k

index_charged : (a b : CelAnswer) (s t : Size) → Within a s → Within b t
    → map_index_charge a b ≤ 1 + mass_of t * most_of s
index_charged a b s t h k =
    two_values (λ m q. mass q * length_of m) (mass_of t * most_of s) s t
    (λ m q hm hq. product (mass q) (length_of m) (mass_of t) (most_of s) (mass_within q t hq)
    (length_within m s hm)) a b h k

in_map_charged : (a b : CelAnswer) (s t : Size) → Within a s → Within b t
    → in_map_charge a b ≤ 1 + mass_of s * most_of t
in_map_charged a b s t h k =
    two_values (λ q m. mass q * length_of m) (mass_of s * most_of t) s t
    (λ q m hq hm. product (mass q) (length_of m) (mass_of s) (most_of t) (mass_within q s hq)
    (length_within m t hm)) a b h k

in_list_charged : (a b : CelAnswer) (s t : Size) → Within a s → Within b t
    → in_list_charge a b ≤ 1 + (mass_of t + most_of t * mass_of s)
in_list_charged a b s t h k =
    two_values (λ v l. mass l + length_of l * mass v) (mass_of t + most_of t * mass_of s) s t
    (λ v l hv hl. let all = product (length_of l) (mass v) (most_of t) (mass_of s)
    (length_within l t hl) (mass_within v s hv) in
    omega (arith, mass_within l t hl, all)) a b h k

counted_within : (v : CelValue) (t : ValueType) (s : Size) → Fits v s → HasType v t
    → counted_length v ≤ counted_cost t s
counted_within (text cs) text_type s h g = length_within (text cs) s h
counted_within (text cs) _ s h g = absurd g
counted_within (bytes bs) bytes_type s h g = length_within (bytes bs) s h
counted_within (bytes bs) _ s h g = absurd g
counted_within (bool b) t s h g = omega arith
counted_within (int i) t s h g = omega arith
counted_within (uint n) t s h g = omega arith
counted_within (list vs) t s h g = omega arith
counted_within (map_of es) t s h g = omega arith

size_charged : (answers : List CelAnswer) (ts : List ValueType) (sizes : List Size)
    → AllWithin answers sizes → HaveTypes answers ts
    → charge_of_one size_charge answers ≤ charge_at (overloads.Operate operations.Size) ts sizes
size_charged [] ts sizes h g = charge_some (overloads.Operate operations.Size) ts sizes
size_charged (fails e ∷ []) ts sizes h g = charge_some (overloads.Operate operations.Size) ts sizes
size_charged (value v ∷ []) [] sizes h g = absurd g
size_charged (value v ∷ []) (t ∷ k ∷ ts) sizes h g = absurd g.1
size_charged (value v ∷ []) (t ∷ []) [] h g = absurd h
size_charged (value v ∷ []) (t ∷ []) (s ∷ u ∷ ss) h g = absurd h.1
size_charged (value v ∷ []) (t ∷ []) (s ∷ []) h g =
    let most = counted_within v t s h.0 g.0 in omega (arith, most)
size_charged (a ∷ b ∷ answers) ts sizes h g = charge_some (overloads.Operate operations.Size) ts sizes

-- what costs 1 on any operands
plain_one : (answers : List CelAnswer) → charge_of_one (λ a. 1) answers ≤ 1
plain_one [] = omega arith
plain_one (a ∷ []) = omega arith
plain_one (a ∷ b ∷ answers) = omega arith

plain_two : (answers : List CelAnswer) → charge_of_two (λ a b. 1) answers ≤ 1
plain_two [] = omega arith
plain_two (a ∷ []) = omega arith
plain_two (a ∷ b ∷ []) = omega arith
plain_two (a ∷ b ∷ c ∷ answers) = omega arith

-- a call's instruction, of operands within sizes and of types
pub overload_charged : (o : Overload) (answers : List CelAnswer) (ts : List ValueType)
    (sizes : List Size) → AllWithin answers sizes → HaveTypes answers ts
    → overload_charge o answers ≤ charge_at o ts sizes
overload_charged (overloads.Operate (operations.Compare op)) answers ts sizes h g =
    two_charged comparison_charge (charge_at (overloads.Operate (operations.Compare op)) ts)
    (charge_some (overloads.Operate (operations.Compare op)) ts) masses_charged answers sizes h
overload_charged (overloads.Operate (operations.TestText test)) answers ts sizes h g =
    two_charged comparison_charge (charge_at (overloads.Operate (operations.TestText test)) ts)
    (charge_some (overloads.Operate (operations.TestText test)) ts) masses_charged answers sizes h
overload_charged (overloads.Operate operations.Concat) answers ts sizes h g =
    two_charged joined_charge (charge_at (overloads.Operate operations.Concat) ts)
    (charge_some (overloads.Operate operations.Concat) ts) joined_charged answers sizes h
overload_charged (overloads.Operate operations.MapIndex) answers ts sizes h g =
    two_charged map_index_charge (charge_at (overloads.Operate operations.MapIndex) ts)
    (charge_some (overloads.Operate operations.MapIndex) ts) index_charged answers sizes h
overload_charged (overloads.Operate operations.InMap) answers ts sizes h g =
    two_charged in_map_charge (charge_at (overloads.Operate operations.InMap) ts)
    (charge_some (overloads.Operate operations.InMap) ts) in_map_charged answers sizes h
overload_charged (overloads.Operate operations.InList) answers ts sizes h g =
    two_charged in_list_charge (charge_at (overloads.Operate operations.InList) ts)
    (charge_some (overloads.Operate operations.InList) ts) in_list_charged answers sizes h
overload_charged (overloads.Operate operations.Size) answers ts sizes h g = size_charged answers ts sizes h g
overload_charged (overloads.Operate (operations.Convert kind)) answers ts sizes h g = conversion_charged kind answers ts sizes h
overload_charged (overloads.Operate operations.And) answers ts sizes h g = plain_two answers
overload_charged (overloads.Operate operations.Or) answers ts sizes h g = plain_two answers
overload_charged (overloads.Operate operations.Not) answers ts sizes h g = plain_one answers
overload_charged (overloads.Operate operations.NotStrictlyFalse) answers ts sizes h g = plain_one answers
overload_charged overloads.Conditional answers ts sizes h g = omega arith
overload_charged (overloads.Operate (operations.Arithmetic op)) answers ts sizes h g = plain_two answers
overload_charged (overloads.Operate operations.Negate) answers ts sizes h g = plain_one answers
overload_charged (overloads.Operate operations.ListIndex) answers ts sizes h g = plain_two answers

-- a name in a map
pub field_charged : (name : List ℕ) (a : CelAnswer) (s : Size) → Within a s
    → field_charge name a ≤ field_cost name s
field_charged name (fails e) s h = omega arith
field_charged name (value v) s h =
    let most = mul-le-mul_left (1 + length (utf8_of name)) (length_within v s h) in
    omega (arith, most)

-- opening a loop
pub loop_charged : (a : CelAnswer) (s : Size) → Within a s → loop_charge a ≤ 1 + most_of s
loop_charged (fails e) s h = omega arith
loop_charged (value v) s h = omega (arith, length_within v s h)

-- ---- literals

-- values that are gathered are at most so many
abbrev AreFew : Gathered → ℕ → Type 0
AreFew (all_values vs) n = item_count vs ≤ n
AreFew (first_error e) n = Unit {0}

gathered_few : (answers : List CelAnswer) → AreFew (gather answers) (length answers)
gathered_few [] = omega arith
gathered_few (fails e ∷ answers) = tt
gathered_few (value v ∷ answers) = at (gather answers) (gathered_few answers)
  where
    at : (g : Gathered) → AreFew g (length answers)
        → AreFew (gathered_after v g) (length (value v ∷ answers))
    at (all_values vs) more = omega (arith, more)
    at (first_error e) more = tt

-- a list literal
pub list_charged : (answers : List CelAnswer) → list_literal_charge answers ≤ 1 + length answers
list_charged answers = at (gather answers) (gathered_few answers)
  where
    at : (g : Gathered) → AreFew g (length answers)
        → strict_charge_all item_count g ≤ 1 + length answers
    at (all_values vs) few = omega (arith, few)
    at (first_error e) few = omega arith

-- of keys and values that are gathered, the keys' masses and the pairs are at most so much
abbrev PairsCost : Gathered → (keys pairs : ℕ) → Type 0
PairsCost (all_values vs) m n = (keys_mass vs ≤ m) × (pair_count vs ≤ n)
PairsCost (first_error e) m n = Unit {0}

pairs_cost : (answers : List CelAnswer) (sizes : List Size) → AllWithin answers sizes
    → PairsCost (gather answers) (masses (keys_of sizes)) (length (keys_of sizes))
pairs_cost [] [] h = (omega arith, omega arith)
pairs_cost [] (s ∷ ss) h = absurd h
pairs_cost (a ∷ answers) [] h = absurd h
pairs_cost (fails e ∷ answers) (s ∷ ss) h = tt
pairs_cost (value w ∷ []) (s ∷ ss) h = (omega arith, omega arith)
pairs_cost (value w ∷ b ∷ answers) (s ∷ []) h = absurd h.1
pairs_cost (value w ∷ fails e ∷ answers) (s ∷ t ∷ ss) h = tt
pairs_cost (value w ∷ value v ∷ answers) (s ∷ t ∷ ss) h =
    at (gather answers) (pairs_cost answers ss h.1.1)
  where
    at : (g : Gathered) → PairsCost g (masses (keys_of ss)) (length (keys_of ss))
        → PairsCost (gathered_after w (gathered_after v g)) (mass_of s + masses (keys_of ss))
        (length (s ∷ keys_of ss))
    at (all_values vs) more = (omega (arith, more.0, mass_within w s h.0), omega (arith, more.1))
    at (first_error e) more = tt

-- a map literal
pub map_charged : (answers : List CelAnswer) (sizes : List Size) → AllWithin answers sizes
    → map_literal_charge answers ≤ map_cost sizes
map_charged answers sizes h = at (gather answers) (pairs_cost answers sizes h)
  where
    at : (g : Gathered) → PairsCost g (masses (keys_of sizes)) (length (keys_of sizes))
        → strict_charge_all (λ vs. keys_mass vs * pair_count vs) g ≤ map_cost sizes
    at (all_values vs) more =
        let most = product (keys_mass vs) (pair_count vs) (masses (keys_of sizes))
        (length (keys_of sizes)) more.0 more.1 in
        omega (arith, most)
    at (first_error e) more = omega arith
