-- The visits of an elaborated expression: how much work it is to measure its size and its cost by their
-- definitions (this project's measure). Each node that is measured counts once, and so does each level of its
-- type. Both branches of a conditional are measured. Of a loop's turns those are measured that grow the
-- accumulator's size, and the one after them: all others cost what that one costs.
use Rattle.std.specs.Prelude.{ℕ, zero, suc, ◌+◌, Bool, true, false, nat_eq, List, ◌∷◌, ◌++◌, if◌then◌else◌}
use Rattle.attributes.specs.Limits.{LimitsValue}
use Rattle.cel_value.specs.Types.{ValueType, list_type, map_type}
use Rattle.cel_types.specs.Elaborated.{TypedTree, typed_constant, typed_local, typed_attribute, typed_field, typed_has, typed_call, typed_list, typed_map, typed_loop, TypedTrees, no_typed, typed, kind}
use Rattle.cel_costs.specs.Costs.{grown, size_of, variable_sizes}
use Rattle.cel_costs.specs.Sizes.{Size, Flat, Text, Many, Table, join, most_of}

-- what one visit counts, by the type of the node: 1, and the levels of the type. A map counts two
abbrev pub weight : ValueType → ℕ
weight (list_type t) = 1 + weight t
weight (map_type k t) = 2 + weight t
weight _ = 1

-- whether two sizes are the same
abbrev pub is_same : Size → Size → Bool
is_same Flat Flat = true
is_same (Text n) (Text m) = nat_eq n m
is_same (Many n e) (Many m f) = if nat_eq n m then is_same e f else false
is_same (Table n k v) (Table m j w) =
    if nat_eq n m then (if is_same k j then is_same v w else false) else false
is_same _ _ = false

-- the visits of so many turns, each at the accumulator's size before it, up to the first that does not grow it
abbrev pub turns_visits : (next : Size → Size) → (turn : Size → ℕ) → ℕ → Size → ℕ
turns_visits next turn zero s = 0
turns_visits next turn (suc n) s =
    turn s + (if is_same (join s (next s)) s then 0 else turns_visits next turn n (join s (next s)))

abbrev mutual
  -- the visits of an expression
  pub visits_of : TypedTree → LimitsValue → List Size → ℕ
  visits_of (typed_constant t v) l sizes = weight t
  visits_of (typed_local t outside) l sizes = weight t
  visits_of (typed_attribute t a) l sizes = weight t
  visits_of (typed_field t on name) l sizes = weight t + visits_of on l sizes
  visits_of (typed_has t on name) l sizes = weight t + visits_of on l sizes
  visits_of (typed_call t o operands) l sizes = weight t + visits_of_each operands l sizes
  visits_of (typed_list t elements) l sizes = weight t + visits_of_each elements l sizes
  visits_of (typed_map t pairs) l sizes = weight t + visits_of_each pairs l sizes
  visits_of (typed_loop t vars range init condition step result) l sizes =
      let n = most_of (size_of range l sizes) in
      let turn_sizes : Size → List Size = λ s. variable_sizes vars (size_of range l sizes) ++ s ∷ sizes in
      let next : Size → Size = λ s. size_of step l (turn_sizes s) in
      weight t + (visits_of range l sizes + visits_of init l sizes
      + turns_visits next
      (λ s. weight (kind init) + visits_of condition l (turn_sizes s) + visits_of step l (turn_sizes s))
      n (size_of init l sizes)
      + visits_of result l (grown next n (size_of init l sizes) ∷ sizes))

  -- the visits of expressions
  pub visits_of_each : TypedTrees → LimitsValue → List Size → ℕ
  visits_of_each no_typed l sizes = 0
  visits_of_each (typed e es) l sizes = visits_of e l sizes + visits_of_each es l sizes
