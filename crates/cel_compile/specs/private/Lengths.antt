-- The lengths that give jumps their targets: each expression that jumps has those of its whole code and of
-- its last part's code.
use Rattle.std.specs.Prelude.{◌≡◌, ℕ, ◌+◌, ◌<◌, ◌≤◌, ◌^◌, List, [], ◌∷◌, ◌++◌}
use Rattle.cel_ops.specs.declared.operation.Operation.TheVariants as operations
use Rattle.cel_overload.specs.declared.overload.Overload.TheVariants as overloads
use Rattle.cel_types.specs.Elaborated.{TypedTree, typed_constant, typed_local, typed_attribute, typed_field, typed_has, typed_call, typed_list, typed_map, typed_loop, TypedTrees, no_typed, typed}
use Rattle.cel_compile.specs.declared.lengths.Lengths.{Lengths}
use Rattle.cel_compile.specs.private.Extents.{extent, extents}

-- the lengths of an expression that jumps
abbrev pub lengths_are : (whole last : ℕ) → Lengths
lengths_are whole last = record { whole = whole; last = last }

abbrev mutual
  -- the lengths of an expression and of the expressions in it; those that are taken first are last
  pub lengths_of : TypedTree → List Lengths
  lengths_of (typed_constant t v) = []
  lengths_of (typed_local t outside) = []
  lengths_of (typed_attribute t a) = []
  lengths_of (typed_field t on name) = lengths_of on
  lengths_of (typed_has t on name) = lengths_of on
  lengths_of (typed_call t (overloads.Operate operations.And) (typed a (typed b no_typed))) =
      (lengths_of b ++ lengths_of a) ++ lengths_are (extent a + 1 + extent b + 1) (extent b) ∷ []
  lengths_of (typed_call t (overloads.Operate operations.Or) (typed a (typed b no_typed))) =
      (lengths_of b ++ lengths_of a) ++ lengths_are (extent a + 1 + extent b + 1) (extent b) ∷ []
  lengths_of (typed_call t overloads.Conditional (typed c (typed a (typed b no_typed)))) =
      ((lengths_of b ++ lengths_of a) ++ lengths_of c)
      ++ lengths_are (extent c + 1 + extent a + 1 + extent b) (extent b) ∷ []
  lengths_of (typed_call t o operands) = all_lengths operands
  lengths_of (typed_list t elements) = all_lengths elements
  lengths_of (typed_map t entries) = all_lengths entries
  lengths_of (typed_loop t vars range init condition step result) =
      ((((lengths_of result ++ lengths_of step) ++ lengths_of condition) ++ lengths_of init) ++ lengths_of range)
      ++ lengths_are (extent range + 1 + extent init + 1 + 1 + extent condition + 1 + extent step + 1 + 1
      + extent result) (extent result) ∷ []

  -- the lengths of expressions in order; those of the first expression are last
  pub all_lengths : TypedTrees → List Lengths
  all_lengths no_typed = []
  all_lengths (typed e es) = all_lengths es ++ lengths_of e

-- the list ends with these lengths
abbrev pub EndsWith : (whole last : List Lengths) → Type 0
EndsWith whole last = (rest : List Lengths) × (whole ≡ rest ++ last)

-- `count` is `many`, if code may have that many instructions. Otherwise `count` is too many as well
abbrev pub Counts : (count many : ℕ) → Type 0
Counts n m = (m < 2 ^ 16 → n ≡ m) × (2 ^ 16 ≤ m → 2 ^ 16 ≤ n)

-- the count is one of `m` instructions. If code may have that many, these lengths were appended to the list
pub record Adds (old new : List Lengths) (n m : ℕ) (added : List Lengths) : Type 0 where
  pub counts : Counts n m
  pub adds : m < 2 ^ 16 → new ≡ old ++ added

-- the count and the lengths are an expression's
abbrev pub Measures : (old new : List Lengths) → ℕ → TypedTree → Type 0
Measures old new n e = Adds old new n (extent e) (lengths_of e)

-- the count and the lengths are those of expressions in order
abbrev pub MeasuresAll : (old new : List Lengths) → ℕ → TypedTrees → Type 0
MeasuresAll old new n es = Adds old new n (extents es) (all_lengths es)
