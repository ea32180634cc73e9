-- The parts of an expression that its evaluation reaches: CEL language definition, "Evaluation" and
-- "Macros" (a macro is a comprehension). Each has the answers of the locals in scope there, and the
-- sizes by which these locals are measured. Parts that evaluation may skip are included: all operands
-- and branches, and an initial value. A loop's step, later turns and result are included whatever its
-- condition is. What is true of all these parts is true of those that are evaluated.
use Rattle.std.specs.Prelude.{ℕ, suc, ◌≡◌, ◌⊎◌, List, [], ◌∷◌, ◌++◌, Some}
use Rattle.attributes.specs.Limits.{LimitsValue}
use Rattle.attributes.specs.Request.{RequestValue}
use Rattle.cel_value.specs.Values.{CelAnswer, CelValue, value}
use Rattle.cel_types.specs.Elaborated.{TypedTree, typed_constant, typed_local, typed_attribute, typed_field, typed_has, typed_call, typed_list, typed_map, typed_loop, TypedTrees, no_typed, typed}
use Rattle.cel_types.specs.Meaning.{turns_of}
use Rattle.cel_types.specs.TypedMeaning.{typed_answer}
use Rattle.cel_types.specs.declared.typed.Variables.{Variables}
use Rattle.cel_value.specs.Types.{ValueType}
use Rattle.cel_costs.specs.Costs.{grown, size_of, variable_sizes}
use Rattle.cel_costs.specs.Sizes.{Size, most_of}

-- one of the expressions
abbrev pub IsAmong : TypedTree → TypedTrees → Type 0
IsAmong e no_typed = ⊥
IsAmong e (typed d es) = (e ≡ d) ⊎ IsAmong e es

-- the parts of an expression that have the same locals in scope
abbrev pub parts : TypedTree → TypedTrees
parts (typed_constant t v) = no_typed
parts (typed_local t outside) = no_typed
parts (typed_attribute t a) = no_typed
parts (typed_field t on name) = typed on no_typed
parts (typed_has t on name) = typed on no_typed
parts (typed_call t o operands) = operands
parts (typed_list t elements) = elements
parts (typed_map t pairs) = pairs
parts (typed_loop t vars range init condition step result) = typed range (typed init no_typed)

-- after so many turns of a loop, these turns are left, each with what its variables get, and this is the
-- accumulator
pub data Gathers (vars : Variables) (range init step : TypedTree) (r : RequestValue)
    (ls : List CelAnswer) : (turns : ℕ) → (left : List (List CelAnswer)) → (gathered : CelAnswer)
    → Type 0 where
  -- before the first turn: all turns over the range, and the initial value
  none : (v : CelValue) (turns : List (List CelAnswer)) (a : CelAnswer)
      → typed_answer range r ls ≡ Some (value v) → turns_of vars v ≡ Some turns
      → typed_answer init r ls ≡ Some a → Gathers vars range init step r ls 0 turns a
  -- one more turn, whatever its condition is: the step's answer is the accumulator
  more : (k : ℕ) (vs : List CelAnswer) (left : List (List CelAnswer)) (a b : CelAnswer)
      → Gathers vars range init step r ls k (vs ∷ left) a
      → typed_answer step r (vs ++ a ∷ ls) ≡ Some b
      → Gathers vars range init step r ls (suc k) left b

-- the size by which the accumulator is measured after so many turns
abbrev pub gathered_size : Variables → (range init step : TypedTree) → LimitsValue → List Size
    → (turns : ℕ) → Size
gathered_size vars range init step l sizes k =
    grown (λ s. size_of step l (variable_sizes vars (size_of range l sizes) ++ s ∷ sizes)) k
    (size_of init l sizes)

-- the evaluation of an expression, which has no locals outside, reaches this part. The locals in scope
-- there have these answers, and are measured by these sizes, the innermost first
pub data Reaches (e : TypedTree) (r : RequestValue) (l : LimitsValue)
    : (part : TypedTree) → (locals : List CelAnswer) → (sizes : List Size) → Type 0 where
  -- the expression itself
  whole : Reaches e r l e [] []
  -- a part with the same locals
  inside : (d p : TypedTree) (ls : List CelAnswer) (sizes : List Size) → Reaches e r l d ls sizes
      → IsAmong p (parts d) → Reaches e r l p ls sizes
  -- the condition and the step of a turn, with what its variables get, and with the accumulator before it
  turn : (t : ValueType) (vars : Variables) (range init condition step result p : TypedTree)
      (ls : List CelAnswer) (sizes : List Size) (k : ℕ) (vs : List CelAnswer)
      (left : List (List CelAnswer)) (a : CelAnswer)
      → Reaches e r l (typed_loop t vars range init condition step result) ls sizes
      → Gathers vars range init step r ls k (vs ∷ left) a
      → IsAmong p (typed condition (typed step no_typed))
      → Reaches e r l p (vs ++ a ∷ ls)
      (variable_sizes vars (size_of range l sizes) ++ gathered_size vars range init step l sizes k ∷ sizes)
  -- the result, after any number of turns, with the accumulator then. Even if the loop ends early, the
  -- accumulator is measured as after all turns that the range has room for
  ended : (t : ValueType) (vars : Variables) (range init condition step result : TypedTree)
      (ls : List CelAnswer) (sizes : List Size) (k : ℕ) (left : List (List CelAnswer)) (a : CelAnswer)
      → Reaches e r l (typed_loop t vars range init condition step result) ls sizes
      → Gathers vars range init step r ls k left a
      → Reaches e r l result (a ∷ ls)
      (gathered_size vars range init step l sizes (most_of (size_of range l sizes)) ∷ sizes)
