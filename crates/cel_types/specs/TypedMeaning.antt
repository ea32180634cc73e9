-- The meaning of an elaborated expression: locals by number, attributes and overloads instead of names.
-- None means that a value is of a wrong kind, or a local is not in scope.
use Rattle.std.specs.Prelude.{ℕ, List, [], ◌∷◌, ◌++◌, length, nat_eq, Option, Some, None, if◌then◌else◌}
use Rattle.std.specs.Option.{option_and_then}
use Rattle.attributes.specs.Request.{RequestValue}
use Rattle.cel_value.specs.Values.{CelAnswer, value}
use Rattle.cel_ops.specs.Attributes.{attribute}
use Rattle.cel_ops.specs.Collections.{field, has_field}
use Rattle.cel_ops.specs.Collections as collections
use Rattle.cel_overload.specs.Answers.{overload_answer}
use Rattle.cel_types.specs.Elaborated.{TypedTree, typed_constant, typed_local, typed_attribute, typed_field, typed_has, typed_call, typed_list, typed_map, typed_loop, TypedTrees, no_typed, typed}
use Rattle.cel_types.specs.Meaning.{before, fold, over}

-- the type or the answer of the local with so many outside of it; the innermost local is first
abbrev pub local_at : {A : Type 0} → (outside : ℕ) → List A → Option A
local_at outside [] = None
local_at outside (a ∷ others) =
    if nat_eq outside (length others) then Some a else local_at outside others

abbrev mutual
  -- the answer of an expression, for a request and the answers of the locals in scope
  pub typed_answer : TypedTree → RequestValue → List CelAnswer → Option CelAnswer
  typed_answer (typed_constant t v) request ls = Some (value v)
  typed_answer (typed_local t outside) request ls = local_at outside ls
  typed_answer (typed_attribute t a) request ls = Some (attribute request a)
  typed_answer (typed_field t on name) request ls =
      option_and_then (field name) (typed_answer on request ls)
  typed_answer (typed_has t on name) request ls =
      option_and_then (has_field name) (typed_answer on request ls)
  typed_answer (typed_call t o operands) request ls =
      option_and_then (overload_answer o) (typed_answers operands request ls)
  typed_answer (typed_list t elements) request ls =
      option_and_then collections.list_literal (typed_answers elements request ls)
  typed_answer (typed_map t pairs) request ls =
      option_and_then collections.map_literal (typed_answers pairs request ls)
  typed_answer (typed_loop t vars range init condition step result) request ls =
      over vars (typed_answer range request ls) (λ turns. option_and_then
      (fold (λ vs a. typed_answer condition request (vs ++ a ∷ ls))
      (λ vs a. typed_answer step request (vs ++ a ∷ ls))
      (λ a. typed_answer result request (a ∷ ls)) turns)
      (typed_answer init request ls))

  -- the answers of expressions, from left to right
  pub typed_answers : TypedTrees → RequestValue → List CelAnswer → Option (List CelAnswer)
  typed_answers no_typed request ls = Some []
  typed_answers (typed e es) request ls =
      before (typed_answer e request ls) (typed_answers es request ls)
