-- What the theorem needs of sizes and costs.
use Rattle.std.proofs.Common.{◌≡◌, ℕ, ◌+◌, ◌≤◌, List, [], ◌∷◌, length, Some, subst}
use Rattle.std.specs.List.{AllByRecursion}
use Rattle.attributes.specs.Limits.{InLimits, LimitsValue}
use Rattle.attributes.specs.Request.{IsRequest, RequestValue}
use Rattle.cel_value.specs.Masses.{length_of}
use Rattle.cel_value.specs.Types.{ValueType}
use Rattle.cel_value.specs.Values.{CelAnswer, CelValue}
use Rattle.cel_ops.specs.Charges.{field_charge, list_literal_charge, map_literal_charge}
use Rattle.cel_overload.specs.Answers.{HaveTypes}
use Rattle.cel_overload.specs.private.Charges.{overload_charge}
use Rattle.cel_overload.specs.declared.overload.Overload.{Overload}
use Rattle.cel_types.specs.Elaborated.{TypedTree}
use Rattle.cel_types.specs.Meaning.{turns_of}
use Rattle.cel_types.specs.declared.typed.Variables.{Variables}
use Rattle.cel_types.specs.TypedMeaning.{typed_answer}
use Rattle.cel_types.specs.WellTyped.{IsWellTyped}
use Rattle.cel_costs.specs.Costs.{charge_at, field_cost, map_cost, size_of, variable_sizes}
use Rattle.cel_costs.proofs.Charged.{field_charged, list_charged, map_charged, overload_charged}
use Rattle.cel_costs.proofs.Joins.{length_within, within_left, within_right}
use Rattle.cel_costs.proofs.Within.{IfTurns, TurnsWithin, answer_within, turns_within}
use Rattle.cel_costs.specs.Sizes.{AllWithin, Fits, Size, Within, join, most_of}

-- of a request and its limits
pub record Bounds (request : RequestValue) (limits : LimitsValue) : Type 0 where
  pub answer : (e : TypedTree) (ks : List ValueType) (ls : List CelAnswer) (sizes : List Size) (a : CelAnswer) → IsWellTyped ks e → AllWithin ls sizes
      → typed_answer e request ls ≡ Some a → Within a (size_of e limits sizes)
  pub call : (o : Overload) (ts : List ValueType) (xs : List CelAnswer) (sizes : List Size) → HaveTypes xs ts → AllWithin xs sizes
      → overload_charge o xs ≤ charge_at o ts sizes
  pub field : (name : List ℕ) (a : CelAnswer) (s : Size) → Within a s → field_charge name a ≤ field_cost name s
  pub listed : (xs : List CelAnswer) → list_literal_charge xs ≤ 1 + length xs
  pub mapped : (xs : List CelAnswer) (sizes : List Size) → AllWithin xs sizes → map_literal_charge xs ≤ map_cost sizes
  pub long : (v : CelValue) (s : Size) → Fits v s → length_of v ≤ most_of s
  pub turns : (vars : Variables) (v : CelValue) (turns : List (List CelAnswer)) (s : Size) → Fits v s → turns_of vars v ≡ Some turns
      → (length turns ≤ most_of s) × AllByRecursion (λ vs. AllWithin vs (variable_sizes vars s)) turns
  pub left : (a : CelAnswer) (s t : Size) → Within a s → Within a (join s t)
  pub right : (a : CelAnswer) (s t : Size) → Within a t → Within a (join s t)

each_within : (turns : List (List CelAnswer)) (sizes : List Size) → TurnsWithin turns sizes → AllByRecursion (λ vs. AllWithin vs sizes) turns
each_within [] sizes h = tt
each_within (vs ∷ turns) sizes h = (h.0, each_within turns sizes h.1)

found_turns : (vars : Variables) (v : CelValue) (turns : List (List CelAnswer)) (s : Size) → Fits v s → turns_of vars v ≡ Some turns
    → (length turns ≤ most_of s) × AllByRecursion (λ vs. AllWithin vs (variable_sizes vars s)) turns
found_turns vars v turns s h e =
    let found : IfTurns vars (Some turns) s = subst (λ o. IfTurns vars o s) e (turns_within vars v s h) in
    (found.0, each_within turns (variable_sizes vars s) found.1)

pub bounds_of : (request : RequestValue) (limits : LimitsValue) → IsRequest request → InLimits request limits → Bounds request limits
bounds_of request limits valid within = record {
  answer = λ e ks ls sizes a g h is. answer_within e ks g request valid limits within ls sizes h a is;
  call = λ o ts xs sizes types h. overload_charged o xs ts sizes h types;
  field = field_charged;
  listed = list_charged;
  mapped = map_charged;
  long = length_within;
  turns = found_turns;
  left = within_left;
  right = within_right;
}
