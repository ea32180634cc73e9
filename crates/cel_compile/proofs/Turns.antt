-- What the variables of a comprehension get in its turns.
use Rattle.std.proofs.Common.{◌≡◌, suc, ◌+◌, List, [], ◌∷◌, ◌++◌, length, Option, Some, None, option_map, refl, ap, ◌∙◌, subst, length-append}
use Rattle.std.specs.List.{AllByRecursion}
use Rattle.cel_value.specs.Types.{ValueType, list_type, map_type}
use Rattle.cel_value.specs.Values.{CelAnswer, CelValue, CelValues, list, map_of}
use Rattle.cel_value.specs.Items.{key_items}
use Rattle.cel_ops.specs.Collections.{elements_of}
use Rattle.cel_overload.specs.Answers.{HaveTypes}
use Rattle.cel_types.specs.Meaning.{one_each, turns_of}
use Rattle.cel_types.specs.Names.{variable_count}
use Rattle.cel_types.specs.Typing.{IsOver}
use Rattle.cel_types.specs.declared.typed.Variables.{Variables}
use Rattle.cel_types.specs.declared.typed.Variables.TheVariants as variables
use Rattle.cel_types.proofs.WellTypedAnswers.{TurnsHaveTypes, WalkHasTypes}
use Rattle.cel_costs.specs.Sizes.{AllWithin, Size}

-- ---- numbers of locals

-- each variable has a type
pub over_count : (vars : Variables) (t : ValueType) (each : List ValueType) → IsOver vars t each
    → length each ≡ variable_count vars
over_count variables.One (list_type s) each is = ap length is
over_count variables.One (map_type k s) each is = ap length is
over_count variables.Two (list_type s) each is = ap length is
over_count variables.Two (map_type k s) each is = ap length is
over_count variables.One _ each is = absurd is
over_count variables.Two _ each is = absurd is

types_count : (vs : List CelAnswer) (each : List ValueType) → HaveTypes vs each → length vs ≡ length each
types_count [] [] h = refl
types_count [] (t ∷ each) h = absurd h
types_count (v ∷ vs) [] h = absurd h
types_count (v ∷ vs) (t ∷ each) h = ap suc (types_count vs each h.1)

-- the number of locals in a turn's scope
pub scope_count : (vars : Variables) (t : ValueType) (each : List ValueType) (vs ls : List CelAnswer) (a : CelAnswer)
    → IsOver vars t each → HaveTypes vs each → length (vs ++ a ∷ ls) ≡ variable_count vars + suc (length ls)
scope_count vars t each vs ls a is h =
    length-append vs (a ∷ ls) ∙ ap (λ n. n + suc (length ls)) (types_count vs each h ∙ over_count vars t each is)

-- ---- turns

mapped_some : {A B : Type 0} (f : A → B) (o : Option A) (b : B) → option_map f o ≡ Some b → (a : A) × (o ≡ Some a)
mapped_some f None b e = absurd cc
mapped_some f (Some a) b e = (a, refl)

-- a value with turns has elements
pub walks_over : (vars : Variables) (v : CelValue) (turns : List (List CelAnswer)) → turns_of vars v ≡ Some turns
    → (vs : CelValues) × (elements_of v ≡ Some vs)
walks_over variables.One v turns e = mapped_some one_each (elements_of v) turns e
walks_over variables.Two (list vs) turns e = (vs, refl)
walks_over variables.Two (map_of es) turns e = (key_items es, refl)
walks_over variables.Two _ turns e = absurd cc

-- the turns that there are have their types
pub turns_typed : (o : Option (List (List CelAnswer))) (turns : List (List CelAnswer)) (each : List ValueType) → o ≡ Some turns
    → WalkHasTypes o each → TurnsHaveTypes turns each
turns_typed o turns each e h = subst (λ x. WalkHasTypes x each) e h

-- each turn is typed and within the sizes
pub both_each : (each : List ValueType) (sizes : List Size) (turns : List (List CelAnswer)) → TurnsHaveTypes turns each
    → AllByRecursion (λ vs. AllWithin vs sizes) turns → AllByRecursion (λ vs. HaveTypes vs each × AllWithin vs sizes) turns
both_each each sizes [] h k = tt
both_each each sizes (vs ∷ turns) h k = ((h.0, k.0), both_each each sizes turns h.1 k.1)
