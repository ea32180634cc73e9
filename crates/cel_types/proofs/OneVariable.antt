-- A comprehension without a second name is a fold over the elements of its range.
use Rattle.std.proofs.Common.{◌≡◌, ℕ, ℤ, true, false, List, [], ◌∷◌, Option, Some, None, option_map, refl}
use Rattle.std.specs.Option.{option_and_then}
use Rattle.attributes.specs.Request.{RequestValue}
use Rattle.cel_value.specs.Values.{CelAnswer, CelValues, bool, fails, item, no_items, value}
use Rattle.cel_ops.specs.Collections.{elements_of}
use Rattle.cel_tree.specs.Tree.{CelTree, comprehension}
use Rattle.cel_types.specs.Meaning.{Locals, eval, fold, one_each, over, turn}
use Rattle.cel_types.specs.Names.{turn_scope}
use Rattle.cel_types.specs.OneVariable.{fold_elements, over_elements}
use Rattle.cel_types.specs.declared.typed.Variables.TheVariants as variables

turn_next : (condition step : Option CelAnswer) (next others : CelAnswer → Option CelAnswer)
    (ended : Option CelAnswer) → ((a : CelAnswer) → next a ≡ others a)
    → turn condition step next ended ≡ turn condition step others ended
turn_next None step next others ended same = refl
turn_next (Some (fails e)) step next others ended same = refl
turn_next (Some (value (bool true))) None next others ended same = refl
turn_next (Some (value (bool true))) (Some a) next others ended same = same a
turn_next (Some (value (bool false))) step next others ended same = refl
turn_next (Some (value _)) step next others ended same = refl

module _ (condition step : List CelAnswer → CelAnswer → Option CelAnswer)
    (result : CelAnswer → Option CelAnswer) where
  fold_is : (vs : CelValues) (a : CelAnswer) → fold condition step result (one_each vs) a
      ≡ fold_elements (λ v a. condition (value v ∷ []) a) (λ v a. step (value v ∷ []) a) result vs a
  fold_is no_items a = refl
  fold_is (item v vs) a =
      turn_next (condition (value v ∷ []) a) (step (value v ∷ []) a) _ _ (result a) (fold_is vs)

over_is : (o : Option CelAnswer) (go : List (List CelAnswer) → Option CelAnswer)
    (others : CelValues → Option CelAnswer) → ((vs : CelValues) → go (one_each vs) ≡ others vs)
    → over variables.One o go ≡ over_elements o others
over_is None go others same = refl
over_is (Some (fails e)) go others same = refl
over_is (Some (value v)) go others same = at (elements_of v)
  where
    at : (found : Option CelValues)
        → option_and_then go (option_map one_each found) ≡ option_and_then others found
    at None = refl
    at (Some vs) = same vs

then_is : (o : Option CelAnswer) (f g : CelAnswer → Option CelAnswer)
    → ((a : CelAnswer) → f a ≡ g a) → option_and_then f o ≡ option_and_then g o
then_is None f g same = refl
then_is (Some a) f g same = same a

pub one_variable : (id : ℤ) (x acc : List ℕ) (range init condition step result : CelTree)
    (r : RequestValue) (ls : Locals)
    → eval (comprehension id x [] acc range init condition step result) r ls
    ≡ over_elements (eval range r ls) (λ vs. option_and_then
    (fold_elements (λ v a. eval condition r ((x, value v) ∷ (acc, a) ∷ ls))
    (λ v a. eval step r ((x, value v) ∷ (acc, a) ∷ ls)) (λ a. eval result r ((acc, a) ∷ ls)) vs)
    (eval init r ls))
one_variable id x acc range init condition step result r ls =
    over_is (eval range r ls) _ _ (λ vs. then_is (eval init r ls) _ _
    (fold_is (λ vs a. eval condition r (turn_scope x [] acc vs a ls))
    (λ vs a. eval step r (turn_scope x [] acc vs a ls)) (λ a. eval result r ((acc, a) ∷ ls)) vs))
