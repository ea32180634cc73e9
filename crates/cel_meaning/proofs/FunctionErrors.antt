-- If a call of a function, not a choice, is an error and so is an operand, it is the error of the leftmost such operand.
use Rattle.std.proofs.Common.{◌≡◌, Bool, true, false, List, [], ◌∷◌, Option, Some, None, refl, ap, ◌∙◌}
use Rattle.cel_value.specs.Values.{CelAnswer, CelValue, bool, fails, value}
use Rattle.cel_value.specs.declared.error.CelError.{CelError}
use Rattle.cel_ops.specs.Logic.{conjunction, disjunction, not_strictly_false}
use Rattle.cel_ops.specs.Strict.{first_error, gather}
use Rattle.cel_ops.specs.declared.arithmetic.ArithmeticOp.TheVariants.{Add}
use Rattle.cel_overload.specs.Answers.{function_answer, on_one, on_two}
use Rattle.cel_overload.specs.declared.function.Function.{Function}
use Rattle.cel_overload.specs.declared.function.Function.TheVariants as functions
use Rattle.cel_meaning.specs.Places.{is_error}

-- whether the answer is an error
abbrev pub fails_with : Option CelAnswer → Bool
fails_with (Some a) = is_error a
fails_with None = false

-- whether the function chooses a branch
abbrev pub is_choice : Function → Bool
is_choice functions.Conditional = true
is_choice _ = false

one_error : (f : CelAnswer → Option CelAnswer)
    → ((e : CelError) → fails_with (f (fails e)) ≡ true → f (fails e) ≡ Some (fails e))
    → (answers : List CelAnswer) (e : CelError) → gather answers ≡ first_error e
    → fails_with (on_one f answers) ≡ true → on_one f answers ≡ Some (fails e)
one_error f passes [] e leftmost is = absurd cc
one_error f passes (fails d ∷ []) e leftmost is =
    let same : d ≡ e = cc in passes d is ∙ ap (λ d. Some (fails d)) same
one_error f passes (value v ∷ []) e leftmost is = absurd cc
one_error f passes (a ∷ b ∷ answers) e leftmost is = absurd cc

two_error : (f : CelAnswer → CelAnswer → Option CelAnswer)
    → ((e : CelError) (b : CelAnswer) → fails_with (f (fails e) b) ≡ true → f (fails e) b ≡ Some (fails e))
    → ((v : CelValue) (e : CelError) → fails_with (f (value v) (fails e)) ≡ true → f (value v) (fails e) ≡ Some (fails e))
    → (answers : List CelAnswer) (e : CelError) → gather answers ≡ first_error e
    → fails_with (on_two f answers) ≡ true → on_two f answers ≡ Some (fails e)
two_error f left right [] e leftmost is = absurd cc
two_error f left right (a ∷ []) e leftmost is = absurd cc
two_error f left right (fails d ∷ b ∷ []) e leftmost is =
    let same : d ≡ e = cc in left d b is ∙ ap (λ d. Some (fails d)) same
two_error f left right (value v ∷ fails d ∷ []) e leftmost is =
    let same : d ≡ e = cc in right v d is ∙ ap (λ d. Some (fails d)) same
two_error f left right (value v ∷ value w ∷ []) e leftmost is = absurd cc
two_error f left right (a ∷ b ∷ c ∷ answers) e leftmost is = absurd cc

left_of_and : (e : CelError) (b : CelAnswer) → fails_with (conjunction (fails e) b) ≡ true → conjunction (fails e) b ≡ Some (fails e)
left_of_and e (fails d) is = refl
left_of_and e (value (bool true)) is = refl
left_of_and e (value (bool false)) is = absurd cc
left_of_and e (value _) is = absurd cc

right_of_and : (v : CelValue) (e : CelError) → fails_with (conjunction (value v) (fails e)) ≡ true
    → conjunction (value v) (fails e) ≡ Some (fails e)
right_of_and (bool true) e is = refl
right_of_and (bool false) e is = absurd cc
right_of_and _ e is = absurd cc

left_of_or : (e : CelError) (b : CelAnswer) → fails_with (disjunction (fails e) b) ≡ true → disjunction (fails e) b ≡ Some (fails e)
left_of_or e (fails d) is = refl
left_of_or e (value (bool true)) is = absurd cc
left_of_or e (value (bool false)) is = refl
left_of_or e (value _) is = absurd cc

right_of_or : (v : CelValue) (e : CelError) → fails_with (disjunction (value v) (fails e)) ≡ true
    → disjunction (value v) (fails e) ≡ Some (fails e)
right_of_or (bool true) e is = absurd cc
right_of_or (bool false) e is = refl
right_of_or _ e is = absurd cc

pub function_error : (f : Function) → is_choice f ≡ false → (answers : List CelAnswer) (e : CelError)
    → gather answers ≡ first_error e → fails_with (function_answer f answers) ≡ true
    → function_answer f answers ≡ Some (fails e)
function_error functions.And other = two_error conjunction left_of_and right_of_and
function_error functions.Or other = two_error disjunction left_of_or right_of_or
function_error functions.Not other = one_error _ (λ e is. refl)
function_error functions.NotStrictlyFalse other = one_error not_strictly_false (λ e is. absurd cc)
function_error functions.Conditional other = absurd cc
function_error functions.Negate other = one_error _ (λ e is. refl)
function_error functions.Size other = one_error _ (λ e is. refl)
function_error functions.ToInt other = one_error _ (λ e is. refl)
function_error functions.ToUint other = one_error _ (λ e is. refl)
function_error functions.ToText other = one_error _ (λ e is. refl)
function_error functions.ToBytes other = one_error _ (λ e is. refl)
function_error (functions.Arithmetic Add) other = two_error _ (λ e b is. refl) (λ v e is. refl)
function_error (functions.Arithmetic _) other = two_error _ (λ e b is. refl) (λ v e is. refl)
function_error _ other = two_error _ (λ e b is. refl) (λ v e is. refl)
