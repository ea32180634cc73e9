-- What there is where an answer is found: the answers of the parts.
use Rattle.std.proofs.Common.{◌≡◌, List, [], ◌∷◌, Option, Some, None, refl}
use Rattle.std.specs.Option.{option_and_then}
use Rattle.cel_value.specs.Values.{CelAnswer}
use Rattle.cel_overload.specs.Answers.{on_one, on_two}
use Rattle.cel_types.specs.Meaning.{before}

-- an operation has an answer: so has its operand
pub then_some : {A : Type 0} (f : A → Option CelAnswer) (o : Option A) (r : CelAnswer) → option_and_then f o ≡ Some r
    → (a : A) × (o ≡ Some a) × (f a ≡ Some r)
then_some f None r e = absurd cc
then_some f (Some a) r e = (a, refl, e)

-- there are answers: so there is a first one and others
pub before_some : (o : Option CelAnswer) (os : Option (List CelAnswer)) (rs : List CelAnswer) → before o os ≡ Some rs
    → (a : CelAnswer) × (xs : List CelAnswer) × (o ≡ Some a) × (os ≡ Some xs) × (rs ≡ a ∷ xs)
before_some None os rs e = absurd cc
before_some (Some a) None rs e = absurd cc
before_some (Some a) (Some xs) rs e = (a, xs, refl, refl, cc)

pub on_one_some : (f : CelAnswer → Option CelAnswer) (xs : List CelAnswer) (r : CelAnswer) → on_one f xs ≡ Some r
    → (a : CelAnswer) × (xs ≡ a ∷ []) × (f a ≡ Some r)
on_one_some f [] r e = absurd cc
on_one_some f (a ∷ []) r e = (a, refl, e)
on_one_some f (a ∷ b ∷ xs) r e = absurd cc

pub on_two_some : (f : CelAnswer → CelAnswer → Option CelAnswer) (xs : List CelAnswer) (r : CelAnswer) → on_two f xs ≡ Some r
    → (a : CelAnswer) × (b : CelAnswer) × (xs ≡ a ∷ b ∷ []) × (f a b ≡ Some r)
on_two_some f [] r e = absurd cc
on_two_some f (a ∷ []) r e = absurd cc
on_two_some f (a ∷ b ∷ []) r e = (a, b, refl, e)
on_two_some f (a ∷ b ∷ c ∷ xs) r e = absurd cc
