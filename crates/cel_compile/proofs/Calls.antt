-- What the instruction of a call does to the answers of its operands.
use Rattle.std.proofs.Common.{◌≡◌, ℕ, ◌+◌, ◌≤◌, true, nat_le, List, [], ◌∷◌, ◌++◌, append_assoc, length-append, length, reverse, take, drop, Option, Some, refl, sym, ap, ◌∙◌, subst, arith, if◌then◌else◌}
use Rattle.std.proofs.lemmas.Grind.{reverse_onto}
use Rattle.std.proofs.lemmas.List.{length-reverse, reverse-reverse}
use Rattle.std.proofs.Math.Seq.{take-append_seam, drop-append_seam}
use Rattle.std.proofs.lemmas.Bool.Decides.{nat_tests}
use Rattle.cel_value.specs.Values.{CelAnswer}
use Rattle.attributes.specs.Request.{RequestValue}
use Rattle.cel_ops.specs.Operations.{Work, takes_one, takes_two, work}
use Rattle.cel_overload.specs.Answers.{operands_answer, on_one, on_two, overload_answer}
use Rattle.cel_overload.specs.private.Charges.{operands_charge, charge_of_one, charge_of_two, overload_charge}
use Rattle.cel_overload.specs.declared.overload.Overload.{Overload}
use Rattle.cel_overload.specs.declared.overload.Overload.TheVariants as overloads
use Rattle.machine_code.specs.Instructions.{Instruction, Operate}
use Rattle.machine_code.specs.Charges.{charge_on, work_charge}
use Rattle.machine_code.specs.Machine.{OpenLoop, State, act, goes, stuck, gives, unary, binary, literal, operate}
use Rattle.cel_compile.specs.Codes.{instruction_of}
use Rattle.cel_compile.proofs.Answering.{on_one_some, on_two_some}
use Rattle.cel_compile.proofs.Goes.{Locals, state}

-- answers in turn on a stack, the last on top
abbrev pub pushed_all : List CelAnswer → List CelAnswer → List CelAnswer
pushed_all [] st = st
pushed_all (a ∷ xs) st = pushed_all xs (a ∷ st)

pub pushed_reversed : (xs st : List CelAnswer) → pushed_all xs st ≡ reverse xs ++ st
pushed_reversed [] st = refl
pushed_reversed (a ∷ xs) st = pushed_reversed xs (a ∷ st) ∙ turned
  where
    turned : reverse xs ++ a ∷ st ≡ reverse (a ∷ xs) ++ st
    turned = let e : reverse (a ∷ xs) ≡ reverse xs ++ a ∷ [] = reverse_onto xs a [] in rw e (sym (append_assoc (reverse xs) (a ∷ []) st))

-- the instruction makes this answer of these, for this charge
pub record Makes (i : Instruction) (xs : List CelAnswer) (r : CelAnswer) (charge : ℕ) : Type 0 where
  pub does : (request : RequestValue) (p : ℕ) (st : List CelAnswer) (f : Locals) (lo : List OpenLoop)
      → act i request (state p (pushed_all xs st) f lo) ≡ goes (state (p + 1) (r ∷ st) f lo)
  pub costs : (st : List CelAnswer) → charge_on i (pushed_all xs st) ≡ charge

-- of one operand
makes_one : (i : Instruction) (charge : List CelAnswer → ℕ) (f : CelAnswer → Option CelAnswer)
    → ((request : RequestValue) (s : State) → act i request s ≡ unary f s)
    → ((a : CelAnswer) (st : List CelAnswer) → charge_on i (a ∷ st) ≡ charge (a ∷ []))
    → (xs : List CelAnswer) (r : CelAnswer) → on_one f xs ≡ Some r → Makes i xs r (charge xs)
makes_one i charge f acts costs xs r e =
    let x = on_one_some f xs r e in
    subst (λ z. Makes i z r (charge z)) (sym x.1) record {
      does = λ request p st g lo. acts request (state p (x.0 ∷ st) g lo) ∙ ap (λ o. gives o (state p (x.0 ∷ st) g lo) st) x.2;
      costs = costs x.0;
    }

-- of two
makes_two : (i : Instruction) (charge : List CelAnswer → ℕ) (f : CelAnswer → CelAnswer → Option CelAnswer)
    → ((request : RequestValue) (s : State) → act i request s ≡ binary f s)
    → ((a b : CelAnswer) (st : List CelAnswer) → charge_on i (b ∷ a ∷ st) ≡ charge (a ∷ b ∷ []))
    → (xs : List CelAnswer) (r : CelAnswer) → on_two f xs ≡ Some r → Makes i xs r (charge xs)
makes_two i charge f acts costs xs r e =
    let x = on_two_some f xs r e in
    subst (λ z. Makes i z r (charge z)) (sym x.2) record {
      does = λ request p st g lo. acts request (state p (x.1 ∷ x.0 ∷ st) g lo) ∙ ap (λ o. gives o (state p (x.1 ∷ x.0 ∷ st) g lo) st) x.3;
      costs = costs x.0 x.1;
    }

-- an operation makes its answer
work_makes : (i : Instruction) (w : Work) → ((request : RequestValue) (s : State) → act i request s ≡ operate w s)
    → ((st : List CelAnswer) → charge_on i st ≡ work_charge w st)
    → (xs : List CelAnswer) (r : CelAnswer) → operands_answer w xs ≡ Some r → Makes i xs r (operands_charge w xs)
work_makes i (takes_one answer charge) acts costs xs r e =
    makes_one i (charge_of_one charge) answer acts (λ a st. costs (a ∷ st)) xs r e
work_makes i (takes_two answer charge) acts costs xs r e =
    makes_two i (charge_of_two charge) answer acts (λ a b st. costs (b ∷ a ∷ st)) xs r e

-- the overload's instruction works on its operands' answers
abbrev pub IsStrict : Overload → Type 0
IsStrict overloads.Conditional = ⊥
IsStrict (overloads.Operate op) = Unit {0}

pub call_makes : (o : Overload) (xs : List CelAnswer) (r : CelAnswer) → IsStrict o → overload_answer o xs ≡ Some r
    → Makes (instruction_of o) xs r (overload_charge o xs)
call_makes overloads.Conditional xs r s e = absurd s
call_makes (overloads.Operate op) xs r s e = work_makes (Operate op) (work op) (λ q z. refl) (λ st. refl) xs r e

-- ---- literals

top : (xs st : List CelAnswer) → reverse (take (length xs) (pushed_all xs st)) ≡ xs
top xs st =
    rw (pushed_reversed xs st, sym (length-reverse xs), take-append_seam (reverse xs) st) (reverse-reverse xs)

below : (xs st : List CelAnswer) → drop (length xs) (pushed_all xs st) ≡ st
below xs st = rw (pushed_reversed xs st, sym (length-reverse xs)) (drop-append_seam (reverse xs) st)

enough : (xs st : List CelAnswer) → nat_le (length xs) (length (pushed_all xs st)) ≡ true
enough xs st =
    let e : length (pushed_all xs st) ≡ length xs + length st =
    ap length (pushed_reversed xs st) ∙ length-append (reverse xs) st ∙ ap (λ n. n + length st) (length-reverse xs) in
    let le : length xs ≤ length (pushed_all xs st) = omega arith in
    grind (arith, nat_tests)

-- a literal is made of so many answers
pub literal_makes : (i : Instruction) (f : List CelAnswer → Option CelAnswer) (charge : List CelAnswer → ℕ) (n : ℕ)
    → ((request : RequestValue) (s : State) → act i request s ≡ literal f n s)
    → ((st : List CelAnswer) → charge_on i st ≡ charge (reverse (take n st)))
    → (xs : List CelAnswer) (r : CelAnswer) → length xs ≡ n → f xs ≡ Some r → Makes i xs r (charge xs)
literal_makes i f charge n acts costs xs r many e = record {
  does = λ request p st g lo. acts request (state p (pushed_all xs st) g lo) ∙ does p st g lo;
  costs = λ st. costs (pushed_all xs st) ∙ ap charge (taken st);
}
  where
    taken : (st : List CelAnswer) → reverse (take n (pushed_all xs st)) ≡ xs
    taken st = subst (λ k. reverse (take k (pushed_all xs st)) ≡ xs) many (top xs st)

    left : (st : List CelAnswer) → drop n (pushed_all xs st) ≡ st
    left st = subst (λ k. drop k (pushed_all xs st) ≡ st) many (below xs st)

    does : (p : ℕ) (st : List CelAnswer) (g : Locals) (lo : List OpenLoop)
        → literal f n (state p (pushed_all xs st) g lo) ≡ goes (state (p + 1) (r ∷ st) g lo)
    does p st g lo =
        let s = state p (pushed_all xs st) g lo in
        let is_some : f (reverse (take n (pushed_all xs st))) ≡ Some r = ap f (taken st) ∙ e in
        ap (λ b. if b then gives (f (reverse (take n (pushed_all xs st)))) s (drop n (pushed_all xs st)) else stuck)
        (subst (λ k. nat_le k (length (pushed_all xs st)) ≡ true) many (enough xs st))
        ∙ ap (λ o. gives o s (drop n (pushed_all xs st))) is_some
        ∙ ap (λ z. gives (Some r) s z) (left st)
