-- The run of each kind of node from those of its parts.
use Rattle.std.proofs.Common.{◌≡◌, ℕ, ◌+◌, ◌≤◌, true, false, List, [], ◌∷◌, Some, refl, arith, slice_get, max}
use Rattle.cel_value.specs.Values.{CelAnswer, bool, value, fails}
use Rattle.attributes.specs.Request.{RequestValue}
use Rattle.cel_ops.specs.Logic.{conjunction, disjunction}
use Rattle.cel_overload.specs.Answers.{conditional}
use Rattle.cel_ops.specs.declared.operation.Operation.TheVariants as operations
use Rattle.cel_overload.specs.declared.overload.Overload.TheVariants as overloads
use Rattle.machine_code.specs.Instructions.{Instruction, Operate, Jump, IfFalse, IfTrue, Test}
use Rattle.machine_code.specs.Charges.{charge_on}
use Rattle.machine_code.specs.Machine.{OpenLoop, act, goes}
use Rattle.cel_compile.proofs.Goes.{Locals, state, at, Goes, then_goes, at_most, plain}
use Rattle.cel_compile.proofs.Calls.{Makes, pushed_all, call_makes}

false_stays : (b r : CelAnswer) → conjunction (value (bool false)) b ≡ Some r → r ≡ value (bool false)
false_stays (value (bool x)) r e = cc
false_stays (fails d) r e = cc
false_stays (value v) r e = absurd cc

true_stays : (b r : CelAnswer) → disjunction (value (bool true)) b ≡ Some r → r ≡ value (bool true)
true_stays (value (bool x)) r e = cc
true_stays (fails d) r e = cc
true_stays (value v) r e = absurd cc

module _ (code : List Instruction) (request : RequestValue) (ls : List CelAnswer) (lo : List OpenLoop) where
  -- an instruction that makes an answer of the topmost ones
  pub makes_goes : (i : Instruction) (p m : ℕ) (xs st : List CelAnswer) (r : CelAnswer) (c charge e : ℕ)
      → slice_get code m ≡ Some i → Makes i xs r charge → c + charge ≤ e
      → Goes code request c (at p st ls lo) (at m (pushed_all xs st) ls lo)
      → Goes code request e (at p st ls lo) (at (m + 1) (r ∷ st) ls lo)
  makes_goes i p m xs st r c charge e stands makes le way =
      let step = plain code request i m (pushed_all xs st) ls lo (m + 1) (r ∷ st) lo stands (λ f. makes.does request m st f lo) in
      let exact = makes.costs st in
      at_most code request (omega (arith, exact)) (then_goes code request way step)

  -- `&&` and `||`, where the left side does not settle it
  both_goes : (i j : Instruction) (p m n : ℕ) (st : List CelAnswer) (ca cb : ℕ) (a b r : CelAnswer)
      → slice_get code m ≡ Some i → slice_get code n ≡ Some j → Makes j (a ∷ b ∷ []) r 1
      → charge_on i (a ∷ st) ≡ 1
      → ((f : Locals) → act i request (state m (a ∷ st) f lo) ≡ goes (state (m + 1) (a ∷ st) f lo))
      → Goes code request ca (at p st ls lo) (at m (a ∷ st) ls lo)
      → Goes code request cb (at (m + 1) (a ∷ st) ls lo) (at n (b ∷ a ∷ st) ls lo)
      → Goes code request (ca + 1 + cb + 1) (at p st ls lo) (at (n + 1) (r ∷ st) ls lo)
  both_goes i j p m n st ca cb a b r h1 h2 makes charged does ga gb =
      let g = plain code request i m (a ∷ st) ls lo (m + 1) (a ∷ st) lo h1 does in
      let g1 : Goes code request (ca + 1 + cb) (at p st ls lo) (at n (b ∷ a ∷ st) ls lo) =
      at_most code request (omega (arith, charged)) (then_goes code request (then_goes code request ga g) gb) in
      makes_goes j p n (a ∷ b ∷ []) st r (ca + 1 + cb) 1 (ca + 1 + cb + 1) h2 makes (omega arith) g1

  pub and_goes : (p m n q : ℕ) (st : List CelAnswer) (ca cb : ℕ) (a b r : CelAnswer)
      → slice_get code m ≡ Some (IfFalse q) → slice_get code n ≡ Some (Operate operations.And) → q ≡ n + 1 → conjunction a b ≡ Some r
      → Goes code request ca (at p st ls lo) (at m (a ∷ st) ls lo)
      → Goes code request cb (at (m + 1) (a ∷ st) ls lo) (at n (b ∷ a ∷ st) ls lo)
      → Goes code request (ca + 1 + cb + 1) (at p st ls lo) (at q (r ∷ st) ls lo)
  and_goes p m n q st ca cb (value (bool false)) b r h1 h2 e is ga gb =
      let same = false_stays b r is in
      let a = value (bool false) in
      let g : Goes code request 1 (at m (a ∷ st) ls lo) (at q (a ∷ st) ls lo) =
      plain code request (IfFalse q) m (a ∷ st) ls lo q (a ∷ st) lo h1 (λ f. refl) in
      rw same (at_most code request (omega arith) (then_goes code request ga g))
  and_goes p m n q st ca cb (value (bool true)) b r h1 h2 e is ga gb =
      let a = value (bool true) in
      rw e (both_goes (IfFalse q) (Operate operations.And) p m n st ca cb a b r h1 h2 (call_makes (overloads.Operate operations.And) (a ∷ b ∷ []) r tt is) refl (λ f. refl) ga gb)
  and_goes p m n q st ca cb (fails d) b r h1 h2 e is ga gb =
      rw e (both_goes (IfFalse q) (Operate operations.And) p m n st ca cb (fails d) b r h1 h2 (call_makes (overloads.Operate operations.And) (fails d ∷ b ∷ []) r tt is) refl (λ f. refl) ga gb)
  and_goes p m n q st ca cb (value v) b r h1 h2 e is ga gb = absurd cc

  pub or_goes : (p m n q : ℕ) (st : List CelAnswer) (ca cb : ℕ) (a b r : CelAnswer)
      → slice_get code m ≡ Some (IfTrue q) → slice_get code n ≡ Some (Operate operations.Or) → q ≡ n + 1 → disjunction a b ≡ Some r
      → Goes code request ca (at p st ls lo) (at m (a ∷ st) ls lo)
      → Goes code request cb (at (m + 1) (a ∷ st) ls lo) (at n (b ∷ a ∷ st) ls lo)
      → Goes code request (ca + 1 + cb + 1) (at p st ls lo) (at q (r ∷ st) ls lo)
  or_goes p m n q st ca cb (value (bool true)) b r h1 h2 e is ga gb =
      let same = true_stays b r is in
      let a = value (bool true) in
      let g : Goes code request 1 (at m (a ∷ st) ls lo) (at q (a ∷ st) ls lo) =
      plain code request (IfTrue q) m (a ∷ st) ls lo q (a ∷ st) lo h1 (λ f. refl) in
      rw same (at_most code request (omega arith) (then_goes code request ga g))
  or_goes p m n q st ca cb (value (bool false)) b r h1 h2 e is ga gb =
      let a = value (bool false) in
      rw e (both_goes (IfTrue q) (Operate operations.Or) p m n st ca cb a b r h1 h2 (call_makes (overloads.Operate operations.Or) (a ∷ b ∷ []) r tt is) refl (λ f. refl) ga gb)
  or_goes p m n q st ca cb (fails d) b r h1 h2 e is ga gb =
      rw e (both_goes (IfTrue q) (Operate operations.Or) p m n st ca cb (fails d) b r h1 h2 (call_makes (overloads.Operate operations.Or) (fails d ∷ b ∷ []) r tt is) refl (λ f. refl) ga gb)
  or_goes p m n q st ca cb (value v) b r h1 h2 e is ga gb = absurd cc

  pub choice_goes : (p m n q : ℕ) (st : List CelAnswer) (ck ca cb : ℕ) (c a b r : CelAnswer)
      → slice_get code m ≡ Some (Test (n + 1) q) → slice_get code n ≡ Some (Jump q) → conditional (c ∷ a ∷ b ∷ []) ≡ Some r
      → Goes code request ck (at p st ls lo) (at m (c ∷ st) ls lo)
      → Goes code request ca (at (m + 1) st ls lo) (at n (a ∷ st) ls lo)
      → Goes code request cb (at (n + 1) st ls lo) (at q (b ∷ st) ls lo)
      → Goes code request (ck + 1 + max ca cb + 1) (at p st ls lo) (at q (r ∷ st) ls lo)
  choice_goes p m n q st ck ca cb (value (bool true)) a b r h1 h2 is gc ga gb =
      let same : r ≡ a = cc in
      let g : Goes code request 1 (at m (value (bool true) ∷ st) ls lo) (at (m + 1) st ls lo) =
      plain code request (Test (n + 1) q) m (value (bool true) ∷ st) ls lo (m + 1) st lo h1 (λ f. refl) in
      let leave : Goes code request 1 (at n (a ∷ st) ls lo) (at q (a ∷ st) ls lo) =
      plain code request (Jump q) n (a ∷ st) ls lo q (a ∷ st) lo h2 (λ f. refl) in
      rw same (at_most code request (omega arith) (then_goes code request (then_goes code request (then_goes code request gc g) ga) leave))
  choice_goes p m n q st ck ca cb (value (bool false)) a b r h1 h2 is gc ga gb =
      let same : r ≡ b = cc in
      let g : Goes code request 1 (at m (value (bool false) ∷ st) ls lo) (at (n + 1) st ls lo) =
      plain code request (Test (n + 1) q) m (value (bool false) ∷ st) ls lo (n + 1) st lo h1 (λ f. refl) in
      rw same (at_most code request (omega arith) (then_goes code request (then_goes code request gc g) gb))
  choice_goes p m n q st ck ca cb (fails d) a b r h1 h2 is gc ga gb =
      let same : r ≡ fails d = cc in
      let g : Goes code request 1 (at m (fails d ∷ st) ls lo) (at q (fails d ∷ st) ls lo) =
      plain code request (Test (n + 1) q) m (fails d ∷ st) ls lo q (fails d ∷ st) lo h1 (λ f. refl) in
      rw same (at_most code request (omega arith) (then_goes code request gc g))
  choice_goes p m n q st ck ca cb (value v) a b r h1 h2 is gc ga gb = absurd cc
