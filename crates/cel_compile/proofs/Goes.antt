-- Runs between points of a code, whatever is kept below on the stack.
use Rattle.std.proofs.Common.{◌≡◌, ℕ, ◌+◌, ◌<◌, ◌≤◌, Bool, true, false, cond, nat_eq, List, [], ◌∷◌, ◌++◌, length, Option, Some, refl, sym, ap, ◌∙◌, subst, arith, slice_get, ne_eqb, eq-eqb}
use Rattle.std.proofs.lemmas.Bool.Decides.{nat_tests}
use Rattle.cel_value.specs.Values.{CelAnswer, CelValue}
use Rattle.attributes.specs.Request.{RequestValue}
use Rattle.cel_types.specs.TypedMeaning.{local_at}
use Rattle.machine_code.specs.Instructions.{Instruction, Store}
use Rattle.machine_code.specs.Charges.{charge_on}
use Rattle.machine_code.specs.Locals.{with_local}
use Rattle.machine_code.specs.Machine.{OpenLoop, State, Step, RunReaches, more, act, goes}

-- what the machine's locals are
abbrev pub Locals : Type 0
Locals = ℕ → Option CelAnswer

-- the local that has so many outside of it is held at that number
abbrev pub Holds : List CelAnswer → Locals → Type 0
Holds [] f = Unit {0}
Holds (a ∷ ls) f = (f (length ls) ≡ Some a) × Holds ls f

put_same : (f : Locals) (l : ℕ) (a : CelAnswer) → with_local f l a l ≡ Some a
put_same f l a = rw (eq-eqb l l refl)

put_other : (f : Locals) (l k : ℕ) (a : CelAnswer) → k < l → with_local f l a k ≡ f k
put_other f l k a lt = rw (ne_eqb k l (λ e. omega (arith, e)))

holds_put : (ls : List CelAnswer) (f : Locals) (l : ℕ) (a : CelAnswer) → length ls ≤ l → Holds ls f → Holds ls (with_local f l a)
holds_put [] f l a le h = tt
holds_put (b ∷ ls) f l a le h = (put_other f l (length ls) a (omega arith) ∙ h.0, holds_put ls f l a (omega arith) h.1)

-- the next local is set
pub holds_more : (ls : List CelAnswer) (f : Locals) (a : CelAnswer) → Holds ls f → Holds (a ∷ ls) (with_local f (length ls) a)
holds_more ls f a h = (put_same f (length ls) a, holds_put ls f (length ls) a (omega arith) h)

-- the locals outside are held too
pub holds_less : (vs ls : List CelAnswer) (f : Locals) → Holds (vs ++ ls) f → Holds ls f
holds_less [] ls f h = h
holds_less (v ∷ vs) ls f h = holds_less vs ls f h.1

-- a local that is known is held
pub held : (ls : List CelAnswer) (f : Locals) (outside : ℕ) (a : CelAnswer) → Holds ls f → local_at outside ls ≡ Some a → f outside ≡ Some a
held [] f outside a h e = absurd cc
held (b ∷ ls) f outside a h e = by_test (nat_eq outside (length ls)) refl e
    (held ls f outside a h.1)
  where
    by_test : (t : Bool) → nat_eq outside (length ls) ≡ t → cond t (Some b) (local_at outside ls) ≡ Some a
        → (local_at outside ls ≡ Some a → f outside ≡ Some a) → f outside ≡ Some a
    by_test true is e inner = let same : outside ≡ length ls = grind (arith, nat_tests) in ap f same ∙ h.0 ∙ e
    by_test false is e inner = inner e

-- ---- points

-- a loop over a value that has begun so many turns
abbrev pub turned : CelValue → ℕ → OpenLoop
turned v n = record { range = v; turns = n }

-- where a run stands: the position, the stack, the locals in scope, the innermost first, and the open loops
pub data Point : Type 0 where
  at : ℕ → List CelAnswer → List CelAnswer → List OpenLoop → Point

abbrev pub HoldsAt : Point → Locals → Type 0
HoldsAt (at p st ls lo) f = Holds ls f

abbrev pub state : ℕ → List CelAnswer → Locals → List OpenLoop → State
state p st f lo = record { position = p; stack = st; locals = f; loops = lo }

abbrev pub state_at : Point → Locals → State
state_at (at p st ls lo) f = state p st f lo

module _ (code : List Instruction) (request : RequestValue) where
  -- steps in a row, with the sum of their charges
  pub data Chain : State → ℕ → State → Type 0 where
    here : (s : State) → Chain s 0 s
    on : (s s1 s2 : State) (charge n : ℕ) → Step code request s s1 charge → Chain s1 n s2 → Chain s (charge + n) s2

  joined : (s t u : State) (n m : ℕ) → Chain s n t → Chain t m u → Chain s (n + m) u
  joined s t u n m (here s') c = let e : m ≡ 0 + m = omega arith in subst (λ k. Chain s k u) e c
  joined s t u n m (on s' s1 t' charge k st rest) c =
      let e : charge + (k + m) ≡ charge + k + m = omega arith in
      subst (λ k. Chain s k u) e (on s s1 u charge (k + m) st (joined s1 t u k m rest c))

  -- what was reached before goes on by a chain
  pub reached : (s t : State) (n m : ℕ) → RunReaches code request s n → Chain s m t → RunReaches code request t (n + m)
  reached s t n m r (here s') = let e : n ≡ n + 0 = omega arith in subst (λ k. RunReaches code request s k) e r
  reached s t n m r (on s' s1 t' charge k st rest) =
      let e : n + charge + k ≡ n + (charge + k) = omega arith in
      subst (λ k. RunReaches code request t k) e
      (reached s1 t (n + charge) k (more s s1 n charge (n + charge) r st refl) rest)

  -- from any locals that hold the first point's, the machine comes to the second within the bound
  pub record Goes (bound : ℕ) (P Q : Point) : Type 0 where
    pub by : (f : Locals) → HoldsAt P f
        → (g : Locals) × (n : ℕ) × HoldsAt Q g × Chain (state_at P f) n (state_at Q g) × (n ≤ bound)

  pub then_goes : {b c : ℕ} {P Q R : Point} → Goes b P Q → Goes c Q R → Goes (b + c) P R
  then_goes {b} {c} {P} {Q} {R} first second = record {
    by = λ f h.
        let x = first.by f h in
        let y = second.by x.0 x.2 in (
          y.0,
          x.1 + y.1,
          y.2,
          joined (state_at P f) (state_at Q x.0) (state_at R y.0) x.1 y.1 x.3 y.3,
          omega (arith, x.4, y.4),
        );
  }

  pub at_most : {b c : ℕ} {P Q : Point} → b ≤ c → Goes b P Q → Goes c P Q
  at_most {b} {c} {P} {Q} le way = record {
    by = λ f h. let x = way.by f h in (x.0, x.1, x.2, x.3, omega (arith, x.4));
  }

  -- in no step: what is held may be less
  pub forget : (P Q : Point) → ((f : Locals) → HoldsAt P f → HoldsAt Q f × (state_at Q f ≡ state_at P f)) → Goes 0 P Q
  forget P Q less = record {
    by = λ f h.
        let x = less f h in
        (f, 0, x.0, subst (λ s. Chain (state_at P f) 0 s) (sym x.1) (here (state_at P f)), omega arith);
  }

  pub stay : (P : Point) → Goes 0 P P
  stay P = forget P P (λ f h. (h, refl))

  -- in one step
  pub one : (i : Instruction) (p : ℕ) (st ls : List CelAnswer) (lo : List OpenLoop) (Q : Point) → slice_get code p ≡ Some i
      → ((f : Locals) → Holds ls f → (g : Locals) × HoldsAt Q g × (act i request (state p st f lo) ≡ goes (state_at Q g)))
      → Goes (charge_on i st) (at p st ls lo) Q
  one i p st ls lo Q e does = record {
    by = λ f h.
        let x = does f h in
        let taken : Step code request (state p st f lo) (state_at Q x.0) (charge_on i st) = record { instr = i; at = e; goes_on = x.2; costs = refl } in (
          x.0,
          charge_on i st + 0,
          x.1,
          on (state p st f lo) (state_at Q x.0) (state_at Q x.0) (charge_on i st) 0 taken (here (state_at Q x.0)),
          omega arith,
        );
  }

  -- in one step that leaves the locals alone
  pub plain : (i : Instruction) (p : ℕ) (st ls : List CelAnswer) (lo : List OpenLoop) (q : ℕ) (st' : List CelAnswer) (lo' : List OpenLoop) → slice_get code p ≡ Some i
      → ((f : Locals) → act i request (state p st f lo) ≡ goes (state q st' f lo'))
      → Goes (charge_on i st) (at p st ls lo) (at q st' ls lo')
  plain i p st ls lo q st' lo' e does = one i p st ls lo (at q st' ls lo') e (λ f h. (f, h, does f))

  -- the top becomes the next local
  pub stores : (p : ℕ) (st ls : List CelAnswer) (lo : List OpenLoop) (a : CelAnswer) → slice_get code p ≡ Some (Store (length ls))
      → Goes 1 (at p (a ∷ st) ls lo) (at (p + 1) st (a ∷ ls) lo)
  stores p st ls lo a e =
      one (Store (length ls)) p (a ∷ st) ls lo (at (p + 1) st (a ∷ ls) lo) e
      (λ f h. (with_local f (length ls) a, holds_more ls f a h, refl))
