-- Lengths that are counted piece by piece are an expression's.
use Rattle.std.proofs.Common.{◌≡◌, ℕ, ◌+◌, ◌-◌, ◌<◌, ◌≤◌, ◌↔◌, ◌⊎◌, inl, inr, Bool, true, false, List, [], ◌∷◌, ◌++◌, length, drop, get_or, refl, sym, ap, ap₂, ◌∙◌, subst, arith, append_assoc, append-nil}
use Rattle.std.specs.Prelude.{IsTrue}
use Rattle.std.proofs.lemmas.List.{drop_all, drop_more}
use Rattle.cel_value.specs.Types.{ValueType}
use Rattle.cel_overload.specs.declared.overload.Overload.{Overload}
use Rattle.cel_ops.specs.declared.operation.Operation.TheVariants as operations
use Rattle.cel_overload.specs.declared.overload.Overload.TheVariants as overloads
use Rattle.cel_types.specs.Elaborated.{TypedTree, no_typed, typed, typed_call, typed_loop}
use Rattle.cel_types.specs.declared.typed.Variables.{Variables}
use Rattle.cel_types.specs.View.{expr_view}
use Rattle.cel_types.specs.private.ExprViews.{exprs_view}
use Rattle.cel_types.specs.declared.typed.TypedExpr.{TypedExpr}
use Rattle.cel_compile.specs.declared.lengths.Lengths.{Lengths}
use Rattle.cel_compile.specs.private.Extents.{extent, extents}
use Rattle.cel_compile.specs.private.Lengths.{Adds, Counts, Measures, MeasuresAll, lengths_are, lengths_of}

-- a part's lengths after another's
pub adds : {k0 k1 k2 : List Lengths} {n m a b : ℕ} {ks ls : List Lengths} (s c : ℕ) → Adds k0 k1 n a ks → Adds k1 k2 m b ls
    → Counts s c → a ≤ c → b ≤ c → Adds k0 k2 s c (ks ++ ls)
adds {k0} {k1} {k2} {n} {m} {a} {b} {ks} {ls} s c f g counts la lb = record {
  counts = counts;
  adds = λ short. g.adds (omega (arith, short, lb)) ∙ ap (λ k. k ++ ls) (f.adds (omega (arith, short, la))) ∙ append_assoc k0 ks ls;
}

-- the lengths of a jump after its parts'
pub jumps : {k0 k1 k2 : List Lengths} {n a b m : ℕ} {ks : List Lengths} (s c : ℕ) → Adds k0 k1 n a ks → k2 ≡ k1 ++ lengths_are s m ∷ []
    → Counts s c → a ≤ c → Counts m b → b ≤ c → Adds k0 k2 s c (ks ++ lengths_are c b ∷ [])
jumps {k0} {k1} {k2} {n} {a} {b} {m} {ks} s c f put counts la last lb = record {
  counts = counts;
  adds = λ short. put ∙ ap (λ k. k ++ lengths_are s m ∷ []) (f.adds (omega (arith, short, la)))
      ∙ append_assoc k0 ks (lengths_are s m ∷ [])
      ∙ ap (λ v. k0 ++ (ks ++ v ∷ [])) (ap₂ lengths_are (counts.0 short) (last.0 (omega (arith, short, lb))));
}

pub junction_measured : (a b : TypedTree) (k0 k1 k2 k3 : List Lengths) (na nb s : ℕ) (t : ValueType) (o : Overload)
    → (o ≡ (overloads.Operate operations.And)) ⊎ (o ≡ (overloads.Operate operations.Or))
    → Measures k0 k1 nb b → Measures k1 k2 na a → Counts s (extent a + 1 + extent b + 1) → k3 ≡ k2 ++ lengths_are s nb ∷ []
    → Measures k0 k3 s (typed_call t o (typed a (typed b no_typed)))
junction_measured a b k0 k1 k2 k3 na nb s t o which mb ma counts put =
    let whole : Adds k0 k3 s (extent a + 1 + extent b + 1) ((lengths_of b ++ lengths_of a) ++ lengths_are (extent a + 1 + extent b + 1) (extent b) ∷ []) =
    jumps s (extent a + 1 + extent b + 1) (adds s (extent a + 1 + extent b + 1) mb ma counts (omega arith) (omega arith)) put counts (omega arith) mb.counts (omega arith) in
    elim which [ inl e ↦ rw e whole | inr e ↦ rw e whole ]

pub choice_measured : (c a b : TypedTree) (k0 k1 k2 k3 k4 : List Lengths) (nc na nb s : ℕ) (t : ValueType)
    → Measures k0 k1 nb b → Measures k1 k2 na a → Measures k2 k3 nc c → Counts s (extent c + 1 + extent a + 1 + extent b)
    → k4 ≡ k3 ++ lengths_are s nb ∷ [] → Measures k0 k4 s (typed_call t overloads.Conditional (typed c (typed a (typed b no_typed))))
choice_measured c a b k0 k1 k2 k3 k4 nc na nb s t mb ma mc counts put =
    let n = extent c + 1 + extent a + 1 + extent b in
    jumps s n (adds s n (adds s n mb ma counts (omega arith) (omega arith)) mc counts (omega arith) (omega arith)) put counts (omega arith) mb.counts (omega arith)

pub loop_measured : (t : ValueType) (vars : Variables) (range init condition step result : TypedTree) (k0 k1 k2 k3 k4 k5 k6 : List Lengths) (nr ns nc ni ng s : ℕ)
    → Measures k0 k1 nr result → Measures k1 k2 ns step → Measures k2 k3 nc condition → Measures k3 k4 ni init → Measures k4 k5 ng range
    → Counts s (extent range + 1 + extent init + 1 + 1 + extent condition + 1 + extent step + 1 + 1 + extent result)
    → k6 ≡ k5 ++ lengths_are s nr ∷ [] → Measures k0 k6 s (typed_loop t vars range init condition step result)
loop_measured t vars range init condition step result k0 k1 k2 k3 k4 k5 k6 nr ns nc ni ng s mr ms mc mi mg counts put =
    let n = extent range + 1 + extent init + 1 + 1 + extent condition + 1 + extent step + 1 + 1 + extent result in
    let two = adds s n mr ms counts (omega arith) (omega arith) in
    let three = adds s n two mc counts (omega arith) (omega arith) in
    let four = adds s n three mi counts (omega arith) (omega arith) in
    let five = adds s n four mg counts (omega arith) (omega arith) in
    jumps s n five put counts (omega arith) mr.counts (omega arith)

-- counts of parts
pub counts_as : (n a b : ℕ) → Counts n a → a ≡ b → Counts n b
counts_as n a b h e = subst (Counts n) e h

pub own : (n : ℕ) → Counts n n
own n = (λ short. refl, λ long. long)

-- one instruction after others
pub one_more : {k0 k1 : List Lengths} {n m : ℕ} {ls : List Lengths} (s : ℕ) → Adds k0 k1 n m ls → ((a b : ℕ) → Counts n a → Counts 1 b → Counts s (a + b))
    → Adds k0 k1 s (m + 1) ls
one_more s f sums = record { counts = sums _ 1 f.counts (own 1); adds = λ short. f.adds (omega (arith, short)) }

-- a call that does not jump
pub plain_measured : (bj bc : Bool) (t : ValueType) (o : Overload) (xs : List TypedExpr) (k0 k1 : List Lengths) (n s : ℕ)
    → (IsTrue bj ↔ (((o ≡ (overloads.Operate operations.And)) ⊎ (o ≡ (overloads.Operate operations.Or))) × (length xs ≡ 2))) → bj ≡ false
    → (IsTrue bc ↔ ((o ≡ overloads.Conditional) × (length xs ≡ 3))) → bc ≡ false
    → MeasuresAll k0 k1 n (exprs_view xs) → Counts s (extents (exprs_view xs) + 1) → Measures k0 k1 s (typed_call t o (exprs_view xs))
plain_measured bj bc t (overloads.Operate operations.And) (x ∷ y ∷ []) k0 k1 n s hj nj hc nc g counts = let h : bj ≡ true = hj.1 (inl refl, refl) in absurd cc
plain_measured bj bc t (overloads.Operate operations.Or) (x ∷ y ∷ []) k0 k1 n s hj nj hc nc g counts = let h : bj ≡ true = hj.1 (inr refl, refl) in absurd cc
plain_measured bj bc t overloads.Conditional (x ∷ y ∷ z ∷ []) k0 k1 n s hj nj hc nc g counts = let h : bc ≡ true = hc.1 (refl, refl) in absurd cc
plain_measured bj bc t o xs k0 k1 n s hj nj hc nc g counts = record { counts = counts; adds = λ short. g.adds (omega (arith, short)) }

-- expressions in order: the last are measured first
pub measures_on : (xs : List TypedExpr) (k at : ℕ) (x : TypedExpr) (k0 k1 k2 : List Lengths) (n m s : ℕ) → k < length xs → at ≡ length xs - k - 1
    → MeasuresAll k0 k1 n (exprs_view (drop (length xs - k) xs)) → Measures k1 k2 m (expr_view (get_or xs at x))
    → ((a b : ℕ) → Counts m a → Counts n b → Counts s (a + b)) → MeasuresAll k0 k2 s (exprs_view (drop (length xs - (k + 1)) xs))
measures_on xs k at x k0 k1 k2 n m s within place so_far here sums =
    let e : length xs - (k + 1) ≡ at = omega (arith, place) in
    let after : at + 1 ≡ length xs - k = omega (arith, place, within) in
    let inside : at < length xs = omega (arith, place, within) in
    let rest : MeasuresAll k0 k1 n (exprs_view (drop (at + 1) xs)) = subst (λ i. MeasuresAll k0 k1 n (exprs_view (drop i xs))) (sym after) so_far in
    let counts = sums (extent (expr_view (get_or xs at x))) (extents (exprs_view (drop (at + 1) xs))) here.counts rest.counts in
    let both : MeasuresAll k0 k2 s (typed (expr_view (get_or xs at x)) (exprs_view (drop (at + 1) xs))) =
    adds s (extent (expr_view (get_or xs at x)) + extents (exprs_view (drop (at + 1) xs))) rest here counts (omega arith) (omega arith) in
    subst (λ i. MeasuresAll k0 k2 s (exprs_view (drop i xs))) (sym e)
    (subst (λ l. MeasuresAll k0 k2 s (exprs_view l)) (sym (drop_more xs at x inside)) both)

pub none_measured : (xs : List TypedExpr) (k : List Lengths) → MeasuresAll k k 0 (exprs_view (drop (length xs - 0) xs))
none_measured xs k =
    let whole : length xs - 0 ≡ length xs = omega arith in
    let none : MeasuresAll k k 0 no_typed = record { counts = own 0; adds = λ short. sym (append-nil k) } in
    subst (λ i. MeasuresAll k k 0 (exprs_view (drop i xs))) (sym whole)
    (subst (λ l. MeasuresAll k k 0 (exprs_view l)) (sym (drop_all (length xs) xs (omega arith))) none)

pub all_measured : (xs : List TypedExpr) (k n : ℕ) (k0 k1 : List Lengths) → length xs ≤ k → MeasuresAll k0 k1 n (exprs_view (drop (length xs - k) xs))
    → MeasuresAll k0 k1 n (exprs_view xs)
all_measured xs k n k0 k1 past so_far =
    let e : length xs - k ≡ 0 = omega (arith, past) in
    subst (λ i. MeasuresAll k0 k1 n (exprs_view (drop i xs))) e so_far
