-- A block has one first fault, and then it means nothing.
use Rattle.std.proofs.Common.{◌≡◌, ◌≢◌, ℕ, zero, suc, ◌<◌, Bool, true, false, List, [], ◌∷◌, ◌++◌, length, Option, Result, Ok, Err, refl, sym, ap, subst, ◌∙◌, true≢false, inl, inr, arith}
use Rattle.std.specs.Prelude.{is_some}
use Rattle.hpack.specs.Field.{Line}
use Rattle.hpack.specs.Table.{Table}
use Rattle.hpack.specs.Block.{step_at, Means, HasFault}
use Rattle.hpack.specs.declared.fault.Fault.{Fault}
use Rattle.hpack.proofs.Outcomes.{ok_is, err_not}
use Rattle.hpack.proofs.Blocks.{fault_follows, means_follows, step_shorter}

err_is : {A : Type 0} (f g : Fault) → ◌≡◌ {A = Result A Fault} (Err f) (Err g) → f ≡ g
err_is f g e = cc

abbrev is_cons : List ℕ → Bool
is_cons [] = false
is_cons (b ∷ bs) = true

behind_some : (front rest bytes : List ℕ) → rest ≢ [] → bytes ≡ front ++ rest → bytes ≢ []
behind_some [] rest bytes some whole none = some (sym whole ∙ none)
behind_some (b ∷ front) rest bytes some whole none = true≢false (ap (λ (l : List ℕ). is_cons l) (sym whole ∙ none))

one_within : (n most : ℕ) (began : Bool) (t : Table) (bytes : List ℕ) (f g : Fault) → length bytes < n
    → HasFault most began t bytes f → HasFault most began t bytes g → f ≡ g
one_within zero most began t bytes f g few a b = absurd (omega (arith, few))
one_within (suc n) most began t bytes f g few a b = elim (fault_follows most began t bytes f a) [
  | inl x ↦ elim (fault_follows most began t bytes g b) [
    | inl y ↦ err_is f g (sym x ∙ y)
    | inr q ↦ absurd (err_not f q.0 (sym x ∙ q.1))
  ]
  | inr s ↦ elim (fault_follows most began t bytes g b) [
    | inl y ↦ absurd (err_not g s.0 (sym y ∙ s.1))
    | inr q ↦
        let same : q.0 ≡ s.0 = ok_is q.0 s.0 (sym q.1 ∙ s.1) in
        let less = step_shorter most began t bytes s.0 s.1 in
        one_within n most (is_some s.0.0) s.0.1 s.0.2 f g (omega (arith, less, few)) s.2
        (subst (λ (p : Option Line × Table × List ℕ). HasFault most (is_some p.0) p.1 p.2 g) same q.2)
  ]
]

pub fault_one : (most : ℕ) (began : Bool) (t : Table) (bytes : List ℕ) (f g : Fault)
    → HasFault most began t bytes f → HasFault most began t bytes g → f ≡ g
fault_one most began t bytes f g = one_within (suc (length bytes)) most began t bytes f g (omega arith)

nothing_within : (n most : ℕ) (began : Bool) (t : Table) (bytes : List ℕ) (f : Fault) (fs : List Line) (after : Table)
    → length bytes < n → HasFault most began t bytes f → Means most began t bytes fs after → ⊥
nothing_within zero most began t bytes f fs after few h m = absurd (omega (arith, few))
nothing_within (suc n) most began t bytes f fs after few h m =
    let q = means_follows most began t bytes fs after (behind_some h.front h.rest bytes h.more h.whole) m in
    elim (fault_follows most began t bytes f h) [
      | inl x ↦ err_not f q.0 (sym x ∙ q.1)
      | inr s ↦
          let same : q.0 ≡ s.0 = ok_is q.0 s.0 (sym q.1 ∙ s.1) in
          let less = step_shorter most began t bytes s.0 s.1 in
          nothing_within n most (is_some s.0.0) s.0.1 s.0.2 f q.2 after (omega (arith, less, few)) s.2
          (subst (λ (p : Option Line × Table × List ℕ). Means most (is_some p.0) p.1 p.2 q.2 after) same q.4)
    ]

-- a block that has a fault means nothing
pub fault_nothing : (most : ℕ) (began : Bool) (t : Table) (bytes : List ℕ) (f : Fault) (fs : List Line) (after : Table)
    → HasFault most began t bytes f → Means most began t bytes fs after → ⊥
fault_nothing most began t bytes f fs after = nothing_within (suc (length bytes)) most began t bytes f fs after (omega arith)
