-- A filter gives a request one verdict at most.
use Rattle.std.proofs.Common.{◌≡◌, ℕ, ◌↔◌, Bool, true, false, IsTrue, List, Option, Some, None, MatchOption, refl, sym, ap, ◌∙◌}
use Rattle.std.specs.Ordering.{is_lt, ordering_reverse}
use Rattle.std.specs.declared.cmp.Ordering.{Ordering}
use Rattle.std.specs.declared.cmp.Ordering.TheVariants.{Less, Equal, Greater}
use Rattle.std.specs.Cmp.Lexicographic.{nat_list_cmp_total}
use Rattle.std.specs.FinMap.{slice_cmp-IsAntisymmetric, nat_cmp-IsAntisymmetric}
use Rattle.attributes.specs.Request.{RequestValue}
use Rattle.rbac_policy.specs.Filter.{Filter}
use Rattle.attributes.specs.Headers.{name_cmp}
use Rattle.rbac_policy.specs.Verdict.{SomeMatches, IsLeastMatch, number_of, IsVerdict}

-- tests of one fact are one
test_unique : {P : Type 0} (a b : Bool) → IsTrue a ↔ P → IsTrue b ↔ P → a ≡ b
test_unique true true p q = refl
test_unique true false p q = let clash : false ≡ true = q.1 (p.0 refl) in cc
test_unique false true p q = let clash : false ≡ true = p.1 (q.0 refl) in cc
test_unique false false p q = refl

-- an order that is not less, and whose reverse is not, is equal
equal_by : (o : Ordering) → is_lt o ≡ false → is_lt (ordering_reverse o) ≡ false → o ≡ Equal
equal_by Less e f = let clash : true ≡ false = e in cc
equal_by Equal e f = refl
equal_by Greater e f = let clash : true ≡ false = f in cc

-- names of which neither is below the other are one
name_unique : (a b : List ℕ) → is_lt (name_cmp a b) ≡ false → is_lt (name_cmp b a) ≡ false → a ≡ b
name_unique a b e f =
    let back : is_lt (ordering_reverse (name_cmp a b)) ≡ false =
    ap is_lt (sym (nat_list_cmp_total.antisymm b a)) ∙ f in
    slice_cmp-IsAntisymmetric nat_cmp-IsAntisymmetric a b (equal_by (name_cmp a b) e back)

module _ {C : Type 0} (is_met : C → Bool) (r : RequestValue) (filter : Filter C) where
  -- the number that is reported, or none
  abbrev Reported : Option ℕ → Type 0
  Reported m = MatchOption m (SomeMatches is_met r filter → ⊥)
      (λ k. (name : List ℕ) × IsLeastMatch is_met r filter name × (k ≡ number_of filter name))

  reported_unique : (m n : Option ℕ) → Reported m → Reported n → m ≡ n
  reported_unique None None p q = refl
  reported_unique None (Some k) p (name, least, is) = absurd (p (name, least.0))
  reported_unique (Some k) None (name, least, is) q = absurd (q (name, least.0))
  reported_unique (Some j) (Some k) (a, least, is) (b, also, at) =
      let same : a ≡ b = name_unique a b (also.1 a least.0) (least.1 b also.0) in
      ap Some (is ∙ ap (number_of filter) same ∙ sym at)

  pub verdict_unique : (a b : Bool) (m n : Option ℕ) → IsVerdict is_met r filter a m
      → IsVerdict is_met r filter b n → (a ≡ b) × (m ≡ n)
  verdict_unique a b m n p q =
      (test_unique a b p.lets_through q.lets_through, reported_unique m n p.reported q.reported)
