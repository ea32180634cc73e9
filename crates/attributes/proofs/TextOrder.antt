-- The order of texts by their bytes, and the test whether two are one.
use Rattle.std.proofs.Common.{◌≡◌, ℕ, Bool, true, false, not, ◌&&◌, T, List, refl, ◌∙◌, ap, IsTrue}
use Rattle.std.specs.Str.{bytes_eq}
use Rattle.std.specs.Ordering.{eq_by_cmp, is_lt, is_eq, ordering_reverse}
use Rattle.std.specs.FinMap.{IsAntisymmetric, nat_cmp-IsAntisymmetric, slice_cmp-IsAntisymmetric}
use Rattle.std.specs.declared.cmp.Ordering.{Ordering}
use Rattle.std.specs.declared.cmp.Ordering.TheVariants.{Less, Equal, Greater}
use Rattle.std.proofs.lemmas.Cmp.{nat_list_cmp_total, tied_itself}
use Rattle.std.proofs.lemmas.Map.Text.{is_eq-slice_cmp}
use Rattle.std.proofs.lemmas.Slice.Eq.{bytes_eq-Decides}
use Rattle.attributes.specs.Headers.{name_cmp}

-- the first text is before the second
abbrev pub IsBefore : List ℕ → List ℕ → Type 0
IsBefore a b = name_cmp a b ≡ Less

-- texts that the order does not tell apart are one
pub names_differ : IsAntisymmetric name_cmp
names_differ = slice_cmp-IsAntisymmetric nat_cmp-IsAntisymmetric

-- the texts are one where the test says so
pub same_from_test : (a b : List ℕ) → bytes_eq a b ≡ true → a ≡ b
same_from_test a b h = (bytes_eq-Decides a b).0 h

-- a text is itself
pub test_same : (a : List ℕ) → bytes_eq a a ≡ true
test_same a = (bytes_eq-Decides a a).1 refl

is_eq_reverse : (o : Ordering) → is_eq (ordering_reverse o) ≡ is_eq o
is_eq_reverse Less = refl
is_eq_reverse Equal = refl
is_eq_reverse Greater = refl

-- two names tie where the test says that they are one
pub ties_by_test : (a b : List ℕ) → eq_by_cmp name_cmp a b ≡ bytes_eq b a
ties_by_test a b = ap is_eq (nat_list_cmp_total.antisymm a b)
    ∙ is_eq_reverse (name_cmp b a) ∙ is_eq-slice_cmp b a

pub tied_name : (a : List ℕ) → name_cmp a a ≡ Equal
tied_name a = tied_itself nat_list_cmp_total a

pub before_trans : (a b c : List ℕ) → IsBefore a b → IsBefore b c → IsBefore a c
before_trans a b c = nat_list_cmp_total.trans a b c

-- the other way round, the order is turned
pub after_from_before : (a b : List ℕ) → IsBefore a b → name_cmp b a ≡ Greater
after_from_before a b h = nat_list_cmp_total.antisymm b a ∙ ap ordering_reverse h

pub before_from_greater : (a b : List ℕ) → name_cmp a b ≡ Greater → IsBefore b a
before_from_greater a b h = nat_list_cmp_total.antisymm b a ∙ ap ordering_reverse h

-- of two texts that are not one, the first is before the second if the second is not before the
-- first
pub before_from_not : (a b : List ℕ) → ¬ (IsBefore b a) → bytes_eq b a ≡ false → IsBefore a b
before_from_not a b h differ =
    let back : name_cmp a b ≡ ordering_reverse (name_cmp b a) = nat_list_cmp_total.antisymm a b in
    let apart : is_eq (name_cmp b a) ≡ false = is_eq-slice_cmp b a ∙ differ in
    rw back (elim (name_cmp b a) as (λ o. (o ≡ Less → ⊥) → is_eq o ≡ false
    → ordering_reverse o ≡ Less) [
      | Less ↦ λ no e. absurd (no refl)
      | Equal ↦ λ no e. cc
      | Greater ↦ λ no e. refl
    ] h apart)

-- two texts of which neither is before the other are one
pub neither_is_same : (a b : List ℕ) →
    (not (is_lt (name_cmp a b)) && not (is_lt (name_cmp b a))) ≡ bytes_eq b a
neither_is_same a b =
    let back : name_cmp a b ≡ ordering_reverse (name_cmp b a) = nat_list_cmp_total.antisymm a b in
    rw (back, ← is_eq-slice_cmp b a) (elim (name_cmp b a) as
    (λ o. (not (is_lt (ordering_reverse o)) && not (is_lt o)) ≡ is_eq o) [
      | Less ↦ refl
      | Equal ↦ refl
      | Greater ↦ refl
    ])

-- the two forms of a test that holds
pub t_from_true : (b : Bool) → IsTrue b → T b
t_from_true true h = tt
t_from_true false h = let clash : false ≡ true = h in absurd cc

pub true_from_t : (b : Bool) → T b → IsTrue b
true_from_t true h = refl
true_from_t false h = absurd h

-- the parts of a test of two
pub both_first : (a b : Bool) → T (a && b) → T a
both_first true b h = tt
both_first false b h = absurd h

pub both_second : (a b : Bool) → T (a && b) → T b
both_second true b h = h
both_second false b h = absurd h

pub less_from_test : (o : Ordering) → T (is_lt o) → o ≡ Less
less_from_test Less h = refl
less_from_test Equal h = absurd h
less_from_test Greater h = absurd h
