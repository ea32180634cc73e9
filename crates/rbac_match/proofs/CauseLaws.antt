-- Laws of causes: where they are in a rule, and that they decide its value.
use Rattle.std.proofs.Common.{◌≡◌, ℕ, suc, ◌+◌, List, [], ◌∷◌, ◌++◌, map, Some, Bool, true, false, not, ◌&&◌, ◌||◌, if◌then◌else◌, refl, sym, ap, ◌∙◌, arith}
use Rattle.std.specs.List.{AllByRecursion}
use Rattle.attributes.specs.Request.{RequestValue}
use Rattle.rbac_match.specs.Causes.{CauseValue, IsCauseOf, IsSame, LeadsTo, all_causes, causes, decides, first_causes, is_decided, leaf_rule, rule_at, value_by, value_from, within}
use Rattle.rbac_match.specs.Formula.{Formula, any, and_of, or_of, not_of, leaf, Formulas, end, formula, all_hold, holds, some_hold}
use Rattle.rbac_match.specs.Tokens.{joined_by}
use Rattle.rbac_match.specs.declared.list.Joint.{Joint}
use Rattle.rbac_match.specs.declared.list.Joint.TheVariants.{And, Or, Not}

-- ---- lists

module _ {X Y : Type 0} (g : X → Y) (P : Y → Type 0) where
  all_map : (xs : List X) → AllByRecursion (λ x. P (g x)) xs → AllByRecursion P (map g xs)
  all_map [] h = tt
  all_map (x ∷ xs) h = (h.0, all_map xs h.1)

  all_unmap : (xs : List X) → AllByRecursion P (map g xs) → AllByRecursion (λ x. P (g x)) xs
  all_unmap [] h = tt
  all_unmap (x ∷ xs) h = (h.0, all_unmap xs h.1)

module _ {X : Type 0} (P : X → Type 0) where
  all_append : (xs ys : List X) → AllByRecursion P xs → AllByRecursion P ys → AllByRecursion P (xs ++ ys)
  all_append [] ys h k = k
  all_append (x ∷ xs) ys h k = (h.0, all_append xs ys h.1 k)

  all_left : (xs ys : List X) → AllByRecursion P (xs ++ ys) → AllByRecursion P xs
  all_left [] ys h = tt
  all_left (x ∷ xs) ys h = (h.0, all_left xs ys h.1)

  all_right : (xs ys : List X) → AllByRecursion P (xs ++ ys) → AllByRecursion P ys
  all_right [] ys h = h
  all_right (x ∷ xs) ys h = all_right xs ys h.1

  all_more : (Q : X → Type 0) → ((x : X) → P x → Q x) → (xs : List X) → AllByRecursion P xs → AllByRecursion Q xs
  all_more Q more [] h = tt
  all_more Q more (x ∷ xs) h = (more x h.0, all_more Q more xs h.1)

  all_either : (b : Bool) (xs ys : List X) → (b ≡ true → AllByRecursion P xs) → (b ≡ false → AllByRecursion P ys)
      → AllByRecursion P (if b then xs else ys)
  all_either true xs ys settled other = settled refl
  all_either false xs ys settled other = other refl

-- by cases of a test
by_cases : (G : Type 0) (b : Bool) → (b ≡ true → G) → (b ≡ false → G) → G
by_cases G true settled other = settled refl
by_cases G false settled other = other refl

-- ---- values

not_same : (a b : Bool) → not a ≡ not b → a ≡ b
not_same true true is = refl
not_same true false is = absurd cc
not_same false true is = absurd cc
not_same false false is = refl

or_first : (a b : Bool) → (a || b) ≡ false → a ≡ false
or_first true b is = absurd cc
or_first false b is = refl

or_rest : (a b : Bool) → (a || b) ≡ false → b ≡ false
or_rest true b is = absurd cc
or_rest false b is = is

or_true : (a b : Bool) → b ≡ true → (a || b) ≡ true
or_true true b is = refl
or_true false b is = is

-- some rule decides alone: the first, or one after it
decided_more : (r : RequestValue) (joint : Joint) (f : Formula) (fs : Formulas)
    → is_decided r joint (formula f fs) ≡ (decides joint (holds r f) || is_decided r joint fs)
decided_more r And f fs = both (holds r f) (all_hold r fs)
  where
    both : (a b : Bool) → not (a && b) ≡ (not a || not b)
    both true b = refl
    both false b = refl
decided_more r Or f fs = refl
decided_more r Not f fs = refl

-- none of no rules
decided_none : (r : RequestValue) (joint : Joint) → is_decided r joint end ≡ false
decided_none r And = refl
decided_none r Or = refl
decided_none r Not = refl

-- ---- where causes are

-- the leaf is at the end of its path in the rule that joins these, and its value gives this one
abbrev IsIn : RequestValue → Joint → Formulas → Bool → CauseValue → Type 0
IsIn r joint whole value cause = LeadsTo cause.path (joined_by joint whole) (leaf_rule cause.test)
    × (value_from cause.path (holds r (leaf_rule cause.test)) ≡ value)

-- the causes of a joined rule
joined_is : (r : RequestValue) (joint : Joint) (whole : Formulas) (value : Bool) (n : ℕ) (f : Formula)
    → rule_at whole n ≡ Some f → value_by joint (holds r f) ≡ value
    → AllByRecursion (IsCauseOf r f) (causes r f)
    → AllByRecursion (IsIn r joint whole value) (map (within joint n) (causes r f))
joined_is r joint whole value n f at gives are =
    all_map (within joint n) (IsIn r joint whole value) (causes r f)
    (all_more (IsCauseOf r f) (λ c. IsIn r joint whole value (within joint n c))
    (λ c is. ((whole, f, refl, at, is.0), ap (value_by joint) is.1 ∙ gives)) (causes r f) are)

mutual
  pub are_causes : (r : RequestValue) (f : Formula) → AllByRecursion (IsCauseOf r f) (causes r f)
  are_causes r any = ((refl, refl), tt)
  are_causes r (leaf m) = ((refl, refl), tt)
  are_causes r (not_of f) =
      joined_is r Not (formula f end) (not (holds r f)) 0 f refl refl (are_causes r f)
  are_causes r (and_of fs) =
      all_either (IsCauseOf r (and_of fs)) (is_decided r And fs) (first_causes r And 0 fs) (all_causes r And 0 fs)
      (λ settled. first_are r And fs (all_hold r fs) (λ f is. not_same (holds r f) (all_hold r fs) (is ∙ sym settled)) 0 fs (λ i. ap (rule_at fs) (omega arith)))
      (λ other. all_are r And fs (all_hold r fs) (λ f is. not_same (holds r f) (all_hold r fs) (is ∙ sym other)) 0 fs other (λ i. ap (rule_at fs) (omega arith)))
  are_causes r (or_of fs) =
      all_either (IsCauseOf r (or_of fs)) (is_decided r Or fs) (first_causes r Or 0 fs) (all_causes r Or 0 fs)
      (λ settled. first_are r Or fs (some_hold r fs) (λ f is. is ∙ sym settled) 0 fs (λ i. ap (rule_at fs) (omega arith)))
      (λ other. all_are r Or fs (some_hold r fs) (λ f is. is ∙ sym other) 0 fs other (λ i. ap (rule_at fs) (omega arith)))

  -- those of the first that decides alone
  first_are : (r : RequestValue) (joint : Joint) (whole : Formulas) (value : Bool)
      → ((f : Formula) → decides joint (holds r f) ≡ true → value_by joint (holds r f) ≡ value)
      → (n : ℕ) (fs : Formulas) → ((i : ℕ) → rule_at whole (n + i) ≡ rule_at fs i)
      → AllByRecursion (IsIn r joint whole value) (first_causes r joint n fs)
  first_are r joint whole value gives n end at = tt
  first_are r joint whole value gives n (formula f fs) at =
      let here : rule_at whole n ≡ Some f = ap (rule_at whole) (omega arith) ∙ at 0 in
      all_either (IsIn r joint whole value) (decides joint (holds r f)) (map (within joint n) (causes r f)) (first_causes r joint (n + 1) fs)
      (λ settled. joined_is r joint whole value n f here (gives f settled) (are_causes r f))
      (λ other. first_are r joint whole value gives (n + 1) fs (λ i. ap (rule_at whole) (omega arith) ∙ at (suc i)))

  -- those of all
  all_are : (r : RequestValue) (joint : Joint) (whole : Formulas) (value : Bool)
      → ((f : Formula) → decides joint (holds r f) ≡ false → value_by joint (holds r f) ≡ value)
      → (n : ℕ) (fs : Formulas) → is_decided r joint fs ≡ false → ((i : ℕ) → rule_at whole (n + i) ≡ rule_at fs i)
      → AllByRecursion (IsIn r joint whole value) (all_causes r joint n fs)
  all_are r joint whole value gives n end none at = tt
  all_are r joint whole value gives n (formula f fs) none at =
      let here : rule_at whole n ≡ Some f = ap (rule_at whole) (omega arith) ∙ at 0 in
      let apart : (decides joint (holds r f) || is_decided r joint fs) ≡ false = sym (decided_more r joint f fs) ∙ none in
      all_append (IsIn r joint whole value) (map (within joint n) (causes r f)) (all_causes r joint (n + 1) fs)
      (joined_is r joint whole value n f here (gives f (or_first (decides joint (holds r f)) (is_decided r joint fs) apart)) (are_causes r f))
      (all_are r joint whole value gives (n + 1) fs (or_rest (decides joint (holds r f)) (is_decided r joint fs) apart)
      (λ i. ap (rule_at whole) (omega arith) ∙ at (suc i)))

-- ---- that causes decide

-- joined rules, if the first that decides alone does so for both requests, and all have the same values
joined_same : (r q : RequestValue) (joint : Joint) (fs : Formulas)
    → (is_decided r joint fs ≡ true → AllByRecursion (IsSame r q) (first_causes r joint 0 fs) → is_decided q joint fs ≡ true)
    → (AllByRecursion (IsSame r q) (all_causes r joint 0 fs) → is_decided q joint fs ≡ is_decided r joint fs)
    → AllByRecursion (IsSame r q) (if is_decided r joint fs then first_causes r joint 0 fs else all_causes r joint 0 fs)
    → is_decided q joint fs ≡ is_decided r joint fs
joined_same r q joint fs first all same =
    by_cases (is_decided q joint fs ≡ is_decided r joint fs) (is_decided r joint fs)
    (λ settled. first settled (rw settled at same) ∙ sym settled)
    (λ other. all (rw other at same))

mutual
  pub same_value : (r q : RequestValue) (f : Formula) → AllByRecursion (IsSame r q) (causes r f) → holds q f ≡ holds r f
  same_value r q any same = refl
  same_value r q (leaf m) same = same.0
  same_value r q (not_of f) same = ap not (same_value r q f (all_unmap (within Not 0) (IsSame r q) (causes r f) same))
  same_value r q (and_of fs) same = not_same (all_hold q fs) (all_hold r fs)
      (joined_same r q And fs (first_same r q And 0 fs) (all_same r q And 0 fs) same)
  same_value r q (or_of fs) same =
      joined_same r q Or fs (first_same r q Or 0 fs) (all_same r q Or 0 fs) same

  -- the first rule that decides alone does so for both requests
  first_same : (r q : RequestValue) (joint : Joint) (n : ℕ) (fs : Formulas) → is_decided r joint fs ≡ true
      → AllByRecursion (IsSame r q) (first_causes r joint n fs) → is_decided q joint fs ≡ true
  first_same r q joint n end settled same = let clash : false ≡ true = sym (decided_none r joint) ∙ settled in absurd cc
  first_same r q joint n (formula f fs) settled same =
      decided_more q joint f fs ∙ by_cases ((decides joint (holds q f) || is_decided q joint fs) ≡ true) (decides joint (holds r f))
      (λ here.
      let value = same_value r q f (all_unmap (within joint n) (IsSame r q) (causes r f) (rw here at same)) in
      rw (value, here) refl)
      (λ later.
      let rest : is_decided r joint fs ≡ true = ap (λ b. b || is_decided r joint fs) (sym later) ∙ sym (decided_more r joint f fs) ∙ settled in
      or_true (decides joint (holds q f)) (is_decided q joint fs) (first_same r q joint (n + 1) fs rest (rw later at same)))

  -- each rule has the same value for both
  all_same : (r q : RequestValue) (joint : Joint) (n : ℕ) (fs : Formulas)
      → AllByRecursion (IsSame r q) (all_causes r joint n fs) → is_decided q joint fs ≡ is_decided r joint fs
  all_same r q joint n end same = decided_none q joint ∙ sym (decided_none r joint)
  all_same r q joint n (formula f fs) same =
      let mine = map (within joint n) (causes r f) in
      let others = all_causes r joint (n + 1) fs in
      let value = same_value r q f (all_unmap (within joint n) (IsSame r q) (causes r f) (all_left (IsSame r q) mine others same)) in
      let rest = all_same r q joint (n + 1) fs (all_right (IsSame r q) mine others same) in
      decided_more q joint f fs ∙ ap (λ v. decides joint v || is_decided q joint fs) value
      ∙ ap (λ v. decides joint (holds r f) || v) rest ∙ sym (decided_more r joint f fs)
