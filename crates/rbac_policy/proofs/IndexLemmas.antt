-- What the numbers of an index say: a policy that does not meet them does not match.
use Rattle.std.proofs.Common.{◌≡◌, ◌≢◌, ℕ, zero, suc, ◌+◌, ◌<◌, ◌≤◌, ◌⊎◌, true, false, List, [], ◌∷◌, ◌++◌, length, take, drop, get_or, map, slice_set, Some, inl, inr, refl, sym, ap, subst, ◌∙◌, arith}
use Rattle.std.proofs.lemmas.Bool.{and_parts, cases_Bool}
use Rattle.std.proofs.lemmas.List.{get_or-set_other, get_or-set_same, take-append-drop, take-append-le, take_more}
use Rattle.std.specs.Prelude.{option_map, slice_get}
use Rattle.std.proofs.lemmas.Option.{get_or_from_slice_get, slice_get-get_or, slice_get-map, slice_get_within}
use Rattle.attributes.specs.Attributes.{url_path_of}
use Rattle.attributes.specs.Request.{RequestValue}
use Rattle.rbac_match.specs.Formula.{Formulas, some_hold}
use Rattle.rbac_match.specs.Needs.{Begins, NeedsStart, NeedsValue}
use Rattle.rbac_match.specs.Tokens.{Token}
use Rattle.rbac_policy.specs.Condition.{Program}
use Rattle.rbac_policy.specs.Filter.{Policy}
use Rattle.rbac_policy.specs.Verdict.{sides_match}
use Rattle.rbac_policy.specs.declared.policy_index.Need.{Need}
use Rattle.rbac_policy.specs.declared.policy.NamedPolicy.{NamedPolicy}
use Rattle.rbac_policy.specs.Named.{policy_view}
use Rattle.rbac_policy.specs.private.Runs.{MatchesByRun}
use Rattle.rbac_policy.specs.private.PolicyIndex.{AreInOrder, AreNeeded, IsNeeded, IsRuledOut, Meets, method_name, mix, number_from, start_number, value_number, value_of}

same_or_other : (a b : ℕ) → (a ≡ b) ⊎ (a ≢ b)
same_or_other zero zero = inl refl
same_or_other zero (suc b) = inr (λ e. absurd cc)
same_or_other (suc a) zero = inr (λ e. absurd cc)
same_or_other (suc a) (suc b) = elim (same_or_other a b) [
  | inl same ↦ inl (ap suc same)
  | inr other ↦ inr (λ e. other cc)
]

-- a value that is not needed, or the one that is
pub zero_or : (value own : ℕ) → (value ≢ 0 → own ≡ value) → (value ≡ 0) ⊎ (own ≡ value)
zero_or value own needed = elim (same_or_other value 0) [
  | inl none ↦ inl none
  | inr nonzero ↦ inr (needed nonzero)
]

-- ---- numbers

-- one byte more
pub number_more : (n : ℕ) (bytes : List ℕ) (b : ℕ) → number_from n (bytes ++ b ∷ []) ≡ mix (number_from n bytes) b
number_more n [] b = refl
number_more n (x ∷ bytes) b = number_more (mix n x) bytes b

pub number_next : (n : ℕ) (bytes : List ℕ) (i d : ℕ) → i < length bytes
    → mix (number_from n (take i bytes)) (get_or bytes i d) ≡ number_from n (take (i + 1) bytes)
number_next n bytes i d within =
    sym (number_more n (take i bytes) (get_or bytes i d))
    ∙ ap (number_from n) (sym (take_more bytes i d within))

-- the numbers of starts, and that of one that is longer by one byte
pub starts_more : (path starts : List ℕ) (count number : ℕ) → count + 1 < length starts
    → ((k : ℕ) → k ≤ count → get_or starts k 0 ≡ start_number (take k path))
    → number ≡ start_number (take (count + 1) path)
    → (k : ℕ) → k ≤ count + 1 → get_or (slice_set starts (count + 1) number) k 0 ≡ start_number (take k path)
starts_more path starts count number within are is k le = elim (same_or_other k (count + 1)) [
  | inl same ↦ rw same (get_or-set_same starts (count + 1) number 0 within ∙ is)
  | inr other ↦ get_or-set_other starts (count + 1) k number 0 other ∙ are k (omega (arith, le, other))
]

-- ---- needs

-- the first bytes of what begins are those of what it begins
pub begins_first : (count : ℕ) (start bytes : List ℕ) → count ≤ length start → Begins start bytes → take count bytes ≡ take count start
begins_first count start bytes within begins =
    ap (take count) (sym (take-append-drop (length start) bytes) ∙ ap (λ l. l ++ drop (length start) bytes) begins)
    ∙ take-append-le count start (drop (length start) bytes) within

none_at : {X : Type 0} (x : X) (i : ℕ) → slice_get [] i ≡ Some x → ⊥
none_at x i is = let past : i < 0 = slice_get_within [] i x is in absurd (omega (arith, past))

not_cons : {X : Type 0} (x : X) (xs : List X) → (x ∷ xs) ≡ [] → ⊥
not_cons x xs is = absurd cc

module _ (most : ℕ) (name : List ℕ) where
  pub needed_push : (ps : List (Policy Program)) (needs : List Need) (p : Policy Program) (need : Need)
      → AreInOrder most name ps needs → IsNeeded most name p need → AreInOrder most name (ps ++ p ∷ []) (needs ++ need ∷ [])
  needed_push [] [] p need are is = (is, refl)
  needed_push [] (n ∷ needs) p need are is = absurd (not_cons n needs are)
  needed_push (q ∷ ps) [] p need are is = absurd are
  needed_push (q ∷ ps) (n ∷ needs) p need are is = (are.0, needed_push ps needs p need are.1 is)

  at_number : (ps : List (Policy Program)) (needs : List Need) (i : ℕ) (d : Policy Program) (e : Need) → AreInOrder most name ps needs
      → i < length ps → i < length needs → IsNeeded most name (get_or ps i d) (get_or needs i e)
  at_number [] needs i d e are in_ps in_needs = let past : i < 0 = in_ps in absurd (omega (arith, past))
  at_number (q ∷ ps) [] i d e are in_ps in_needs = absurd are
  at_number (q ∷ ps) (n ∷ needs) zero d e are in_ps in_needs = are.0
  at_number (q ∷ ps) (n ∷ needs) (suc i) d e are in_ps in_needs = at_number ps needs i d e are.1 (omega (arith, in_ps)) (omega (arith, in_needs))

  -- what the policy of a number needs
  pub needed_at : (ps : List (Policy Program)) (needs : List Need) → AreInOrder most name ps needs
      → (i : ℕ) (p : Policy Program) (need : Need) → slice_get ps i ≡ Some p → slice_get needs i ≡ Some need → IsNeeded most name p need
  needed_at ps needs are i p need at is =
      subst (λ q. IsNeeded most name q need) (get_or_from_slice_get ps i p p at)
      (subst (λ n. IsNeeded most name (get_or ps i p) n) (get_or_from_slice_get needs i need need is)
      (at_number ps needs i p need are (slice_get_within ps i p at) (slice_get_within needs i need is)))

  -- where there is no need
  pub needed_none : (ps : List (Policy Program)) (needs : List Need) → needs ≡ []
      → (i : ℕ) (p : Policy Program) (need : Need) → slice_get ps i ≡ Some p → slice_get needs i ≡ Some need → IsNeeded most name p need
  needed_none ps needs none i p need at is = absurd (none_at need i (sym (ap (λ l. slice_get l i) none) ∙ is))

-- ---- policies

-- the policy of a number
pub policy_at : (list : List Token) (items : List NamedPolicy) (i : ℕ) (item : NamedPolicy) → i < length items → item ≡ get_or items i item
    → slice_get (map (policy_view list) items) i ≡ Some (policy_view list item)
policy_at list items i item within is =
    slice_get-map (policy_view list) items i
    ∙ ap (option_map (policy_view list)) (slice_get-get_or items i item within)
    ∙ ap (λ x. Some (policy_view list x)) (sym is)

-- one that is ruled out says that it does not match
pub ruled_out_matches : (r : RequestValue) (list : List Token) (items : List NamedPolicy) (i : ℕ) (item : NamedPolicy) → i < length items → item ≡ get_or items i item
    → IsRuledOut i r (map (policy_view list) items) → MatchesByRun r (policy_view list item) false
ruled_out_matches r list items i item within is ruled = inl (ruled (policy_view list item) (policy_at list items i item within is), refl)

-- what a request does not have that each has which the sides match
pub not_met : (r : RequestValue) (ps : List (Policy Program)) (needs : List Need) (most : ℕ) (name : List ℕ) (i : ℕ) (need : Need)
    → AreNeeded most name ps needs → slice_get needs i ≡ Some need → (Meets most name need r → ⊥)
    → (p : Policy Program) → slice_get ps i ≡ Some p → sides_match r p ≡ false
not_met r ps needs most name i need are is unmet p at = elim (cases_Bool (sides_match r p)) [
  | inl matches ↦ absurd (unmet (are i p need at is r matches))
  | inr fails ↦ fails
]

-- what a policy needs, by a start and the method of its permissions, and a value of its principals
module _ (most : ℕ) (name : List ℕ) (p : Policy Program) (start : List ℕ) (need : Need) where
  pub need_is : NeedsStart p.permissions start → need.count ≤ length start → need.count ≤ most
      → need.start ≡ start_number (take need.count start)
      → ((r : RequestValue) → some_hold r p.principals ≡ true → need.value ≢ 0 → value_number (value_of r name) ≡ need.value)
      → ((r : RequestValue) → some_hold r p.permissions ≡ true → need.method ≢ 0 → value_number (value_of r method_name) ≡ need.method)
      → (r : RequestValue) → sides_match r p ≡ true → Meets most name need r
  need_is starts in_start in_most number value method r sides =
      let both = and_parts (some_hold r p.permissions) (some_hold r p.principals) sides in
      record {
        within = in_most;
        start = ap start_number (begins_first need.count start (url_path_of r.target) in_start (starts r both.0)) ∙ sym number;
        value = value r both.1;
        method = method r both.0;
      }

-- the number of the value that rules need of a header of this name
pub value_is_needed : (fs : Formulas) (name value : List ℕ) (number : ℕ) → NeedsValue fs name value → number ≡ value_number value
    → (r : RequestValue) → some_hold r fs ≡ true → value_number (value_of r name) ≡ number
value_is_needed fs name value number needs is r some = ap value_number (needs r some) ∙ sym is
