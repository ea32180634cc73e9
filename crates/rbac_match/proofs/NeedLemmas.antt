-- What each request has that a test passes, or that rules match.
use Rattle.std.proofs.Common.{◌≡◌, ℕ, ◌+◌, ◌<◌, ◌||◌, ◌==◌, ◌⊎◌, Bool, true, false, List, [], ◌∷◌, ◌++◌, length, take, drop, get_or, Option, Some, None, nat_eq, inl, inr, refl, sym, ap, ◌∙◌}
use Rattle.std.proofs.lemmas.Bool.{and_parts}
use Rattle.std.proofs.lemmas.List.{append_assoc, take-append-drop, take_more}
use Rattle.std.proofs.Math.Dec.{eqb-suc-zero}
use Rattle.std.proofs.Math.Seq.{take-append_seam, take-length}
use Rattle.std.specs.List.{slice_get, starts_with}
use Rattle.std.specs.Prelude.{IfSome, unwrap_or}
use Rattle.std.specs.Str.{bytes_eq}
use Rattle.attributes.proofs.TextOrder.{same_from_test}
use Rattle.attributes.specs.Request.{RequestValue}
use Rattle.rbac_match.specs.Formula.{Formulas, formula, holds, all_hold, some_hold}
use Rattle.rbac_match.specs.Header.{value_holds}
use Rattle.rbac_match.specs.Needs.{Begins}
use Rattle.rbac_match.specs.Tokens.{formula_of, inside_count}
use Rattle.rbac_match.specs.declared.list.Node.{Node}
use Rattle.rbac_match.specs.declared.list.Node.TheVariants.{Leaf}
use Rattle.rbac_match.specs.declared.matcher.Matcher.{Matcher}
use Rattle.rbac_match.specs.declared.text.Pattern.{Pattern}
use Rattle.rbac_match.specs.declared.text.Pattern.TheVariants.{Exact, Prefix, Suffix, Contains}
use Rattle.rbac_match.specs.Text.{pattern_holds}
use Rattle.rbac_match.specs.private.Leaves.{passes_at}
use Rattle.rbac_match.specs.private.Nodes.{formula_in, formulas_in, test_at, token_in}
use Rattle.rbac_match.proofs.NodeLists.{first_rule}
use Rattle.rbac_match.proofs.Texts.{starts_rest}

-- ---- starts

-- what begins bytes has a rest behind it
begins_rest : (start bytes : List ℕ) → Begins start bytes → bytes ≡ start ++ drop (length start) bytes
begins_rest start bytes begins =
    sym (take-append-drop (length start) bytes) ∙ ap (λ l. l ++ drop (length start) bytes) begins

rest_begins : (start rest bytes : List ℕ) → bytes ≡ start ++ rest → Begins start bytes
rest_begins start rest bytes is = ap (take (length start)) is ∙ take-append_seam start rest

-- what begins a start begins what that begins
pub begins_more : (one two bytes : List ℕ) → Begins one two → Begins two bytes → Begins one bytes
begins_more one two bytes a b =
    let x = drop (length one) two in
    let y = drop (length two) bytes in
    rest_begins one (x ++ y) bytes
    (begins_rest two bytes b ∙ ap (λ l. l ++ y) (begins_rest one two a) ∙ append_assoc one x y)

-- the first bytes, so many
pub first_begins : (n : ℕ) (bytes other : List ℕ) → take n bytes ≡ take n other → Begins (take n bytes) other
first_begins n bytes other same =
    rest_begins (take n bytes) (drop n other) other (sym (take-append-drop n other) ∙ ap (λ l. l ++ drop n other) (sym same))

-- one byte more that is the same
pub same_more : (n : ℕ) (one other : List ℕ) (a b : ℕ) → n < length one → n < length other → a ≡ get_or one n a → b ≡ get_or other n b → b ≡ a
    → take n one ≡ take n other → take (n + 1) one ≡ take (n + 1) other
same_more n one other a b in_one in_other is_a is_b eq same =
    take_more one n a in_one
    ∙ ap (λ l. l ++ get_or one n a ∷ []) same
    ∙ ap (λ x. take n other ++ x ∷ []) (sym is_a ∙ sym eq ∙ is_b)
    ∙ sym (take_more other n b in_other)

prefix_begins : (start bytes : List ℕ) → starts_with nat_eq bytes start ≡ true → Begins start bytes
prefix_begins start bytes starts = let some = (starts_rest bytes start).0 starts in rest_begins start some.0 bytes some.1

whole_begins : (whole bytes : List ℕ) → bytes_eq bytes whole ≡ true → Begins whole bytes
whole_begins whole bytes same = ap (take (length whole)) (same_from_test bytes whole same) ∙ take-length whole

-- what is compared by its start begins with what it is compared with
pub plain_begins : (pattern : Pattern) (start bytes : List ℕ) → (pattern ≡ Exact) ⊎ (pattern ≡ Prefix)
    → pattern_holds pattern start bytes ≡ true → Begins start bytes
plain_begins Exact start bytes is holds = whole_begins start bytes holds
plain_begins Prefix start bytes is holds = prefix_begins start bytes holds
plain_begins Suffix start bytes is holds = elim is [ inl e ↦ absurd cc | inr e ↦ absurd cc ]
plain_begins Contains start bytes is holds = elim is [ inl e ↦ absurd cc | inr e ↦ absurd cc ]

-- ---- values

-- what is there is as it follows from how it is
pub if_some_more : {T : Type 0} (o : Option T) (P Q : T → Type 0) → ((x : T) → P x → Q x) → IfSome o P → IfSome o Q
if_some_more None P Q more is = is
if_some_more (Some x) P Q more is = more x is

-- a value that passes where only one does; a missing one counts as empty
pub only_value : (test : List ℕ → Bool) (whole : List ℕ) (empty : Bool) (found : Option (List ℕ))
    → ((bytes : List ℕ) → test bytes ≡ true → bytes ≡ whole)
    → value_holds test false empty found ≡ true → unwrap_or found [] ≡ whole
only_value test whole empty (Some value) only passes = only value passes
only_value test whole true None only passes = only [] passes
only_value test whole false None only passes = absurd cc

-- ---- rules

by_test : (r : RequestValue) (o : Option Matcher) (fs : Formulas) → holds r (formula_of (test_at o) fs) ≡ passes_at o r
by_test r None fs = refl
by_test r (Some m) fs = refl

-- no rule is left
pub none_left : (r : RequestValue) (leaves : List Matcher) (left : List Node) → (length left == 0) ≡ true
    → some_hold r (formulas_in leaves left) ≡ true → ⊥
none_left r leaves [] none some = let clash : false ≡ true = some in absurd cc
none_left r leaves (node ∷ left) none some = let clash : false ≡ true = sym (eqb-suc-zero (length left)) ∙ none in absurd cc

-- a node that is a test
pub test_holds : (r : RequestValue) (leaves : List Matcher) (place : ℕ) (inside : List Node)
    → holds r (formula_in leaves (Leaf place) inside) ≡ passes_at (slice_get leaves place) r
test_holds r leaves place inside = by_test r (slice_get leaves place) (formulas_in leaves inside)

either : (a b : Bool) → (a || b) ≡ true → (a ≡ true) ⊎ (b ≡ true)
either true b is = inl refl
either false b is = inr is

module _ (r : RequestValue) (leaves : List Matcher) (rest behind : List Node) (node : Node) (is : rest ≡ node ∷ behind) where
  module _ (count : ℕ) (within left : List Node) (size : count ≡ inside_count (token_in leaves node)) (taken : within ≡ take count behind) (dropped : left ≡ drop count behind) where
    rule : formulas_in leaves rest ≡ formula (formula_in leaves node within) (formulas_in leaves left)
    rule = first_rule leaves rest behind within left node count is size taken dropped

    -- where each rule matches, so do the first and those behind it
    pub parts_of_all : all_hold r (formulas_in leaves rest) ≡ true
        → (holds r (formula_in leaves node within) ≡ true) × (all_hold r (formulas_in leaves left) ≡ true)
    parts_of_all all = and_parts (holds r (formula_in leaves node within)) (all_hold r (formulas_in leaves left)) (sym (ap (all_hold r) rule) ∙ all)

    -- where some rule matches, it is the first or one behind it
    pub first_or_behind : some_hold r (formulas_in leaves rest) ≡ true
        → (holds r (formula_in leaves node within) ≡ true) ⊎ (some_hold r (formulas_in leaves left) ≡ true)
    first_or_behind some = either (holds r (formula_in leaves node within)) (some_hold r (formulas_in leaves left)) (sym (ap (some_hold r) rule) ∙ some)

  -- where each rule matches, so does the first
  pub first_of_all : all_hold r (formulas_in leaves rest) ≡ true
      → holds r (formula_in leaves node (take (inside_count (token_in leaves node)) behind)) ≡ true
  first_of_all all =
      let k = inside_count (token_in leaves node) in
      (parts_of_all k (take k behind) (drop k behind) refl refl refl all).0
