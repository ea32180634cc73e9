-- A list that goes on with the tokens of rules.
use Rattle.std.proofs.Common.{◌≡◌, ℕ, suc, ◌+◌, ◌-◌, ◌<◌, List, [], ◌∷◌, ◌++◌, length, take, drop, sym, subst, ap, ap₂, ◌∙◌, arith}
use Rattle.std.proofs.lemmas.List.{append-nil, append_assoc, length-append}
use Rattle.std.proofs.Math.Seq.{take-append_seam, drop-append-add}
use Rattle.rbac_match.specs.Formula.{Formula, Formulas, end}
use Rattle.rbac_match.specs.Rules.{AreRules}
use Rattle.rbac_match.specs.Tokens.{Token, every, joins, tokens, rule_tokens, AddsRule, AddsRules, GoesOn, decode, slice_at}
use Rattle.rbac_match.specs.View.{rules_view}
use Rattle.rbac_match.specs.declared.list.Joint.{Joint}
use Rattle.rbac_match.specs.declared.list.Rules.{Rules}
pub use Rattle.rbac_match.proofs.LeafLists.{goes_on_more}
use Rattle.rbac_match.proofs.Levels.{push, are_rules_push}
use Rattle.rbac_match.proofs.Tokens.{tokens_push, decode_tokens, slice_middle}

module _ (before opened after inside : List Token) (place : ℕ) (here : place ≡ length before) (opening : opened ≡ before ++ every ∷ []) (added : after ≡ opened ++ inside) where
  whole : after ≡ before ++ every ∷ inside
  whole = added ∙ ap (λ l. l ++ inside) opening ∙ append_assoc before (every ∷ []) inside

  size : length after ≡ length before + suc (length inside)
  size = ap length whole ∙ length-append before (every ∷ inside)

  -- the place of a rule that was opened is in the list
  pub opened_within : place < length after
  opened_within = omega (arith, here, size)

  -- the list in which the rule joins all behind it
  pub joined : (joint : Joint) → take place after ++ joins joint (length after - place - 1) ∷ drop (place + 1) after
      ≡ before ++ joins joint (length inside) ∷ inside
  joined joint =
      let count : length after - place - 1 ≡ length inside = omega (arith, here, size) in
      let first : take place after ≡ before = ap₂ take here whole ∙ take-append_seam before (every ∷ inside) in
      let rest : drop (place + 1) after ≡ inside = ap₂ (λ n l. drop (n + 1) l) here whole ∙ drop-append-add before (every ∷ inside) 1 in
      ap₂ (λ a b. a ++ b) first (ap₂ (λ n l. joins joint n ∷ l) count rest)

-- no rules were added
pub adds_none : (Below : List (List ℕ) → Formula → Type 0) (list : List Token) → AddsRules (AreRules Below []) list list
adds_none Below list = (end, tt, sym (append-nil list))

-- one rule more
pub adds_one : (Below : List (List ℕ) → Formula → Type 0) (children : List (List ℕ)) (child : List ℕ) (before mid after : List Token)
    → AddsRules (AreRules Below children) before mid → AddsRule (Below (child ∷ [])) mid after
    → AddsRules (AreRules Below (children ++ child ∷ [])) before after
adds_one Below children child before mid after so_far one = (
  push so_far.0 one.0,
  are_rules_push Below children so_far.0 child one.0 so_far.1 one.1,
  one.2 ∙ ap (λ l. l ++ rule_tokens one.0) so_far.2 ∙ append_assoc before (tokens so_far.0) (rule_tokens one.0)
      ∙ ap (λ l. before ++ l) (sym (tokens_push so_far.0 one.0)),
)

-- what was added is there, and stays where the list goes on
pub added_rules : (before after : List Token) (fs : Formulas) (rules : Rules) (more : List Token) → after ≡ before ++ tokens fs
    → rules.from ≡ length before → rules.count ≡ length after - length before → rules_view (after ++ more) rules ≡ fs
added_rules before after fs rules more is from count =
    let size = ap length is ∙ length-append before (tokens fs) in
    let many : rules.count ≡ length (tokens fs) = omega (arith, count, size) in
    ap decode (ap₂ (λ n m. slice_at n m (after ++ more)) from many
    ∙ ap (λ l. slice_at (length before) (length (tokens fs)) (l ++ more)) is
    ∙ slice_middle before (tokens fs) more)
    ∙ decode_tokens fs

-- what holds however a list goes on holds of one that goes on further
pub stays : (before after more : List Token) (P : List Token → Type 0) → GoesOn before after
    → ((rest : List Token) → P (before ++ rest)) → P (after ++ more)
stays before after more P on holds =
    subst P (sym (ap (λ l. l ++ more) on.1 ∙ append_assoc before on.0 more)) (holds (on.0 ++ more))
