-- Causes in lists: what a search appends.
use Rattle.std.proofs.Common.{◌≡◌, ℕ, zero, suc, ◌+◌, ◌≤◌, List, [], ◌∷◌, ◌++◌, length, map, take, Option, Some, None, true, false, refl, sym, ap, ap₂, ◌∙◌, arith}
use Rattle.std.proofs.lemmas.List.{append-nil, append_assoc, length-map, length-take, map-append}
use Rattle.attributes.specs.Request.{RequestValue}
use Rattle.rbac_match.specs.Causes.{CauseValue, all_causes, causes, decides, first_causes, itself, within}
use Rattle.rbac_match.specs.Formula.{Formula, Formulas, formula, holds}
use Rattle.rbac_match.specs.Tokens.{formula_of}
use Rattle.rbac_match.specs.declared.causes.Cause.{Cause}
use Rattle.rbac_match.specs.declared.causes.Step.{Step}
use Rattle.rbac_match.specs.declared.list.Joint.{Joint}
use Rattle.rbac_match.specs.declared.matcher.Matcher.{Matcher}
use Rattle.rbac_match.specs.private.Causes.{Finds, below, cause_in, causes_in}
use Rattle.rbac_match.specs.private.Nodes.{test_at}

-- ---- lists

-- what was taken, and more after it
take_again : {X : Type 0} (n : ℕ) (xs ys : List X) → take n (take n xs ++ ys) ≡ take n (xs ++ ys)
take_again zero xs ys = refl
take_again (suc n) [] ys = refl
take_again (suc n) (x ∷ xs) ys = ap (λ l. x ∷ l) (take_again n xs ys)

-- no more than may be taken
pub take_few : {X : Type 0} (n : ℕ) (xs : List X) → length xs ≤ n → take n xs ≡ xs
take_few zero [] le = refl
take_few zero (x ∷ xs) le = absurd (omega arith)
take_few (suc n) [] le = refl
take_few (suc n) (x ∷ xs) le = ap (λ l. x ∷ l) (take_few n xs (omega arith))

-- ---- paths

-- the step to a joined rule
abbrev pub step_to : Joint → ℕ → Step
step_to joint index = record { joint = joint; index = index }

-- a path with one step more
below_within : (path : List Step) (joint : Joint) (n : ℕ) (cs : List CauseValue)
    → map (below (path ++ step_to joint n ∷ [])) cs ≡ map (below path) (map (within joint n) cs)
below_within path joint n [] = refl
below_within path joint n (c ∷ cs) =
    let same : below (path ++ step_to joint n ∷ []) c ≡ below path (within joint n c) =
    ap (λ (p : List Step). record { path = p; test = c.test }) (append_assoc path (step_to joint n ∷ []) c.path) in
    ap₂ (λ a b. a ∷ b) same (below_within path joint n cs)

-- a path without a step
pub below_none : (cs : List CauseValue) → map (below []) cs ≡ cs
below_none [] = refl
below_none (c ∷ cs) = ap (λ l. c ∷ l) (below_none cs)

-- ---- the leaf that is a rule

pub leaf_causes : (r : RequestValue) (o : Option Matcher) (fs : Formulas) → causes r (formula_of (test_at o) fs) ≡ itself o ∷ []
leaf_causes r None fs = refl
leaf_causes r (Some m) fs = refl

-- ---- what a search appends

module _ (leaves : List Matcher) (limit : ℕ) (path : List Step) where
  -- there are no more than the limit
  pub found_few : (before after : List Cause) (more : List CauseValue) → Finds leaves limit path before after more → length after ≤ limit
  found_few before after more finds =
      let same = ap length finds in
      let all = length-map after (cause_in leaves) in
      let most = length-take limit (causes_in leaves before ++ map (below path) more) in
      omega arith

  -- nothing is appended
  pub finds_none : (found : List Cause) → length found ≤ limit → Finds leaves limit path found found []
  finds_none found few =
      let all = length-map found (cause_in leaves) in
      sym (ap (take limit) (append-nil (causes_in leaves found)) ∙ take_few limit (causes_in leaves found) (omega arith))

  -- the causes of a joined rule, by a path with one step more
  pub finds_deeper : (joint : Joint) (n : ℕ) (deeper : List Step) (before after : List Cause) (cs : List CauseValue)
      → deeper ≡ path ++ step_to joint n ∷ [] → Finds leaves limit deeper before after cs
      → Finds leaves limit path before after (map (within joint n) cs)
  finds_deeper joint n deeper before after cs is finds =
      finds
      ∙ ap (λ (p : List Step). take limit (causes_in leaves before ++ map (below p) cs)) is
      ∙ ap (λ l. take limit (causes_in leaves before ++ l)) (below_within path joint n cs)

  -- those of one rule, and then those of others
  pub finds_more : (before after : List Cause) (one more : List CauseValue) → Finds leaves limit path before after one
      → take limit (causes_in leaves after ++ map (below path) more)
      ≡ take limit (causes_in leaves before ++ map (below path) (one ++ more))
  finds_more before after one more finds =
      ap (λ l. take limit (l ++ map (below path) more)) finds
      ∙ take_again limit (causes_in leaves before ++ map (below path) one) (map (below path) more)
      ∙ ap (take limit) (append_assoc (causes_in leaves before) (map (below path) one) (map (below path) more))
      ∙ ap (λ l. take limit (causes_in leaves before ++ l)) (sym (map-append (below path) one more))

-- ---- the first rule of some

module _ (r : RequestValue) (joint : Joint) (n : ℕ) (fs gs : Formulas) (f : Formula) (is : fs ≡ formula f gs) where
  -- it decides alone
  pub first_here : decides joint (holds r f) ≡ true → map (within joint n) (causes r f) ≡ first_causes r joint n fs
  first_here settled = rw (is, settled) refl

  -- it does not
  pub first_later : decides joint (holds r f) ≡ false → first_causes r joint (n + 1) gs ≡ first_causes r joint n fs
  first_later other = rw (is, other) refl

  pub all_here : map (within joint n) (causes r f) ++ all_causes r joint (n + 1) gs ≡ all_causes r joint n fs
  all_here = rw is refl

-- from no causes and the start of a rule
pub from_start : (leaves : List Matcher) (limit : ℕ) (path : List Step) (before after : List Cause) (cs : List CauseValue)
    → before ≡ [] → path ≡ [] → Finds leaves limit path before after cs → causes_in leaves after ≡ take limit cs
from_start leaves limit path before after cs none start finds =
    finds
    ∙ ap₂ (λ (l : List Cause) (p : List Step). take limit (causes_in leaves l ++ map (below p) cs)) none start
    ∙ ap (take limit) (below_none cs)
