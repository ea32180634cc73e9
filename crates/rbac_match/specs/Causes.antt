-- The leaves that decide whether a rule matches a request. What a rule means is Envoy RBAC, "Permission" and
-- "Principal" (config.rbac.v3); which leaves an explanation names is this project's own choice.
use Rattle.std.specs.Prelude.{◌≡◌, ℕ, zero, suc, ◌+◌, Bool, not, if◌then◌else◌, List, [], ◌∷◌, ◌++◌, map, Option, Some, None}
use Rattle.attributes.specs.Request.{RequestValue}
use Rattle.rbac_match.specs.Formula.{Formula, any, and_of, or_of, not_of, leaf, Formulas, end, formula, all_hold, holds, some_hold}
use Rattle.rbac_match.specs.Tokens.{joined_by}
use Rattle.rbac_match.specs.declared.causes.Step.{Step}
use Rattle.rbac_match.specs.declared.list.Joint.{Joint}
use Rattle.rbac_match.specs.declared.list.Joint.TheVariants.{And, Or, Not}
use Rattle.rbac_match.specs.declared.matcher.Matcher.{Matcher}

-- a leaf that decides: the steps from the rule to it, and its test; without a test, it matches every request
pub record CauseValue : Type 0 where
  pub path : List Step
  pub test : Option Matcher

-- the leaf that is the rule itself
abbrev pub itself : Option Matcher → CauseValue
itself test = record { path = []; test = test }

-- a leaf of the joined rule at this index, with its path from the rule that joins it
abbrev pub within : Joint → ℕ → CauseValue → CauseValue
within joint index cause =
    record { path = record { joint = joint; index = index } ∷ cause.path; test = cause.test }

-- whether a joined rule of this value decides alone: one that fails decides an `and`, one that holds an `or`
abbrev pub decides : Joint → Bool → Bool
decides And value = not value
decides _ value = value

-- whether some joined rule decides alone
abbrev pub is_decided : RequestValue → Joint → Formulas → Bool
is_decided r And fs = not (all_hold r fs)
is_decided r _ fs = some_hold r fs

abbrev mutual
  -- the leaves that decide whether the rule matches the request, in order
  pub causes : RequestValue → Formula → List CauseValue
  causes r any = itself None ∷ []
  causes r (leaf m) = itself (Some m) ∷ []
  causes r (not_of f) = map (within Not 0) (causes r f)
  causes r (and_of fs) =
      if is_decided r And fs then first_causes r And 0 fs else all_causes r And 0 fs
  causes r (or_of fs) =
      if is_decided r Or fs then first_causes r Or 0 fs else all_causes r Or 0 fs

  -- the leaves of the first joined rule that decides alone. The indices of the rules begin at `n`
  pub first_causes : RequestValue → Joint → ℕ → Formulas → List CauseValue
  first_causes r joint n end = []
  first_causes r joint n (formula f fs) =
      if decides joint (holds r f) then map (within joint n) (causes r f)
      else first_causes r joint (n + 1) fs

  -- those of all joined rules
  pub all_causes : RequestValue → Joint → ℕ → Formulas → List CauseValue
  all_causes r joint n end = []
  all_causes r joint n (formula f fs) =
      map (within joint n) (causes r f) ++ all_causes r joint (n + 1) fs

-- ---- what the laws say of causes

-- the rule that is a leaf
abbrev pub leaf_rule : Option Matcher → Formula
leaf_rule None = any
leaf_rule (Some m) = leaf m

-- the rule at this index
abbrev pub rule_at : Formulas → ℕ → Option Formula
rule_at end index = None
rule_at (formula f fs) zero = Some f
rule_at (formula f fs) (suc index) = rule_at fs index

-- the steps lead from the rule `f` to the rule `g` in it
abbrev pub LeadsTo : List Step → Formula → Formula → Type 0
LeadsTo [] f g = f ≡ g
LeadsTo (step ∷ path) f g = (fs : Formulas) × (inner : Formula) × (f ≡ joined_by step.joint fs)
    × (rule_at fs step.index ≡ Some inner) × LeadsTo path inner g

-- the value of a rule, from that of a joined rule which decides it: negated under `not`, else the same
abbrev pub value_by : Joint → Bool → Bool
value_by Not value = not value
value_by _ value = value

-- the value of a rule from that of a leaf at the end of the path: negated once for each `not` on the path
abbrev pub value_from : List Step → Bool → Bool
value_from [] value = value
value_from (step ∷ path) value = value_by step.joint (value_from path value)

-- the leaf is at the end of its path in the rule, and its value gives that of the rule
abbrev pub IsCauseOf : RequestValue → Formula → CauseValue → Type 0
IsCauseOf r f cause = LeadsTo cause.path f (leaf_rule cause.test)
    × (value_from cause.path (holds r (leaf_rule cause.test)) ≡ holds r f)

-- the leaf has the same value for both requests
abbrev pub IsSame : (r q : RequestValue) → CauseValue → Type 0
IsSame r q cause = holds q (leaf_rule cause.test) ≡ holds r (leaf_rule cause.test)
