-- Rules in one list, each before the rules in it, as tokens in the order of their messages: Envoy RBAC,
-- "Permission" and "Principal" (config.rbac.v3).
use Rattle.std.specs.Prelude.{◌≡◌, ℕ, zero, suc, List, [], ◌∷◌, ◌++◌, length, take, drop}
use Rattle.rbac_match.specs.Formula.{Formula, any, and_of, or_of, not_of, leaf, Formulas, end, formula}
use Rattle.rbac_match.specs.declared.list.Joint.{Joint}
use Rattle.rbac_match.specs.declared.list.Joint.TheVariants.{And, Or, Not}
use Rattle.rbac_match.specs.declared.matcher.Matcher.{Matcher}

-- one rule: it always matches, it is a test, or it joins the rules in it, which take this many tokens
pub data Token : Type 0 where
  every : Token
  test : Matcher → Token
  joins : Joint → ℕ → Token

abbrev mutual
  -- the tokens of a rule
  pub rule_tokens : Formula → List Token
  rule_tokens any = every ∷ []
  rule_tokens (leaf m) = test m ∷ []
  rule_tokens (and_of fs) = joins And (length (tokens fs)) ∷ tokens fs
  rule_tokens (or_of fs) = joins Or (length (tokens fs)) ∷ tokens fs
  rule_tokens (not_of f) = joins Not (length (rule_tokens f)) ∷ rule_tokens f

  -- the tokens of rules, in order
  pub tokens : Formulas → List Token
  tokens end = []
  tokens (formula f fs) = rule_tokens f ++ tokens fs

-- the number of tokens of the rules in a rule
abbrev pub inside_count : Token → ℕ
inside_count every = 0
inside_count (test m) = 0
inside_count (joins joint count) = count

-- the first formula; without one, the formula that always holds
abbrev pub first_of : Formulas → Formula
first_of end = any
first_of (formula f fs) = f

-- the rule that joins these rules
abbrev pub joined_by : Joint → Formulas → Formula
joined_by And fs = and_of fs
joined_by Or fs = or_of fs
joined_by Not fs = not_of (first_of fs)

-- the rule of a token, with these rules in it
abbrev pub formula_of : Token → Formulas → Formula
formula_of every fs = any
formula_of (test m) fs = leaf m
formula_of (joins joint count) fs = joined_by joint fs

-- the rules of a list; `most` is the fuel, which is enough for this many tokens
abbrev pub decode_within : (most : ℕ) → List Token → Formulas
decode_within zero ts = end
decode_within (suc most) [] = end
decode_within (suc most) (t ∷ ts) = formula
    (formula_of t (decode_within most (take (inside_count t) ts)))
    (decode_within most (drop (inside_count t) ts))

-- the rules of a list: each token is a rule, and the rules in it follow the token
abbrev pub decode : List Token → Formulas
decode ts = decode_within (length ts) ts

-- `count` items, from place `from` on
abbrev pub slice_at : {X : Type 0} → (from count : ℕ) → List X → List X
slice_at from count items = take count (drop from items)

-- the list after is the list before, with items appended
abbrev pub GoesOn : {X : Type 0} → List X → List X → Type 0
GoesOn {X} before after = (more : List X) × (after ≡ before ++ more)

-- the tokens of one rule, of which `Is` holds, were appended to the list
abbrev pub AddsRule : (Formula → Type 0) → List Token → List Token → Type 0
AddsRule Is before after = (f : Formula) × Is f × (after ≡ before ++ rule_tokens f)

-- the tokens of rules, of which `Are` holds, were appended to the list
abbrev pub AddsRules : (Formulas → Type 0) → List Token → List Token → Type 0
AddsRules Are before after = (fs : Formulas) × Are fs × (after ≡ before ++ tokens fs)
