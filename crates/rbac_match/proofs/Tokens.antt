-- A list of tokens and its rules: what is read of the tokens of rules is the rules.
use Rattle.std.proofs.Common.{◌≡◌, ℕ, zero, suc, ◌≤◌, List, [], ◌∷◌, ◌++◌, length, take, drop, refl, sym, ap, ap₂, ◌∙◌, arith}
use Rattle.std.proofs.lemmas.List.{append-nil, append_assoc, length-take, length-drop}
use Rattle.std.proofs.Math.Seq.{take-append_seam, drop-append_seam}
use Rattle.rbac_match.specs.Formula.{Formula, any, and_of, or_of, not_of, leaf, Formulas, end, formula}
use Rattle.rbac_match.specs.Tokens.{Token, every, test, joins, rule_tokens, tokens, inside_count, first_of, formula_of, decode_within, decode, slice_at}
use Rattle.rbac_match.specs.declared.list.Joint.TheVariants.{And, Or, Not}
use Rattle.rbac_match.proofs.Levels.{push}

-- tokens enough: how many may be read does not matter
pub enough : (n m : ℕ) (ts : List Token) → length ts ≤ n → length ts ≤ m
    → decode_within n ts ≡ decode_within m ts
enough zero zero ts le1 le2 = refl
enough zero (suc m) [] le1 le2 = refl
enough zero (suc m) (t ∷ ts) le1 le2 = absurd (omega arith)
enough (suc n) zero [] le1 le2 = refl
enough (suc n) zero (t ∷ ts) le1 le2 = absurd (omega arith)
enough (suc n) (suc m) [] le1 le2 = refl
enough (suc n) (suc m) (t ∷ ts) le1 le2 =
    let k = inside_count t in
    let few = length-take k ts in
    let rest = length-drop k ts in
    let inner = enough n m (take k ts) (omega arith) (omega arith) in
    let others = enough n m (drop k ts) (omega arith) (omega arith) in
    ap₂ (λ a b. formula (formula_of t a) b) inner others

-- what is read is the first rule, with the rules in it, and those behind it
pub decode_cons : (t : Token) (ts : List Token) → decode (t ∷ ts)
    ≡ formula (formula_of t (decode (take (inside_count t) ts))) (decode (drop (inside_count t) ts))
decode_cons t ts =
    let k = inside_count t in
    let few = length-take k ts in
    let rest = length-drop k ts in
    let inner = enough (length ts) (length (take k ts)) (take k ts) (omega arith) (omega arith) in
    let others = enough (length ts) (length (drop k ts)) (drop k ts) (omega arith) (omega arith) in
    ap₂ (λ a b. formula (formula_of t a) b) inner others

mutual
  -- the tokens of a rule, and others behind them
  pub decode_rule : (f : Formula) (ts : List Token) → decode (rule_tokens f ++ ts) ≡ formula f (decode ts)
  decode_rule any ts = decode_cons every ts
  decode_rule (leaf m) ts = decode_cons (test m) ts
  decode_rule (and_of fs) ts =
      decode_cons (joins And (length (tokens fs))) (tokens fs ++ ts)
      ∙ ap₂ (λ a b. formula (and_of (decode a)) (decode b)) (take-append_seam (tokens fs) ts) (drop-append_seam (tokens fs) ts)
      ∙ ap (λ gs. formula (and_of gs) (decode ts)) (decode_tokens fs)
  decode_rule (or_of fs) ts =
      decode_cons (joins Or (length (tokens fs))) (tokens fs ++ ts)
      ∙ ap₂ (λ a b. formula (or_of (decode a)) (decode b)) (take-append_seam (tokens fs) ts) (drop-append_seam (tokens fs) ts)
      ∙ ap (λ gs. formula (or_of gs) (decode ts)) (decode_tokens fs)
  decode_rule (not_of f) ts =
      decode_cons (joins Not (length (rule_tokens f))) (rule_tokens f ++ ts)
      ∙ ap₂ (λ a b. formula (not_of (first_of (decode a))) (decode b)) (take-append_seam (rule_tokens f) ts) (drop-append_seam (rule_tokens f) ts)
      ∙ ap (λ l. formula (not_of (first_of (decode l))) (decode ts)) (sym (append-nil (rule_tokens f)))
      ∙ ap (λ gs. formula (not_of (first_of gs)) (decode ts)) (decode_rule f [])

  -- what is read of the tokens of rules is the rules
  pub decode_tokens : (fs : Formulas) → decode (tokens fs) ≡ fs
  decode_tokens end = refl
  decode_tokens (formula f fs) = decode_rule f (tokens fs) ∙ ap (formula f) (decode_tokens fs)

-- the tokens of one rule more
pub tokens_push : (fs : Formulas) (f : Formula) → tokens (push fs f) ≡ tokens fs ++ rule_tokens f
tokens_push end f = append-nil (rule_tokens f)
tokens_push (formula g fs) f = ap (λ l. rule_tokens g ++ l) (tokens_push fs f) ∙ sym (append_assoc (rule_tokens g) (tokens fs) (rule_tokens f))

-- a part in the middle of a list is that part
pub slice_middle : {X : Type 0} → (before part after : List X) → slice_at (length before) (length part) ((before ++ part) ++ after) ≡ part
slice_middle before part after =
    ap (λ l. take (length part) (drop (length before) l)) (append_assoc before part after)
    ∙ ap (take (length part)) (drop-append_seam before (part ++ after))
    ∙ take-append_seam part after
