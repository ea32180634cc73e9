-- Nodes of a list, and the tokens and the rules that they are.
use Rattle.std.proofs.Common.{◌≡◌, ℕ, zero, suc, ◌+◌, ◌-◌, ◌≤◌, ◌<◌, List, [], ◌∷◌, ◌++◌, length, take, drop, slice_set, refl, sym, ap, ap₂, subst, ◌∙◌, arith}
use Rattle.std.proofs.lemmas.List.{length-append, length-map, take-map, drop-map, get_or_append_left}
use Rattle.std.proofs.lemmas.Option.{slice_get-get_or}
use Rattle.std.proofs.Math.Seq.{get_or-append_seam}
use Rattle.std.specs.Prelude.{Some, slice_get}
use Rattle.rbac_match.specs.Formula.{formula}
use Rattle.rbac_match.specs.Tokens.{Token, every, joins, inside_count, decode, formula_of, slice_at}
use Rattle.rbac_match.specs.declared.list.Joint.{Joint}
use Rattle.rbac_match.specs.declared.list.Node.{Node}
use Rattle.rbac_match.specs.declared.list.Node.TheVariants.{Any, Leaf, Joined}
use Rattle.rbac_match.specs.declared.matcher.Matcher.{Matcher}
use Rattle.rbac_match.specs.private.Nodes.{token_in, tokens_in, test_at, formulas_in, formula_in, HasLeaves}
use Rattle.rbac_match.proofs.Tokens.{decode_cons}

-- ---- the places of tests

pub has_more : (n m : ℕ) (nodes : List Node) → n ≤ m → HasLeaves n nodes → HasLeaves m nodes
has_more n m [] le has = tt
has_more n m (Any ∷ nodes) le has = has_more n m nodes le has
has_more n m (Leaf place ∷ nodes) le has = let here = has.0 in (omega arith, has_more n m nodes le has.1)
has_more n m (Joined joint count ∷ nodes) le has = has_more n m nodes le has

pub has_push : (n : ℕ) (nodes : List Node) (node : Node) → HasLeaves n nodes → HasLeaves n (node ∷ []) → HasLeaves n (nodes ++ node ∷ [])
has_push n [] node has is = is
has_push n (Any ∷ nodes) node has is = has_push n nodes node has is
has_push n (Leaf place ∷ nodes) node has is = (has.0, has_push n nodes node has.1 is)
has_push n (Joined joint count ∷ nodes) node has is = has_push n nodes node has is

pub has_set : (n : ℕ) (nodes : List Node) (i : ℕ) (joint : Joint) (count : ℕ) → HasLeaves n nodes → HasLeaves n (slice_set nodes i (Joined joint count))
has_set n [] i joint count has = tt
has_set n (Any ∷ nodes) zero joint count has = has
has_set n (Leaf place ∷ nodes) zero joint count has = has.1
has_set n (Joined j c ∷ nodes) zero joint count has = has
has_set n (Any ∷ nodes) (suc i) joint count has = has_set n nodes i joint count has
has_set n (Leaf place ∷ nodes) (suc i) joint count has = (has.0, has_set n nodes i joint count has.1)
has_set n (Joined j c ∷ nodes) (suc i) joint count has = has_set n nodes i joint count has

-- ---- tokens

-- a test more leaves the tests before it
test_stays : (leaves : List Matcher) (m : Matcher) (place : ℕ) → place < length leaves → slice_get (leaves ++ m ∷ []) place ≡ slice_get leaves place
test_stays leaves m place within =
    let longer = length-append leaves (m ∷ []) in
    slice_get-get_or (leaves ++ m ∷ []) place m (omega arith)
    ∙ ap Some (get_or_append_left leaves (m ∷ []) m place within)
    ∙ sym (slice_get-get_or leaves place m within)

pub tokens_stay : (leaves : List Matcher) (m : Matcher) (nodes : List Node) → HasLeaves (length leaves) nodes
    → tokens_in (leaves ++ m ∷ []) nodes ≡ tokens_in leaves nodes
tokens_stay leaves m [] has = refl
tokens_stay leaves m (Any ∷ nodes) has = ap (λ l. every ∷ l) (tokens_stay leaves m nodes has)
tokens_stay leaves m (Leaf place ∷ nodes) has =
    ap₂ (λ o l. test_at o ∷ l) (test_stays leaves m place has.0) (tokens_stay leaves m nodes has.1)
tokens_stay leaves m (Joined joint count ∷ nodes) has = ap (λ l. joins joint count ∷ l) (tokens_stay leaves m nodes has)

-- the last test
pub test_added : (leaves : List Matcher) (m : Matcher) → slice_get (leaves ++ m ∷ []) (length leaves) ≡ Some m
test_added leaves m =
    let longer = length-append leaves (m ∷ []) in
    slice_get-get_or (leaves ++ m ∷ []) (length leaves) m (omega arith) ∙ ap Some (get_or-append_seam leaves m [] m)

-- a node in the place of another
tokens_set : (leaves : List Matcher) (nodes : List Node) (i : ℕ) (joint : Joint) (count : ℕ) → i < length nodes
    → tokens_in leaves (slice_set nodes i (Joined joint count))
    ≡ take i (tokens_in leaves nodes) ++ joins joint count ∷ drop (i + 1) (tokens_in leaves nodes)
tokens_set leaves [] i joint count within = absurd (omega arith)
tokens_set leaves (node ∷ nodes) zero joint count within = refl
tokens_set leaves (node ∷ nodes) (suc i) joint count within =
    let next : suc (i + 1) ≡ suc i + 1 = omega arith in
    rw (← next) (ap (λ l. token_in leaves node ∷ l) (tokens_set leaves nodes i joint count (omega arith)))

pub tokens_join : (leaves : List Matcher) (nodes : List Node) (list : List Token) (i : ℕ) (joint : Joint) (count : ℕ)
    → tokens_in leaves nodes ≡ list → i < length nodes → count ≡ length nodes - i - 1
    → tokens_in leaves (slice_set nodes i (Joined joint count))
    ≡ take i list ++ joins joint (length list - i - 1) ∷ drop (i + 1) list
tokens_join leaves nodes list i joint count view within is =
    let size : count ≡ length (tokens_in leaves nodes) - i - 1 = is ∙ ap (λ n. n - i - 1) (sym (length-map nodes (token_in leaves))) in
    subst (λ l. tokens_in leaves (slice_set nodes i (Joined joint count)) ≡ take i l ++ joins joint (length l - i - 1) ∷ drop (i + 1) l) view
    (tokens_set leaves nodes i joint count within
    ∙ ap (λ n. take i (tokens_in leaves nodes) ++ joins joint n ∷ drop (i + 1) (tokens_in leaves nodes)) size)

-- a part of nodes
pub tokens_part : (leaves : List Matcher) (nodes behind part : List Node) (list : List Token) (from count : ℕ)
    → tokens_in leaves nodes ≡ list → behind ≡ drop from nodes → part ≡ take count behind → tokens_in leaves part ≡ slice_at from count list
tokens_part leaves nodes behind part list from count view is taken =
    ap (tokens_in leaves) (taken ∙ ap (take count) is)
    ∙ sym (take-map (token_in leaves) count (drop from nodes))
    ∙ ap (take count) (sym (drop-map (token_in leaves) from nodes))
    ∙ ap (slice_at from count) view

-- ---- rules

-- the first rule, and those behind it
pub first_rule : (leaves : List Matcher) (rest behind inside others : List Node) (node : Node) (count : ℕ)
    → rest ≡ node ∷ behind → count ≡ inside_count (token_in leaves node) → inside ≡ take count behind → others ≡ drop count behind
    → formulas_in leaves rest ≡ formula (formula_in leaves node inside) (formulas_in leaves others)
first_rule leaves rest behind inside others node count is size taken dropped =
    let k = inside_count (token_in leaves node) in
    ap (formulas_in leaves) is
    ∙ decode_cons (token_in leaves node) (tokens_in leaves behind)
    ∙ ap₂ (λ a b. formula (formula_of (token_in leaves node) (decode a)) (decode b))
    (take-map (token_in leaves) k behind ∙ ap (tokens_in leaves) (ap (λ n. take n behind) (sym size) ∙ sym taken))
    (drop-map (token_in leaves) k behind ∙ ap (tokens_in leaves) (ap (λ n. drop n behind) (sym size) ∙ sym dropped))
