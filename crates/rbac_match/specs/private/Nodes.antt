-- The tokens of a list's nodes.
use Rattle.std.specs.Prelude.{ℕ, ◌<◌, List, [], ◌∷◌, map, slice_get, Option, Some, None}
use Rattle.rbac_match.specs.Formula.{Formula, Formulas}
use Rattle.rbac_match.specs.Tokens.{Token, every, test, joins, decode, formula_of}
use Rattle.rbac_match.specs.declared.list.Node.{Node}
use Rattle.rbac_match.specs.declared.list.Node.TheVariants.{Any, Leaf, Joined}
use Rattle.rbac_match.specs.declared.matcher.Matcher.{Matcher}

-- the token of a test; without a test, the token that always matches
abbrev pub test_at : Option Matcher → Token
test_at None = every
test_at (Some m) = test m

-- the token of a node, whose test is one of these
abbrev pub token_in : List Matcher → Node → Token
token_in leaves Any = every
token_in leaves (Leaf place) = test_at (slice_get leaves place)
token_in leaves (Joined joint count) = joins joint count

-- the tokens of nodes
abbrev pub tokens_in : List Matcher → List Node → List Token
tokens_in leaves nodes = map (token_in leaves) nodes

-- the rules of nodes
abbrev pub formulas_in : List Matcher → List Node → Formulas
formulas_in leaves nodes = decode (tokens_in leaves nodes)

-- the rule of a node, with the rules of other nodes in it
abbrev pub formula_in : List Matcher → Node → List Node → Formula
formula_in leaves node inside = formula_of (token_in leaves node) (formulas_in leaves inside)

-- each node's test is at a place below `count`
abbrev pub HasLeaves : ℕ → List Node → Type 0
HasLeaves count [] = Unit {0}
HasLeaves count (Leaf place ∷ nodes) = (place < count) × HasLeaves count nodes
HasLeaves count (node ∷ nodes) = HasLeaves count nodes
