-- How the examples of StandardFacts are written.
use Rattle.std.proofs.Common.{ℕ, ℤ, pos, Bool, true, false, List, [], ◌∷◌, Option, Some}
use Rattle.std.specs.Prelude.{codes}
use Rattle.cel_value.specs.Values.{bool, int, uint, text, bytes, CelAnswer, value, fails}
use Rattle.cel_value.specs.declared.error.CelError.{CelError}
use Rattle.cel_tree.specs.Tree.{CelTree, constant, ident, call, list_literal, map_literal, comprehension, no_target, CelTrees, no_trees, tree, no_tree_entries, tree_entry}

-- ids do not count for what an expression means
abbrev pub node : ℤ
node = pos 0

abbrev pub truth : Bool → CelTree
truth b = constant node (bool b)

abbrev pub number : ℤ → CelTree
number z = constant node (int z)

abbrev pub unsigned : ℕ → CelTree
unsigned n = constant node (uint n)

abbrev pub string : List ℕ → CelTree
string cs = constant node (text cs)

abbrev pub octets : List ℕ → CelTree
octets bs = constant node (bytes bs)

abbrev pub name : List ℕ → CelTree
name n = ident node n

abbrev pub trees : List CelTree → CelTrees
trees [] = no_trees
trees (t ∷ ts) = tree t (trees ts)

abbrev pub calls : List ℕ → List CelTree → CelTree
calls f ts = call node f no_target (trees ts)

abbrev pub applied : CelTree → List ℕ → CelTree → CelTree
applied a f b = calls f (a ∷ b ∷ [])

abbrev pub list_of : List CelTree → CelTree
list_of ts = list_literal node (trees ts)

-- a map of one entry
abbrev pub map_of_one : CelTree → CelTree → CelTree
map_of_one k v = map_literal node (tree_entry node k v no_tree_entries)

-- a map of two
abbrev pub map_of_two : CelTree → CelTree → CelTree → CelTree → CelTree
map_of_two j v k w =
    map_literal node (tree_entry node j v (tree_entry node k w no_tree_entries))

abbrev pub both : CelTree → CelTree → CelTree
both a b = applied a (codes "_&&_") b

abbrev pub either : CelTree → CelTree → CelTree
either a b = applied a (codes "_||_") b

abbrev pub choice : CelTree → CelTree → CelTree → CelTree
choice c a b = calls (codes "_?_:_") (c ∷ a ∷ b ∷ [])

abbrev pub equals : CelTree → CelTree → CelTree
equals a b = applied a (codes "_==_") b

abbrev pub quotient : CelTree → CelTree → CelTree
quotient a b = applied a (codes "_/_") b

-- `1 / 0 == 0`
abbrev pub broken : CelTree
broken = equals (quotient (number (pos 1)) (number (pos 0))) (number (pos 0))

-- ---- macros, as they are expanded: CEL language definition, "Macros"

abbrev pub gathered : CelTree
gathered = name (codes "__result__")

abbrev pub macro : (range : CelTree) → (x : List ℕ) → (init condition step result : CelTree)
    → CelTree
macro range x init condition step result =
    comprehension node x [] (codes "__result__") range init condition step result

-- `range.all(x, p)`
abbrev pub all : CelTree → List ℕ → CelTree → CelTree
all range x p = macro range x (truth true) (calls (codes "@not_strictly_false") (gathered ∷ []))
    (both gathered p) gathered

-- `range.exists(x, p)`
abbrev pub exists : CelTree → List ℕ → CelTree → CelTree
exists range x p = macro range x (truth false)
    (calls (codes "@not_strictly_false") (calls (codes "!_") (gathered ∷ []) ∷ []))
    (either gathered p) gathered

-- `range.exists_one(x, p)`
abbrev pub exists_one : CelTree → List ℕ → CelTree → CelTree
exists_one range x p = macro range x (number (pos 0)) (truth true)
    (choice p (applied gathered (codes "_+_") (number (pos 1))) gathered)
    (equals gathered (number (pos 1)))

-- `range.map(x, t)`
abbrev pub map_macro : CelTree → List ℕ → CelTree → CelTree
map_macro range x t = macro range x (list_of []) (truth true)
    (applied gathered (codes "_+_") (list_of (t ∷ []))) gathered

-- `range.filter(x, p)`
abbrev pub filter_macro : CelTree → List ℕ → CelTree → CelTree
filter_macro range x p = macro range x (list_of []) (truth true)
    (choice p (applied gathered (codes "_+_") (list_of (name x ∷ []))) gathered) gathered

-- ---- answers

abbrev pub yes : Option CelAnswer
yes = Some (value (bool true))

abbrev pub not : Option CelAnswer
not = Some (value (bool false))

abbrev pub error : CelError → Option CelAnswer
error e = Some (fails e)

abbrev pub is_int : ℤ → Option CelAnswer
is_int z = Some (value (int z))
