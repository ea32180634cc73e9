-- How names are resolved: CEL language definition, "Name Resolution"; the roots of attributes are
-- those of Envoy, "Attributes".
use Rattle.std.specs.Prelude.{ℕ, Bool, false, ◌||◌, List, [], ◌∷◌, ◌++◌, Option, Some, None, if◌then◌else◌, is_some, codes}
use Rattle.std.specs.Str.{bytes_eq}
use Rattle.cel_tree.specs.Tree.{CelTree, ident}
use Rattle.cel_types.specs.declared.typed.Variables.{Variables}
use Rattle.cel_types.specs.declared.typed.Variables.TheVariants as variables

-- names with their locals' types or answers, the innermost first
abbrev pub Scope : Type 0 → Type 0
Scope A = List (List ℕ × A)

-- the type or the answer of the innermost local of a name
abbrev pub local : {A : Type 0} → List ℕ → Scope A → Option A
local name [] = None
local name (l ∷ ls) = if bytes_eq l.0 name then Some l.1 else local name ls

-- whether attributes' names begin with this root
abbrev pub is_root : List ℕ → Bool
is_root name = bytes_eq name (codes "request") || bytes_eq name (codes "source")
    || bytes_eq name (codes "destination") || bytes_eq name (codes "connection")

-- whether the name is a root, and no local hides it
abbrev pub bare_root : {A : Type 0} → List ℕ → Scope A → Bool
bare_root name ls = if is_some (local name ls) then false else is_root name

-- the root that an expression is; none if it is anything but a root that no local hides
abbrev pub root_of : {A : Type 0} → CelTree → Scope A → Option (List ℕ)
root_of (ident id name) ls = if bare_root name ls then Some name else None
root_of _ ls = None

-- a root's name and a field's, with a dot (46) between
abbrev pub joined_name : List ℕ → List ℕ → List ℕ
joined_name root field = root ++ (46 ∷ field)

-- ---- the variables of a comprehension

-- one variable without a second name, otherwise two
abbrev pub variables_of : (iter_var2 : List ℕ) → Variables
variables_of [] = variables.One
variables_of (c ∷ y) = variables.Two

-- how many variables there are
abbrev pub variable_count : Variables → ℕ
variable_count variables.One = 1
variable_count variables.Two = 2

-- the names of a comprehension's variables, the innermost first
abbrev pub variable_names : (iter_var iter_var2 : List ℕ) → List (List ℕ)
variable_names x [] = x ∷ []
variable_names x (c ∷ y) = (c ∷ y) ∷ x ∷ []

-- the names, each with what is at its place
abbrev pub bound : {A : Type 0} → List (List ℕ) → List A → Scope A
bound [] things = []
bound (name ∷ names) [] = []
bound (name ∷ names) (a ∷ things) = (name, a) ∷ bound names things

-- the scope of a turn: the variables, and then the accumulator, before the locals around
abbrev pub turn_scope : {A : Type 0} → (x y acc : List ℕ) → List A → A → Scope A → Scope A
turn_scope x y acc things a ls = bound (variable_names x y) things ++ (acc, a) ∷ ls
