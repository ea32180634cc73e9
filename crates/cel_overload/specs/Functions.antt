-- Functions and their names: CEL language definition, "List of Standard Definitions".
use Rattle.std.specs.Prelude.{ℕ, Bool, true, not, List, [], ◌∷◌, Option, Some, None, if◌then◌else◌, codes}
use Rattle.std.specs.Str.{bytes_eq}
use Rattle.cel_ops.specs.declared.arithmetic.ArithmeticOp.TheVariants.{Add, Subtract, Multiply, Divide, Remainder}
use Rattle.cel_ops.specs.declared.comparison.CompareOp.TheVariants.{Equal, NotEqual, Less, LessOrEqual, Greater, GreaterOrEqual}
use Rattle.cel_ops.specs.declared.texts.TextTest.TheVariants.{Contains, StartsWith, EndsWith}
use Rattle.cel_overload.specs.declared.function.Function.{Function}
use Rattle.cel_overload.specs.declared.function.Function.TheVariants as functions

-- every name with its function; a name is a list of code points
abbrev pub names : List (List ℕ × Function)
names =
    (codes "_&&_", functions.And)
    ∷ (codes "_||_", functions.Or)
    ∷ (codes "!_", functions.Not)
    ∷ (codes "@not_strictly_false", functions.NotStrictlyFalse)
    ∷ (codes "__not_strictly_false__", functions.NotStrictlyFalse)
    ∷ (codes "_?_:_", functions.Conditional)
    ∷ (codes "_==_", functions.Compare Equal)
    ∷ (codes "_!=_", functions.Compare NotEqual)
    ∷ (codes "_<_", functions.Compare Less)
    ∷ (codes "_<=_", functions.Compare LessOrEqual)
    ∷ (codes "_>_", functions.Compare Greater)
    ∷ (codes "_>=_", functions.Compare GreaterOrEqual)
    ∷ (codes "_+_", functions.Arithmetic Add)
    ∷ (codes "_-_", functions.Arithmetic Subtract)
    ∷ (codes "_*_", functions.Arithmetic Multiply)
    ∷ (codes "_/_", functions.Arithmetic Divide)
    ∷ (codes "_%_", functions.Arithmetic Remainder)
    ∷ (codes "-_", functions.Negate)
    ∷ (codes "_[_]", functions.Index)
    ∷ (codes "@in", functions.In)
    ∷ (codes "_in_", functions.In)
    ∷ (codes "in", functions.In)
    ∷ (codes "size", functions.Size)
    ∷ (codes "contains", functions.TestText Contains)
    ∷ (codes "startsWith", functions.TestText StartsWith)
    ∷ (codes "endsWith", functions.TestText EndsWith)
    ∷ (codes "int", functions.ToInt)
    ∷ (codes "uint", functions.ToUint)
    ∷ (codes "string", functions.ToText)
    ∷ (codes "bytes", functions.ToBytes)
    ∷ []

-- the function of the first entry with this name
abbrev pub function_at : List ℕ → List (List ℕ × Function) → Option Function
function_at name [] = None
function_at name (entry ∷ entries) =
    if bytes_eq entry.0 name then Some entry.1 else function_at name entries

-- the function of a name; none if no function has it
abbrev pub function_named : List ℕ → Option Function
function_named name = function_at name names

-- whether a function can be called with a target, or without one. Operators and conversions take no target, `size`
-- may take its operand as target, and tests of texts require one
abbrev pub may_take : Function → (target : Bool) → Bool
may_take functions.Size target = true
may_take (functions.TestText test) target = target
may_take _ target = not target
