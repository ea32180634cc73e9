-- Overloads and names that the code finds, without their places in memory.
use Rattle.std.specs.Prelude.{ℕ, List, map}
use denote.Ref.{Bor}
use Rattle.cel_value.specs.Types.{ValueType}
use Rattle.cel_overload.specs.View.{result_view}
use Rattle.cel_overload.specs.declared.function.Function.{Function}
use Rattle.cel_overload.specs.declared.overload.Overload.{Overload}
use Rattle.cel_overload.specs.declared.overload.Found.{Found}

-- an overload with the type of its result
abbrev pub found_view : Found → Overload × ValueType
found_view f = (f.overload, result_view f.result)

-- names with their functions
abbrev pub names_view : List (Bor (List ℕ) × Function) → List (List ℕ × Function)
names_view entries = map (λ e. (e.0.now, e.1)) entries
