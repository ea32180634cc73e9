-- The code of a condition: CEL language definition, "Evaluation", as this project's machine runs it.
use Rattle.std.specs.Prelude.{◌≡◌, List}
use Rattle.cel_compile.specs.Codes.{code_of}
use Rattle.cel_tree.specs.Checked.{CelChecked}
use Rattle.cel_types.specs.Elaborated.{IsElaborated, TypedTree}
use Rattle.machine_code.specs.Instructions.{Instruction}

-- the code is that of the checked expression's elaboration
abbrev pub IsCodeOf : CelChecked → List Instruction → Type 0
IsCodeOf c code = (e : TypedTree) × IsElaborated c e × (code ≡ code_of 0 0 e)
