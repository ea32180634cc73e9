-- What the compiler's private functions do to the code, and to the lengths that they take.
use Rattle.std.specs.Prelude.{◌≡◌, ℕ, ◌+◌, ◌<◌, ◌^◌, List, ◌++◌, length}
use Rattle.cel_types.specs.Elaborated.{TypedTree, TypedTrees}
use Rattle.cel_overload.specs.declared.overload.Overload.{Overload}
use Rattle.cel_ops.specs.declared.operation.Operation.TheVariants as operations
use Rattle.cel_overload.specs.declared.overload.Overload.TheVariants as overloads
use Rattle.machine_code.specs.Instructions.{Instruction, IfFalse, IfTrue, code_view}
use Rattle.machine_code.specs.declared.instr.Instr.{Instr}
use Rattle.cel_compile.specs.declared.lengths.Lengths.{Lengths}
use Rattle.cel_compile.specs.Codes.{code_of, codes_of}
use Rattle.cel_compile.specs.private.Extents.{extent, extents}
use Rattle.cel_compile.specs.Slots.{HasFewLocals, HaveFewLocals}
use Rattle.cel_compile.specs.private.Lengths.{EndsWith, all_lengths, lengths_of}

-- these `n` instructions were appended to the code, and these lengths were taken from the end of the list
pub record Writes (old new : List Instr) (before after : List Lengths) (n : ℕ) (written : List Instruction)
    (taken : List Lengths) : Type 0 where
  pub longer : length new ≡ length old + n
  pub code : code_view new ≡ code_view old ++ written
  pub takes : (rest : List Lengths) → before ≡ rest ++ taken → after ≡ rest

-- the instructions and the lengths are an expression's
abbrev pub Grows : (old new : List Instr) → (before after : List Lengths) → (scope : ℕ) → TypedTree → Type 0
Grows old new before after d e =
    Writes old new before after (extent e) (code_of (length old) d e) (lengths_of e)

-- the instructions and the lengths are those of expressions in order
abbrev pub GrowsAll : (old new : List Instr) → (before after : List Lengths) → (scope : ℕ) → TypedTrees → Type 0
GrowsAll old new before after d es =
    Writes old new before after (extents es) (codes_of (length old) d es) (all_lengths es)

-- the code has room for an expression's instructions, its locals are few enough, and its lengths are the last
abbrev pub HasRoom : (code : List Instr) → (lengths : List Lengths) → (scope : ℕ) → TypedTree → Type 0
HasRoom code lengths d e =
    EndsWith lengths (lengths_of e) × HasFewLocals d e × (length code + extent e < 2 ^ 16)

-- the same for expressions in order
abbrev pub HaveRoom : (code : List Instr) → (lengths : List Lengths) → (scope : ℕ) → TypedTrees → Type 0
HaveRoom code lengths d es =
    EndsWith lengths (all_lengths es) × HaveFewLocals d es × (length code + extents es < 2 ^ 16)

-- the jump of `&&` or `||` over its right side
abbrev pub passing_over : Overload → ℕ → Instruction
passing_over (overloads.Operate operations.Or) end = IfTrue end
passing_over _ end = IfFalse end
