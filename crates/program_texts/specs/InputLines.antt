-- The lines of an input, each with its line feed. The names are this project's own.
use Rattle.std.specs.Prelude.{◌≡◌, ◌≢◌, ⊤, ℕ, List, [], ◌∷◌, IfSome, Option, Some, codes}
use Rattle.std.specs.Io.BufRead.{drop_through, take_through}
use Rattle.std.specs.IoError.{error_kind}
use Rattle.std.specs.declared.io.ErrorKind.{ErrorKind as IoKind}
use Rattle.program_texts.specs.declared.line_fault.LineFault.{LineFault}
use Rattle.program_texts.specs.declared.line_fault.LineFault.TheVariants.{BadLine, Memory}
use Rattle.program_texts.specs.declared.replay_fault.ReplayFault.{ReplayFault}
use Rattle.program_texts.specs.declared.replay_fault.ReplayFault.TheVariants as faults

-- the text of a fault
abbrev pub fault_text : LineFault → List ℕ
fault_text BadLine = codes "bad line"
fault_text Memory = codes "memory"

-- the bytes begin with these lines, each with its line feed; `left` follows
abbrev pub AreLines : List ℕ → List (List ℕ) → List ℕ → Type 0
AreLines bytes [] left = left ≡ bytes
AreLines bytes (line ∷ lines) left =
    (bytes ≢ []) × (line ≡ take_through 10 bytes) × AreLines (drop_through 10 bytes) lines left

-- one line is read from an input, if the input's bytes are known
abbrev pub ReadsLine : Option (List ℕ) → List ℕ → Option (List ℕ) → Type 0
ReadsLine input line input_new = IfSome input (λ bytes.
    (bytes ≢ []) × (line ≡ take_through 10 bytes) × (input_new ≡ Some (drop_through 10 bytes)))

-- the fault is one of reading a line: memory ran out, or the input fails for another cause
abbrev pub IsReadingFault : ReplayFault → Type 0
IsReadingFault (faults.Line number cause) = ⊥
IsReadingFault (faults.Input cause) = error_kind cause ≢ IoKind.OutOfMemory
IsReadingFault (faults.Output cause) = ⊥
IsReadingFault faults.Memory = ⊤
