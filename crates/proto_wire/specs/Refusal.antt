-- Refusals: their numbers, names and texts, and the faults of code that allocates.
use Rattle.std.specs.Prelude.{◌≡◌, ◌⊎◌, ℕ, List, ◌++◌, codes}
use Rattle.std.specs.Fmt.{decimal}
use Rattle.proto_wire.specs.declared.refusal.Refusal.{Refusal}

-- the number, from 1 to 19, and the name of each refusal
abbrev pub number_and_name : Refusal → ℕ × List ℕ
number_and_name Refusal.BadWire = (1, codes "BadWire")
number_and_name Refusal.BadText = (2, codes "BadText")
number_and_name Refusal.UnknownField = (3, codes "UnknownField")
number_and_name Refusal.Missing = (4, codes "Missing")
number_and_name Refusal.OutOfRange = (5, codes "OutOfRange")
number_and_name Refusal.Unsupported = (6, codes "Unsupported")
number_and_name Refusal.BothConditions = (7, codes "BothConditions")
number_and_name Refusal.TooLarge = (8, codes "TooLarge")
number_and_name Refusal.UnknownName = (9, codes "UnknownName")
number_and_name Refusal.NoOverload = (10, codes "NoOverload")
number_and_name Refusal.BadTypeEntry = (11, codes "BadTypeEntry")
number_and_name Refusal.BadReference = (12, codes "BadReference")
number_and_name Refusal.NotBool = (13, codes "NotBool")
number_and_name Refusal.NeedsType = (14, codes "NeedsType")
number_and_name Refusal.TooCostly = (15, codes "TooCostly")
number_and_name Refusal.DuplicateResource = (16, codes "DuplicateResource")
number_and_name Refusal.WrongType = (17, codes "WrongType")
number_and_name Refusal.CodeRefused = (18, codes "CodeRefused")
number_and_name Refusal.Memory = (19, codes "Memory")

-- the number of a refusal
abbrev pub number_of : Refusal → ℕ
number_of refusal = (number_and_name refusal).0

-- the name of a refusal
abbrev pub name_of : Refusal → List ℕ
name_of refusal = (number_and_name refusal).1

-- the text of a refusal: its number, a space, and its name
abbrev pub text_of : Refusal → List ℕ
text_of refusal = decimal (number_of refusal) ++ codes " " ++ name_of refusal

-- out of memory, or this fault
abbrev pub MemoryOr : (Refusal → Type 0) → Refusal → Type 0
MemoryOr F e = (e ≡ Refusal.Memory) ⊎ F e
