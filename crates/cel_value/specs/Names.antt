-- The names of errors, as they are printed.
use Rattle.std.specs.Prelude.{ℕ, List, codes}
use Rattle.cel_value.specs.declared.error.CelError.{CelError}

-- the name of an error
abbrev pub error_name : CelError → List ℕ
error_name CelError.Overflow = codes "Overflow"
error_name CelError.ZeroDivisor = codes "ZeroDivisor"
error_name CelError.NoKey = codes "NoKey"
error_name CelError.Index = codes "Index"
error_name CelError.MissingAttribute = codes "MissingAttribute"
error_name CelError.RepeatedKey = codes "RepeatedKey"
error_name CelError.Range = codes "Range"
error_name CelError.InvalidText = codes "InvalidText"
