-- When a control plane was heard (this project's own; docs/REFERENCE.md, "The admin port").
use Rattle.std.specs.Prelude.{◌≡◌, ◌<◌, ◌⊎◌, ℕ, Result, Ok, Err}
use Rattle.std.specs.IoError.{error_kind}
use Rattle.std.specs.declared.io.Error.{Error}
use Rattle.std.specs.declared.io.ErrorKind.{ErrorKind}
use Rattle.serve_loop.specs.declared.stream.Stream.{Stream}
use Rattle.serve_loop.specs.declared.stream.Stream.TheVariants.{Updates}

-- a read says that bytes came: it gave some, or a call by gRPC kept them for itself
abbrev pub SaysHeard : Result ℕ Error → Type 0
SaysHeard (Ok count) = 0 < count
SaysHeard (Err error) = error_kind error ≡ ErrorKind.Interrupted

-- a read of the stream of updates says that the control plane was heard
abbrev pub IsHeardBy : Stream → Result ℕ Error → Type 0
IsHeardBy stream read = (stream ≡ Updates) × SaysHeard read

-- when the control plane was heard last, after a read of a stream at this time: then, or as before
abbrev pub HeardAfter : Stream → Result ℕ Error → ℕ → ℕ → ℕ → Type 0
HeardAfter stream read now old new =
    (IsHeardBy stream read × (new ≡ now)) ⊎ ((IsHeardBy stream read → ⊥) × (new ≡ old))
