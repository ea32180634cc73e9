use Rattle.std.proofs.Common.{ℕ, ◌<◌, get_or}
use Rattle.hpack.specs.Field.{line_of, IsShort}
use Rattle.hpack.specs.declared.field.Field.{Field}
use Rattle.http2.proofs.opening.are_short.Given as goal

abbrev pub invariant-loop-field : goal.invariant-loop-field
invariant-loop-field l = (k : ℕ) (d : Field) → k < l.field-index → IsShort (line_of (get_or l.fields k d))
