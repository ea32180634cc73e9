use Rattle.std.proofs.Common.{◌≡◌, map, length}
use Rattle.hpack.specs.Field.{line_of}
use Rattle.http2.specs.Answer.{value_of}
use Rattle.http2.proofs.answer.value_of.Given as goal

abbrev pub invariant-fields : goal.invariant-fields
invariant-fields l = value_of l.name (map line_of l.rest) ≡ value_of l.name (map line_of l.fields)

abbrev pub decreases-fields : goal.decreases-fields
decreases-fields l = length l.rest
