use Rattle.std.proofs.Common.{◌≡◌, None, map, length}
use Rattle.hpack.specs.Field.{line_of}
use Rattle.http2.specs.Answer.{length_from}
use Rattle.http2.proofs.answer.length_of.Given as goal

abbrev pub invariant-fields : goal.invariant-fields
invariant-fields l = length_from l.told (map line_of l.rest) ≡ length_from None (map line_of l.fn.fields)

abbrev pub decreases-fields : goal.decreases-fields
decreases-fields l = length l.rest
