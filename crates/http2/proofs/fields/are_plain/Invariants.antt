use Rattle.std.proofs.Common.{◌≡◌, map, length}
use Rattle.hpack.specs.Field.{line_of}
use Rattle.http2.specs.Fields.{are_plain}
use Rattle.http2.proofs.fields.are_plain.Given as goal

abbrev pub invariant-fields : goal.invariant-fields
invariant-fields l = are_plain (map line_of l.rest) ≡ are_plain (map line_of l.fn.fields)

abbrev pub decreases-fields : goal.decreases-fields
decreases-fields l = length l.rest
