use Rattle.std.proofs.Common.{◌≡◌, map, length}
use Rattle.hpack.specs.Field.{line_of}
use Rattle.http2.specs.Request.{are_in_order}
use Rattle.http2.proofs.request.are_in_order.Given as goal

abbrev pub invariant-fields : goal.invariant-fields
invariant-fields l = are_in_order (map line_of l.rest) ≡ are_in_order (map line_of l.fields)

abbrev pub decreases-fields : goal.decreases-fields
decreases-fields l = length l.rest
