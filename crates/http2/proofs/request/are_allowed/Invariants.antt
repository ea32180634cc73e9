use Rattle.std.proofs.Common.{◌≡◌, map, length}
use Rattle.hpack.specs.Field.{line_of}
use Rattle.http2.specs.Request.{are_allowed}
use Rattle.http2.proofs.request.are_allowed.Given as goal

abbrev pub invariant-fields : goal.invariant-fields
invariant-fields l = are_allowed (map line_of l.rest) ≡ are_allowed (map line_of l.fields)

abbrev pub decreases-fields : goal.decreases-fields
decreases-fields l = length l.rest
