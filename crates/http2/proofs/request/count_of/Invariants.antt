use Rattle.std.proofs.Common.{◌≡◌, ◌≤◌, ◌+◌, map, length}
use Rattle.hpack.specs.Field.{line_of}
use Rattle.http2.specs.Request.{count_of}
use Rattle.http2.proofs.request.count_of.Given as goal

abbrev pub invariant-fields : goal.invariant-fields
invariant-fields l = (count_of l.name (map line_of l.rest) + l.count ≡ count_of l.name (map line_of l.fields))
    × (l.count + length l.rest ≤ length l.fields)

abbrev pub decreases-fields : goal.decreases-fields
decreases-fields l = length l.rest
