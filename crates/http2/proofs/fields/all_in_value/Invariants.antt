use Rattle.std.proofs.Common.{◌≡◌, length}
use Rattle.http2.specs.Fields.{all_in_value}
use Rattle.http2.proofs.fields.all_in_value.Given as goal

abbrev pub invariant-bytes : goal.invariant-bytes
invariant-bytes l = all_in_value l.rest ≡ all_in_value l.fn.value

abbrev pub decreases-bytes : goal.decreases-bytes
decreases-bytes l = length l.rest
