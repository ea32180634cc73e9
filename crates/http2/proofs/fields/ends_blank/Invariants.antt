use Rattle.std.proofs.Common.{◌≡◌, false, length}
use Rattle.http2.specs.Fields.{ends_blank}
use Rattle.http2.proofs.fields.ends_blank.Given as goal

abbrev pub invariant-bytes : goal.invariant-bytes
invariant-bytes l = ends_blank l.blank l.rest ≡ ends_blank false l.fn.value

abbrev pub decreases-bytes : goal.decreases-bytes
decreases-bytes l = length l.rest
