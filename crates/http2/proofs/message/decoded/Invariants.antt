use Rattle.std.proofs.Common.{◌≡◌, ◌++◌, length}
use Rattle.http2.specs.Message.{decoded}
use Rattle.http2.proofs.message.decoded.Given as goal

abbrev pub invariant-codes : goal.invariant-codes
invariant-codes l = l.text.items ++ decoded l.rest ≡ decoded l.value

abbrev pub decreases-codes : goal.decreases-codes
decreases-codes l = length l.rest
