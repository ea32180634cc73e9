use Rattle.std.proofs.Common.{◌≡◌, length}
use Rattle.http2.specs.Answer.{digits_from, decimal_in}
use Rattle.http2.proofs.answer.decimal_in.Given as goal

abbrev pub invariant-digits : goal.invariant-digits
invariant-digits l = digits_from l.number l.rest ≡ decimal_in l.fn.text

abbrev pub decreases-digits : goal.decreases-digits
decreases-digits l = length l.rest
