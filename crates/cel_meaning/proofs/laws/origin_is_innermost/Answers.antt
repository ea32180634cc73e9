use Rattle.std.proofs.Common.{Some, refl}
use Rattle.cel_meaning.specs.Places.{around}
use Rattle.cel_meaning.proofs.Good.{bare_found}
use Rattle.cel_meaning.proofs.OriginLaws.{placed_good}
use Rattle.cel_meaning.proofs.laws.origin_is_innermost.Goals as goal

pub returns : goal.returns
returns c r ls t a place is = (placed_good r (around ls) t (bare_found r ls) (a, Some place) is).1 place refl
