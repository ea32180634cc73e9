use Rattle.std.proofs.Common.{sym}
use Rattle.cel_meaning.specs.Places.{around}
use Rattle.cel_meaning.proofs.Good.{bare_found}
use Rattle.cel_meaning.proofs.OriginLaws.{placed_good}
use Rattle.cel_meaning.proofs.laws.errors_have_an_origin.Goals as goal

pub returns : goal.returns
returns c r ls t a place is = sym (placed_good r (around ls) t (bare_found r ls) (a, place) is).0
