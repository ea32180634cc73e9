use Rattle.std.proofs.Common.{ap, ◌∙◌}
use Rattle.cel_types.specs.Meaning.{eval}
use Rattle.cel_meaning.specs.Places.{around}
use Rattle.cel_meaning.proofs.Meaning.{around_answers, placed_answer}
use Rattle.cel_meaning.proofs.laws.placed_is_the_meaning.Goals as goal

pub returns : goal.returns
returns c r ls t = placed_answer r (around ls) t ∙ ap (eval t r) (around_answers ls)
