use Rattle.std.proofs.Common.{Some, refl, sym, ap, ◌∙◌}
use Rattle.cel_types.specs.Meaning.{eval}
use Rattle.cel_meaning.specs.Places.{around, place_around}
use Rattle.cel_meaning.proofs.Meaning.{answer_of, around_answers, placed_answer}
use Rattle.cel_meaning.proofs.Good.{bare_found}
use Rattle.cel_meaning.proofs.OriginLaws.{placed_good}
use Rattle.cel_meaning.proofs.laws.origin_is_the_error.Goals as goal

pub returns : goal.returns
returns c r ls t a place is =
    let found = (placed_good r (around ls) t (bare_found r ls) (a, Some place) is).1 place refl in
    sym (placed_answer r (place_around place) place.part ∙ ap (eval place.part r) (around_answers place.locals))
    ∙ ap answer_of found
