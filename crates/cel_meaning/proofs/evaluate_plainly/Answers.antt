use Rattle.std.proofs.Common.{ap, ◌∙◌}
use Rattle.std.proofs.lemmas.Result.{MatchResult-weaker}
use Rattle.cel_tree.specs.View.{tree_view}
use Rattle.cel_types.specs.Meaning.{eval}
use Rattle.cel_meaning.specs.Places.{around, locals_view}
use Rattle.cel_meaning.proofs.Meaning.{answer_of, around_answers, placed_answer}
use Rattle.cel_meaning.proofs.PlainSteps.{seen_answer}
use Rattle.cel_meaning.proofs.evaluate_plainly.Goals as goal

pub returns-clause-meaning : goal.returns-clause-meaning
returns-clause-meaning c =
    let r = c.args.request.now in
    let ls = locals_view c.args.locals.now in
    let t = tree_view c.args.tree.now in
    MatchResult-weaker c.evaluate.result c.evaluate.ensures.place
    (λ found h. seen_answer found ∙ (ap answer_of h ∙ (placed_answer r (around ls) t ∙ ap (eval t r) (around_answers ls))))
    (λ _ _. tt)
