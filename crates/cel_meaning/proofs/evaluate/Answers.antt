use Rattle.std.proofs.Common.{◌≡◌, ◌+◌, arith}
use Rattle.std.proofs.lemmas.Result.{MatchResult-weaker}
use Rattle.std.specs.Prelude.{OnOk}
use Rattle.cel_tree.specs.View.{tree_view}
use Rattle.cel_meaning.specs.Places.{around, locals_view}
use Rattle.cel_meaning.specs.Steps.{steps}
use Rattle.cel_meaning.proofs.evaluate.Goals as goal

pub returns-clause-within : goal.returns-clause-within
returns-clause-within c =
    let left : OnOk c.eval.result (c.args.most
    ≡ steps c.args.request.now (around (locals_view c.args.locals.now)) (tree_view c.args.tree.now) + c.eval.new.left) =
    rw (c.deref.ensures.value, c.in_ok-known.ensures) at c.eval.ensures.taken in
    MatchResult-weaker c.eval.result left (λ _ taken. omega (arith, taken)) (λ _ _. tt)
