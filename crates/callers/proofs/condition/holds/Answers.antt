use Rattle.cel_types.specs.Meaning.{eval}
use Rattle.cel_value.specs.Values.{bool, value}
use Rattle.cel_value.specs.View.{answer_view}
use Rattle.machine_code.specs.Instructions.{code_view}
use Rattle.std.proofs.Common.{true, []}
use Rattle.callers.proofs.Meaning.{is_meant, run_means}
use Rattle.callers.proofs.condition.holds.Goals as goal

pub returns-clause-found : goal.returns-clause-found
returns-clause-found c limits parts condition inside checked code =
    let answer = answer_view c.in_ok-outcome.outcome.result in
    is_meant c.is_true.result answer (value (bool true)) (eval condition.tree c.args.request.now [])
    (run_means (code_view c.args.condition.now) c.args.request.now limits parts condition answer
    c.in_ok-outcome.outcome.steps c.request_is_sound.ensures inside checked code c.in_ok-outcome.ensures.ends)
    c.is_true.ensures
