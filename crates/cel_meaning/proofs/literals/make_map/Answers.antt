use Rattle.std.proofs.Common.{map, sym, ◌∙◌}
use Rattle.cel_value.specs.View.{answer_view}
use Rattle.cel_meaning.proofs.PlainSteps.{error_made, pairs_made}
use Rattle.cel_meaning.proofs.literals.make_map.Goals as goal

pub returns-then-has_error : goal.returns-then-has_error
returns-then-has_error c = sym (error_made (map answer_view c.args.operands.now) (sym c.has_error.ensures ∙ c.if-has_error.true))

pub returns : goal.returns
returns c = c.are_pairs.ensures ∙ sym (pairs_made (map answer_view c.args.operands.now) (sym c.has_error.ensures ∙ c.if-has_error.false))
