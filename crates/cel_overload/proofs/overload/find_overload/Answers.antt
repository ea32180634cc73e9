use Rattle.std.proofs.Common.{◌∙◌, sym, ap, option_map}
use Rattle.cel_overload.specs.View.{types_of}
use Rattle.cel_overload.specs.private.View.{found_view}
use Rattle.cel_overload.proofs.Choosing.{chosen_fits}
use Rattle.cel_overload.proofs.OneOverload.{unchosen}
use Rattle.cel_overload.proofs.overload.find_overload.Goals as goal

pub returns-in-None-choose-clause-fault : goal.returns-in-None-choose-clause-fault
returns-in-None-choose-clause-fault c = (
  c.in-Some.function,
  (sym c.function_named.ensures ∙ c.in-Some.is),
  unchosen c.in-Some.function c.args.has_target (types_of c.args.operands.now)
      (sym c.choose.ensures ∙ ap (option_map found_view) c.in-None-choose.is),
)

pub returns-in-Some-choose-clause-found : goal.returns-in-Some-choose-clause-found
returns-in-Some-choose-clause-found c = (
  c.in-Some.function,
  (sym c.function_named.ensures ∙ c.in-Some.is),
  chosen_fits c.in-Some.function c.args.has_target (types_of c.args.operands.now) _ _
      (sym c.choose.ensures ∙ ap (option_map found_view) c.in-Some-choose.is),
)
