use Rattle.std.proofs.Common.{◌∙◌}
use Rattle.cel_overload.proofs.Names.{named_points}
use Rattle.cel_overload.proofs.function.function_named.Goals as goal

pub returns : goal.returns
returns c = c.find_function.ensures ∙ named_points c.args.name.now c.utf8.name
