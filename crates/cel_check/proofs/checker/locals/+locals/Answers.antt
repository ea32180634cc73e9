use Rattle.std.proofs.Common.{sym, ◌∙◌}
use Rattle.cel_tree.specs.View.{tree_view}
use Rattle.cel_check.proofs.CheckSteps.{here_first, inside_first}
use Rattle.cel_check.proofs.checker.locals.+locals.Goals as goal
