use Rattle.std.proofs.Common.{◌≡◌, ◌+◌, arith}
use Rattle.std.proofs.lemmas.Result.{MatchResult-weaker}
use Rattle.cel_tree.specs.Message.{most_nodes}
use Rattle.cel_tree.specs.Trees.{node_count}
use Rattle.cel_tree.specs.View.{tree_view}
use Rattle.cel_read.proofs.message.whole_tree.Goals as goal

pub returns-clause-found : goal.returns-clause-found
returns-clause-found c =
    MatchResult-weaker c.read_tree.result c.read_tree.ensures.found
    (λ t h.
    let sum : c.read_tree.new.left + node_count (tree_view t) ≡ most_nodes = h.1 in
    (h.0, omega (arith, sum))) (λ _ _. tt)
