use Rattle.std.proofs.Common.{refl}
use Rattle.rbac_match.specs.Formula.{leaf}
use Rattle.rbac_match.proofs.read.read_test.Goals as goal

pub returns-clause-found : goal.returns-clause-found
returns-clause-found c = (leaf c.in_ok-test.test, (c.in_ok-test.test, c.in_ok-test.ensures.found, refl), c.in_ok-add_leaf.ensures)
