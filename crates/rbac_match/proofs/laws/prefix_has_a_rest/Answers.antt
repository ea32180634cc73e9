use Rattle.rbac_match.proofs.Texts.{starts_rest}
use Rattle.rbac_match.proofs.laws.prefix_has_a_rest.Goals as goal

pub returns : goal.returns
returns c = λ start bytes. starts_rest bytes start
