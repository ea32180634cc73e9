use Rattle.rbac_match.proofs.Texts.{ends_front}
use Rattle.rbac_match.proofs.laws.suffix_has_a_front.Goals as goal

pub returns : goal.returns
returns c = λ end bytes. ends_front bytes end
