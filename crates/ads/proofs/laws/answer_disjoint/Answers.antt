use Rattle.ads.proofs.Apart.{answer_apart}
use Rattle.ads.proofs.laws.answer_disjoint.Goals as goal

pub returns : goal.returns
returns c = answer_apart
