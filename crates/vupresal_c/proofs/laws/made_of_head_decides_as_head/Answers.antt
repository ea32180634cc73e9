use Rattle.vupresal_c.proofs.MadeLaws.{decides_as_head, fails_as_head, unmade_fails_as_head}
use Rattle.vupresal_c.proofs.laws.made_of_head_decides_as_head.Goals as goal

pub returns : goal.returns
returns c = record {
  decision = λ head given a r d accepted of found. decides_as_head head given a r d accepted of found;
  fault = λ head given a r e of why. fails_as_head head given a r e of why;
  unmade = λ head given a e are why. unmade_fails_as_head head given a e are why;
}
