use Rattle.vupresal_c.proofs.MadeLaws.{decides_as_parts, fails_as_parts, unmade_fails_as_parts}
use Rattle.vupresal_c.proofs.laws.made_of_parts_decides_as_parts.Goals as goal

pub returns : goal.returns
returns c = record {
  decision = λ request given a r d accepted of found. decides_as_parts request given a r d accepted of found;
  fault = λ request given a r e of why. fails_as_parts request given a r e of why;
  unmade = λ request given a e are why. unmade_fails_as_parts request given a e are why;
}
