use Rattle.std.proofs.Common.{inl, inr}
use Rattle.proxy_replay.proofs.ConfigurationLemmas.{at_fault}
use Rattle.proxy_replay.proofs.configuration.sound_config.Goals as goal

pub returns-in-Err-clause-fault : goal.returns-in-Err-clause-fault
returns-in-Err-clause-fault c = λ bad sound. elim c.in-Err.ensures.fault [
  | inl memory ↦ c.text_fault.ensures bad memory
  | inr fault ↦ at_fault _ _ fault sound
]
