use Rattle.attributes.proofs.LimitFaults.{none_all}
use Rattle.proxy_replay.proofs.configuration.sound_limits.Goals as goal

pub returns-in-Err-clause-fault : goal.returns-in-Err-clause-fault
returns-in-Err-clause-fault c = λ are.
    let none = (none_all _).1 are in
    let some = c.in-Err.ensures.fault in cc
