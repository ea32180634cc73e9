use Rattle.std.proofs.Common.{refl}
use Rattle.program_jobs.specs.Jobs.{EndsReplay}
use Rattle.program_jobs.proofs.Ends.{end_of_replay}
use Rattle.program_jobs.proofs.settings.replay_config.Goals as goal

pub returns-in-Ok-replay : goal.returns-in-Ok-replay
returns-in-Ok-replay g c =
    let found = rw c.as_str.ensures.value at c.in-Ok.ensures.found in
    EndsReplay.whole c.in-Ok.config _ found c.in-Ok-replay.ensures.replayed refl refl

pub returns-in-Ok : goal.returns-in-Ok
returns-in-Ok g c =
    let found = rw c.as_str.ensures.value at c.in-Ok.ensures.found in
    EndsReplay.stopped c.in-Ok.config _ c.in-Err-replay.fault found c.in-Err-replay.ensures.stopped c.end_replay.ensures

pub returns : goal.returns
returns g c =
    let (reported, same, left) = c.end_by.ensures in
    let fault = rw c.as_str.ensures.value at c.in-Err.ensures.fault in
    end_of_replay _ _ _ _ _ _ _ _ _ _ c.in-Err.fault reported fault same left
