use Rattle.std.proofs.Common.{refl}
use Rattle.program_jobs.specs.Jobs.{EndsProxy}
use Rattle.program_jobs.proofs.Ends.{end_of_proxy}
use Rattle.program_jobs.proofs.serve.run_proxy.Goals as goal

pub returns-in-Ok : goal.returns-in-Ok
returns-in-Ok g c = EndsProxy.served c.in-Ok.ensures.found refl refl refl

pub returns : goal.returns
returns g c =
    let (reported, same, left) = c.end_by.ensures in
    end_of_proxy _ _ _ _ _ _ _ _ _ c.args.words c.in-Err.fault reported c.in-Err.ensures.fault same left
