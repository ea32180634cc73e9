use Rattle.program_jobs.specs.Jobs.{EndsConfig}
use Rattle.program_jobs.proofs.Ends.{end_of_config}
use Rattle.program_jobs.proofs.settings.check_config.Goals as goal

pub returns-in-Ok-config_text : goal.returns-in-Ok-config_text
returns-in-Ok-config_text g c = EndsConfig.meant c.in-Ok.config _ c.in-Ok.ensures.found c.show.ensures

pub returns-in-Ok : goal.returns-in-Ok
returns-in-Ok g c = EndsConfig.memory c.end_by_memory.ensures

pub returns : goal.returns
returns g c =
    let (reported, same, left) = c.end_by.ensures in
    end_of_config _ _ _ _ _ _ _ _ c.in-Err.fault reported c.in-Err.ensures.fault same left
