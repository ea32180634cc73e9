use Rattle.std.proofs.Common.{inr, refl}
use Rattle.program_jobs.proofs.settings.config_file.Goals as goal

pub returns-clause-fault : goal.returns-clause-fault
returns-clause-fault g c =
    let not = c.in-Err-Bad.ensures.fault c.in-Err-Bad.field-0-is in
    inr (inr (c.in_ok-text.text.items, c.in_ok-text.ensures.found, rw c.deref.ensures.value at not, refl))
