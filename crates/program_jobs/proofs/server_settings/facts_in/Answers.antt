-- By the member, or without one.
use Rattle.serde_json.specs.View.{view}
use Rattle.program_jobs.proofs.ServerSettingsLemmas.{found_facts, no_facts}
use Rattle.program_jobs.proofs.server_settings.facts_in.Goals as goal

pub returns-in-Ok : goal.returns-in-Ok
returns-in-Ok c = found_facts c.get.result (λ v. view v.now) c.in-Some.facts _ _ c.get.ensures c.in-Some.is c.in-Ok.ensures.found

pub returns-in_ok-conn-in-None : goal.returns-in_ok-conn-in-None
returns-in_ok-conn-in-None c =
    no_facts c.get.result (λ v. view v.now) _ _ c.get.ensures c.in-None.is c.in_ok-conn-in-None.ensures
