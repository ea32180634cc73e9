-- By the readers of the settings and of the configuration.
use Rattle.serde_json.specs.View.{view}
use Rattle.program_jobs.proofs.ServerSettingsLemmas.{found_member}
use Rattle.program_jobs.proofs.server_settings.parts_of.Goals as goal

pub returns : goal.returns
returns c = record {
  members = c.in-Ok.ensures;
  proxy = found_member c.get.result (λ v. view v.now) c.in-Some.proxy _ _ c.get.ensures c.in-Some.is c.in-Ok-config_at.ensures.found;
  known = c.in_ok-conn.ensures;
}
