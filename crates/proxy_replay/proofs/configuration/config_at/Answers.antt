use Rattle.std.proofs.lemmas.Result.{IfErr-weaker}
use Rattle.proxy_replay.proofs.ConfigurationLemmas.{parts_sound}
use Rattle.proxy_replay.proofs.configuration.config_at.Goals as goal

pub returns-clause-fault : goal.returns-clause-fault
returns-clause-fault c =
    IfErr-weaker c.sound_config.result _ _ (λ e not bad other reported. not bad
    (rw (c.in_ok-node-2.ensures.ok, c.in_ok-cluster-2.ensures.ok)
    (parts_sound _ _ _ _ _ _ c.in_ok-node.ensures.found c.in_ok-cluster.ensures.found c.in_ok-items.ensures.found
    c.in_ok-filters.ensures.found c.in_ok-limits.ensures.found other reported))) c.sound_config.ensures.fault
