use Rattle.std.proofs.Common.{◌≡◌, map, take}
use Rattle.serde_json.specs.View.{view}
use Rattle.rbac_judge.specs.Explain.{reported_trial_view, trial_json}
use Rattle.rbac_judge.proofs.json.trials_value.Given as goal

abbrev pub invariant-loop-trial : goal.invariant-loop-trial
invariant-loop-trial l =
    map view l.values.items ≡ map trial_json (map reported_trial_view (take l.trial-index l.trials))
