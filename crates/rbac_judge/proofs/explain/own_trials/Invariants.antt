use Rattle.std.proofs.Common.{◌≡◌, map, take}
use Rattle.rbac_judge.specs.Explain.{own_trial_view, trial_view}
use Rattle.rbac_judge.proofs.explain.own_trials.Given as goal

abbrev pub invariant-loop-trial : goal.invariant-loop-trial
invariant-loop-trial l = map own_trial_view l.own.items ≡ map trial_view (take l.trial-index l.trials)
