use Rattle.std.proofs.Common.{◌≡◌, ◌++◌, map, string_bytes, take}
use Rattle.std.specs.List.{flat_map}
use Rattle.rbac_judge.specs.Explain.{reported_trial_view, trial_lines}
use Rattle.rbac_judge.proofs.explain.push_lines.Given as goal

abbrev pub invariant-loop-trial : goal.invariant-loop-trial
invariant-loop-trial l = string_bytes l.text
    ≡ string_bytes l.fn.text ++ flat_map trial_lines (map reported_trial_view (take l.trial-index l.trials))
