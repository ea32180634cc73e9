use Rattle.std.proofs.Common.{◌≡◌, ◌++◌, map, string_bytes, take}
use Rattle.std.specs.List.{flat_map}
use Rattle.rbac_judge.specs.Explain.{cause_line}
use Rattle.rbac_judge.proofs.explain.push_causes.Given as goal

abbrev pub invariant-loop-cause : goal.invariant-loop-cause
invariant-loop-cause l = string_bytes l.text
    ≡ string_bytes l.fn.text ++ flat_map cause_line (map string_bytes (take l.cause-index l.causes))
