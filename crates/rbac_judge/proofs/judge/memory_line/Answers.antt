use Rattle.std.proofs.Common.{refl}
use Rattle.serde_json.proofs.OnLiterals.{serde_json_on_literals}
use Rattle.rbac_judge.proofs.judge.memory_line.Goals as goal

pub returns-then-json : goal.returns-then-json
unfolding serde_json_on_literals
returns-then-json c report is = rw (is, c.if-json.true) refl
