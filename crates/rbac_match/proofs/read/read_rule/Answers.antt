use Rattle.std.proofs.Common.{ℕ, List}
use Rattle.proto_wire.specs.Merge.{parts_view}
use Rattle.proto_wire.specs.Refusal.{MemoryOr}
use Rattle.rbac_match.specs.Rules.{RuleFault}
use Rattle.rbac_match.proofs.Exits.{exit_unplaced}
use Rattle.rbac_match.proofs.Places.{rule_fault}
use Rattle.rbac_match.proofs.read.read_rule.Goals as goal

pub returns-in_err-read_rule_at-clause-fault : goal.returns-in_err-read_rule_at-clause-fault
returns-in_err-read_rule_at-clause-fault c =
    let parts : List (List ℕ) = parts_view c.args.parts.now in
    exit_unplaced (MemoryOr (RuleFault c.args.side c.args.depth parts))
    c.from_residual.result c.in_err-read_rule_at.field-0.0 c.from_residual.ensures.1
    (rule_fault c.args.side c.args.depth parts c.in_err-read_rule_at.field-0.0 c.in_err-read_rule_at.ensures.fault)
