use Rattle.std.proofs.Common.{List, map}
use Rattle.proto_wire.specs.Fields.{Wire, field_view}
use Rattle.proto_wire.specs.Refusal.{MemoryOr}
use Rattle.proto_wire.specs.Values.{payloads}
use Rattle.rbac_match.specs.Rules.{SomeRuleFault}
use Rattle.rbac_match.proofs.Exits.{exit_unplaced}
use Rattle.rbac_match.proofs.Places.{some_fault}
use Rattle.rbac_match.proofs.read.read_rules.Goals as goal

pub returns-in_err-read_rules_at-clause-fault : goal.returns-in_err-read_rules_at-clause-fault
returns-in_err-read_rules_at-clause-fault c =
    let fs : List Wire = map field_view c.args.fields.now in
    exit_unplaced (MemoryOr (SomeRuleFault c.args.side c.args.depth (payloads c.args.number fs)))
    c.from_residual.result c.in_err-read_rules_at.field-0.0 c.from_residual.ensures.1
    (some_fault c.args.side c.args.depth c.args.number fs c.in_err-read_rules_at.field-0.0
    c.in_err-read_rules_at.ensures.fault)
