use Rattle.std.proofs.Common.{inl}
use Rattle.proto_wire.proofs.Readers.{exit_plain}
use Rattle.cel_types.specs.TypingFaults.{of_another_kind}
use Rattle.cel_check.proofs.checker.literals.empty_map.Goals as goal

pub returns-in_err-require_map-clause-fault : goal.returns-in_err-require_map-clause-fault
returns-in_err-require_map-clause-fault c =
    let wrong = c.in_err-require_map.ensures.fault in
    exit_plain _ c.from_residual-in_err-require_map.result _ c.from_residual-in_err-require_map.ensures.1
    (inl (of_another_kind _ c.in_ok-given.ensures.found wrong.0 wrong.1))
