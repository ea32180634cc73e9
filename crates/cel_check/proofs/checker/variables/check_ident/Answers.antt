use Rattle.std.proofs.Common.{◌≡◌, to_z, of_z, to_z-of_z, w64}
use Rattle.proto_wire.proofs.Readers.{exit_fault}
use Rattle.cel_types.specs.TypingFaults.{IdentFault}
use Rattle.cel_check.specs.private.Scopes.{scope_view}
use Rattle.cel_value.specs.Texts.{text_view}
use Rattle.cel_check.proofs.CheckSteps.{name_types}
use Rattle.cel_check.proofs.checker.variables.check_ident.Goals as goal

pub returns-in_err-require_reference-clause-fault : goal.returns-in_err-require_reference-clause-fault
returns-in_err-require_reference-clause-fault c =
    let same : to_z w64 (of_z w64 c.args.id) ≡ c.args.id = to_z-of_z c.ranges.id in
    let bad = rw (c.get.ensures, same, c.as_str.ensures.value) at c.in_err-require_reference.ensures.fault in
    exit_fault _ c.from_residual-in_err-require_reference.result _
    c.from_residual-in_err-require_reference.ensures.1
    (IdentFault.other_reference _ (name_types (text_view c.args.name.now) (scope_view c.args.scope.now)
    c.in_ok-found.found c.in_ok-found.ensures.found) bad.0 bad.1)
