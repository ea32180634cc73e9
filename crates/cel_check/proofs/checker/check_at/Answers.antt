use Rattle.std.proofs.Common.{[], inr}
use Rattle.cel_tree.specs.View.{checked_view, tree_view}
use Rattle.cel_types.proofs.CheckLaws.{agreeing_typed}
use Rattle.cel_types.specs.Elaborated.{kind}
use Rattle.cel_types.specs.Typing.{maps_of}
use Rattle.cel_types.specs.View.{expr_view}
use Rattle.proto_wire.specs.Places.{FaultOr, path_of}
use Rattle.cel_tree.specs.Places.{PlacedOr}
use Rattle.proto_wire.proofs.PlaceExits.{exit_with}
use Rattle.cel_tree.proofs.PlacedExits.{drop_place}
use Rattle.cel_types.specs.TypingFaults.{CheckFault, untyped}
use Rattle.cel_check.specs.Places.{CheckFaultAt, TypeFaultAt, too_many_locals}
use Rattle.cel_check.proofs.PlaceLaws.{check_fails, type_fails}
use Rattle.cel_check.specs.private.Checks.{IsFound}
use Rattle.cel_check.proofs.CheckSteps.{view_empty}
use Rattle.cel_check.proofs.Checking.{types_of}
use Rattle.cel_check.proofs.checker.check_at.Goals as goal

pub returns-clause-found : goal.returns-clause-found
returns-clause-found c =
    let found : IsFound (maps_of (checked_view c.args.checked.now)) [] (tree_view c.args.checked.now.tree)
    (expr_view c.in_ok-root.root) = rw view_empty at c.in_ok-root.ensures.found in
    record {
      typed = agreeing_typed (checked_view c.args.checked.now) (kind (expr_view c.in_ok-root.root)) (record {
        few = c.in_ok-require_few_locals.ensures.found;
        types = types_of (maps_of (checked_view c.args.checked.now)) [] (tree_view c.args.checked.now.tree)
            (expr_view c.in_ok-root.root) found.0;
        entries = found.1;
      });
      elaborates = found.0;
    }

pub returns-in_err-root-clause-fault : goal.returns-in_err-root-clause-fault
returns-in_err-root-clause-fault c =
    let x = checked_view c.args.checked.now in
    exit_with (FaultOr (CheckFault x)) c.from_residual-in_err-root.result c.in_err-root.field-0.0 c.from_residual-in_err-root.ensures.1
    (drop_place (TypeFaultAt (maps_of x) [] (tree_view c.args.checked.now.tree)) (CheckFault x) c.in_err-root.field-0.0
    (rw view_empty at c.in_err-root.ensures.fault)
    (λ path e bad. untyped (type_fails (maps_of x) [] (tree_view c.args.checked.now.tree) path e bad)))

pub returns-in_err-require_few_locals-clause-fault : goal.returns-in_err-require_few_locals-clause-fault
returns-in_err-require_few_locals-clause-fault c =
    let x = checked_view c.args.checked.now in
    let e = c.in_err-require_few_locals.field-0.0 in
    let l = c.in_err-require_few_locals.ensures.fault in
    let bad : CheckFaultAt x (path_of e.place) e.refusal = too_many_locals l.1 l.2 l.3 l.0 in
    exit_with (FaultOr (CheckFault x)) c.from_residual.result e c.from_residual.ensures.1
    (inr (check_fails x (path_of e.place) e.refusal bad))

pub returns-in_err-require_few_locals-clause-place : goal.returns-in_err-require_few_locals-clause-place
returns-in_err-require_few_locals-clause-place c =
    let x = checked_view c.args.checked.now in
    let e = c.in_err-require_few_locals.field-0.0 in
    let l = c.in_err-require_few_locals.ensures.fault in
    let bad : CheckFaultAt x (path_of e.place) e.refusal = too_many_locals l.1 l.2 l.3 l.0 in
    exit_with (PlacedOr (CheckFaultAt x)) c.from_residual.result e c.from_residual.ensures.1 (inr bad)
