use Rattle.std.proofs.Common.{ap, ◌∙◌}
use Rattle.cel_value.proofs.Views.{view_list_type}
use Rattle.cel_value.specs.Types.{list_type, type_view}
use Rattle.proto_wire.proofs.Readers.{exit_fault}
use Rattle.cel_check.proofs.CheckSteps.{all_left, first_expr, no_exprs}
use Rattle.cel_check.proofs.checker.literals.list_type.Goals as goal

pub returns-in_err-empty_list-in-empty-clause-fault : goal.returns-in_err-empty_list-in-empty-clause-fault
returns-in_err-empty_list-in-empty-clause-fault c =
    rw (no_exprs c.args.elements.now c.in-empty.len_below)
    (exit_fault _ c.from_residual.result _ c.from_residual.ensures.1
    c.in_err-empty_list-in-empty.ensures.fault)

pub returns-in_ok-new-in-len1-up-clause-found : goal.returns-in_ok-new-in-len1-up-clause-found
returns-in_ok-new-in-len1-up-clause-found c =
    rw (
      first_expr c.args.elements.now c.first-item.result c.in-len1-up.len_at_least c.first-item.is,
      view_list_type c.in_ok-new-in-len1-up.field-0,
    ) (
      rw (all_left 1 c.args.elements.now, c.cel_type-item.ensures)
          at c.in_ok-require_in_turn-in-len1-up.ensures.found,
      ap list_type (ap type_view c.in_ok-new-in-len1-up.ensures.ok ∙ c.in_ok-copy-in-len1-up.ensures
          ∙ c.cel_type-item.ensures),
    )
