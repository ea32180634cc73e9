use Rattle.std.proofs.Common.{ap, ◌∙◌}
use Rattle.cel_value.proofs.Views.{view_map_type}
use Rattle.cel_value.specs.Types.{map_type, type_view}
use Rattle.proto_wire.proofs.Readers.{exit_fault}
use Rattle.cel_check.proofs.CheckSteps.{all_left, short_fault, short_map, two_exprs}
use Rattle.cel_check.proofs.checker.literals.map_type.Goals as goal

pub returns-in_err-empty_map-in_default-clause-fault : goal.returns-in_err-empty_map-in_default-clause-fault
returns-in_err-empty_map-in_default-clause-fault c =
    exit_fault _ c.from_residual.result _ c.from_residual.ensures.1
    (short_fault _ c.args.pairs.now _ c.in_default.len_below c.in_err-empty_map-in_default.ensures.fault)

pub returns-in_ok-copy-in_default-clause-found : goal.returns-in_ok-copy-in_default-clause-found
returns-in_ok-copy-in_default-clause-found c =
    short_map _ c.args.pairs.now _ c.in_default.len_below
    (rw c.in_ok-copy-in_default.ensures c.in_ok-empty_map-in_default.ensures.found)

pub returns-in_ok-new-in-len2-up-clause-found : goal.returns-in_ok-new-in-len2-up-clause-found
returns-in_ok-new-in-len2-up-clause-found c =
    rw (
      two_exprs c.args.pairs.now c.key-item.result c.value-item.result c.in-len2-up.len_at_least
          c.key-item.is c.value-item.is,
      view_map_type c.in_ok-key_type-in-len2-up.key_type
          c.in_ok-new-in-len2-up.field-0,
    ) (
      rw (all_left 2 c.args.pairs.now, c.cel_type-in-len2-up.ensures, c.cel_type-in-len2-up-2.ensures)
          at c.in_ok-require_in_turn-in-len2-up.ensures.found,
      c.in_ok-key_type-in-len2-up.key_type,
      rw c.cel_type.ensures at c.in_ok-key_type-in-len2-up.ensures.found,
      ap (map_type c.in_ok-key_type-in-len2-up.key_type)
          (ap type_view c.in_ok-new-in-len2-up.ensures.ok ∙ c.in_ok-copy-in-len2-up.ensures
          ∙ c.cel_type-in-len2-up-3.ensures),
    )
