use Rattle.cel_value.proofs.Views.{view_list_type, view_map_type, no_list, no_map}
use Rattle.cel_value.proofs.cel_type.+same_types.Goals as goal

pub returns-in_default-6 : goal.returns-in_default-6
returns-in_default-6 t c =
    rw (c.in_default.is-0, view_list_type c.in_default.field-0-0)
    (no_list c.args.right.now c.in_default.not-List-1 _)

pub returns-in_default-7 : goal.returns-in_default-7
returns-in_default-7 t c =
    rw (c.in_default.is-0, view_map_type c.in_default.field-0-0 c.in_default.field-1-0)
    (no_map c.args.right.now c.in_default.not-Map-1 _ _)
