use Rattle.std.proofs.Common.{◌<◌, length, sym, ap, ◌∙◌, arith}
use Rattle.std.proofs.lemmas.Grind.{common_steps}
use Rattle.cel_value.specs.Types.{type_view}
use Rattle.cel_value.proofs.Views.{no_map}
use Rattle.cel_types.specs.private.ExprViews.{exprs_view}
use Rattle.machine_code.specs.Instructions.{MakeMap}
use Rattle.cel_compile.proofs.Operands.{made_map, other_map, pairs_of}
use Rattle.cel_compile.proofs.instructions.map_instr.Goals.{in_default-via-in-Map+else-is_empty, in_default-via-in_default}
use Rattle.cel_compile.proofs.instructions.map_instr.Goals as goal

pub returns-in_default : goal.returns-in_default
returns-in_default c = elim c.in_default.branch [
  | in_default-via-in-Map+else-is_empty w ↦
      let not_empty = w.if-is_empty.false in
      let some : 0 < length c.args.pairs.now = grind (arith, common_steps) in
      made_map _ c.args.pairs.now _ some (omega (arith, c.requires))
  | in_default-via-in_default w ↦
      ap MakeMap (sym (pairs_of c.args.pairs.now))
      ∙ other_map (type_view c.args.cel_type.now) (exprs_view c.args.pairs.now) (no_map c.args.cel_type.now w.in_default.not-Map)
]
