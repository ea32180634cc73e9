use Rattle.std.proofs.Common.{◌<◌, length, sym, ap, ◌∙◌, arith}
use Rattle.std.proofs.lemmas.Grind.{common_steps}
use Rattle.cel_value.specs.Types.{type_view}
use Rattle.cel_value.proofs.Views.{no_list}
use Rattle.cel_types.specs.private.ExprViews.{exprs_view}
use Rattle.machine_code.specs.Instructions.{MakeList}
use Rattle.cel_compile.proofs.Operands.{count_of, made_list, other_list}
use Rattle.cel_compile.proofs.instructions.list_instr.Goals.{in_default-via-in-List+else-is_empty, in_default-via-in_default}
use Rattle.cel_compile.proofs.instructions.list_instr.Goals as goal

pub returns-in_default : goal.returns-in_default
returns-in_default c = elim c.in_default.branch [
  | in_default-via-in-List+else-is_empty w ↦
      let not_empty = w.if-is_empty.false in
      let some : 0 < length c.args.elements.now = grind (arith, common_steps) in
      made_list _ c.args.elements.now _ some (omega (arith, c.requires))
  | in_default-via-in_default w ↦
      ap MakeList (sym (count_of c.args.elements.now))
      ∙ other_list (type_view c.args.cel_type.now) (exprs_view c.args.elements.now) (no_list c.args.cel_type.now w.in_default.not-List)
]
