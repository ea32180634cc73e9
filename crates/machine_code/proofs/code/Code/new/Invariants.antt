-- The code has the instructions that were taken so far.
use Rattle.std.proofs.Common.{◌≡◌}
use Rattle.machine_code.specs.Instructions.{code_view}
use Rattle.machine_code.proofs.code.Code.new.Given as goal

abbrev pub invariant-loop-instr : goal.invariant-loop-instr
invariant-loop-instr l = code_view l.code ≡ code_view l.yielded
