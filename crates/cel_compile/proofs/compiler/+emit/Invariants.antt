use Rattle.std.proofs.Common.{drop}
use Rattle.cel_compile.proofs.Operands.{GoesOn}
use Rattle.cel_compile.proofs.compiler.+emit.Given as goal

abbrev pub invariant-emit_all-loop-expr : goal.invariant-emit_all-loop-expr
invariant-emit_all-loop-expr l = GoesOn l.fn.code l.code l.fn.lengths.items l.lengths.items l.depth (drop l.expr-index l.exprs) l.exprs
