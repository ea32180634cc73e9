use Rattle.std.proofs.Common.{inl}
use Rattle.std.proofs.lemmas.Result.{err_from_is_err_and}
use Rattle.cel_compile.proofs.Forwards.{elaborated_code_is_forward}
use Rattle.cel_read.proofs.GoodConstantLaws.{expr_good}
use Rattle.cel_tree.specs.Message.{checked_parts}
use Rattle.cel_tree.specs.View.{checked_view}
use Rattle.cel_types.specs.View.{typed_view}
use Rattle.callers.proofs.condition.compiled.Goals as goal

pub returns-in_err-code-clause-fault : goal.returns-in_err-code-clause-fault
returns-in_err-code-clause-fault c =
    let p = err_from_is_err_and c.from_residual-in_err-code.result c.from_residual-in_err-code.ensures.1 in
    rw (p.1, p.2) (inl (c.in_err-code.ensures.room (checked_parts c.requires.0) (checked_view c.args.checked.now)
    c.requires.1 c.in_ok-typed.ensures.found))

pub verified-requires : goal.verified-requires
verified-requires c =
    let good = expr_good (checked_parts c.requires.0) (checked_view c.args.checked.now) c.requires.1 in
    rw (c.cel_type.ensures, c.in_ok-code.ensures.found) (elaborated_code_is_forward (checked_view c.args.checked.now)
    (typed_view c.in_ok-typed.typed) good c.in_ok-typed.ensures.found)
