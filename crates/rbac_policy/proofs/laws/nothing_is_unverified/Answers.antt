use Rattle.std.proofs.Common.{subst}
use Rattle.cel_compile.specs.Codes.{code_of}
use Rattle.cel_compile.proofs.Forwards.{elaborated_code_is_forward}
use Rattle.cel_read.proofs.GoodConstantLaws.{expr_good}
use Rattle.machine_code.specs.Typable.{Forward}
use Rattle.rbac_policy.proofs.laws.nothing_is_unverified.Goals as goal

pub returns : goal.returns
returns c parts condition limits program reads is =
    rw is.code (subst (Forward (code_of 0 0 is.e)) is.has_type
    (elaborated_code_is_forward condition is.e (expr_good parts condition reads) is.elaborated))
