use Rattle.std.proofs.Common.{sym}
use Rattle.vupresal_c.proofs.Deciding.{is_admission}
use Rattle.vupresal_c.proofs.admission.admitted.Goals as goal

pub returns-clause-found : goal.returns-clause-found
returns-clause-found c =
    rw (c.in_ok-new.ensures.ok, c.in_ok-owner.ensures.ok) (is_admission c.args.message.now c.args.bounds.now c.args.budget c.in-Some.limits c.in_ok-admitted.admitted
    (sym (rw c.in-Some.is at c.limits_of.ensures)) (rw c.budget_of-left.ensures at c.if-not-is_allowed.ensures) c.in_ok-admitted.ensures.limits (rw c.budget_of-left.ensures at c.in_ok-admitted.ensures.found))
