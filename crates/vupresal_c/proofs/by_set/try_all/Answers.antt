use Rattle.std.proofs.Common.{◌≡◌, Some, true, arith, inl, inr}
use Rattle.std.specs.Arc.{arc_value}
use Rattle.std.proofs.lemmas.Result.{err_from_is_err_and}
use Rattle.vupresal_c.specs.Decisions.{IsAnswer}
use Rattle.vupresal_c.specs.Kept.{AsksForHeld, HeldFailsFor}
use Rattle.vupresal_c.proofs.Trying.{decides, has_none, is_false, is_true, next_passed}
use Rattle.vupresal_c.proofs.by_set.try_all.Goals as goal
use Rattle.vupresal_c.proofs.by_set.try_all.Goals.{then-not-verdict-via-then-not-verdict, then-not-verdict-via-else-not-verdict+then-number-filters}

pub returns-in_err-verdict-clause-fault : goal.returns-in_err-verdict-clause-fault
returns-in_err-verdict-clause-fault c =
    let p = err_from_is_err_and c.from_residual.result c.from_residual.ensures.1 in
    let why : HeldFailsFor (Some c.args.request.now) (arc_value c.index-filters-number.result) c.in_err-verdict.field-0.0
    = rw c.deref.ensures at c.in_err-verdict.ensures.fault in
    rw (p.1, p.2) (has_none arc_value (Some c.args.request.now) c.args.filters.now c.loop-number.number c.index-filters-number.result
    c.loop-number-test.true c.index-filters-number.is c.loop-number.invariant.0 c.in_err-verdict.field-0.0 why)

pub returns-then-not-verdict-clause-found : goal.returns-then-not-verdict-clause-found
returns-then-not-verdict-clause-found c =
    let answer : IsAnswer (AsksForHeld (Some c.args.request.now)) (arc_value c.index-filters-number.result) c.in_ok-verdict.verdict
    = rw c.deref.ensures at c.in_ok-verdict.ensures.found in
    let one = decides arc_value (Some c.args.request.now) c.args.filters.now c.loop-number.number c.index-filters-number.result
    c.loop-number-test.true c.index-filters-number.is c.loop-number.invariant.0 c.in_ok-verdict.verdict answer in
    elim c.then-not-verdict.branch [
      | then-not-verdict-via-then-not-verdict w ↦ one (inl (is_false c.in_ok-verdict.verdict.allowed w.if-not-verdict.true))
      | then-not-verdict-via-else-not-verdict+then-number-filters w ↦ one (inr w.if-number-filters.true)
    ]

pub loop-number-preserved : goal.loop-number-preserved
loop-number-preserved c =
    let answer : IsAnswer (AsksForHeld (Some c.args.request.now)) (arc_value c.index-filters-number.result) c.in_ok-verdict.verdict
    = rw c.deref.ensures at c.in_ok-verdict.ensures.found in
    let lets : c.in_ok-verdict.verdict.allowed ≡ true = is_true c.in_ok-verdict.verdict.allowed c.if-not-verdict.false in (
      next_passed arc_value (Some c.args.request.now) c.args.filters.now c.loop-number.number c.index-filters-number.result
          c.loop-number-test.true c.index-filters-number.is c.loop-number.invariant.0 c.in_ok-verdict.verdict answer lets,
      inr (omega (arith, c.loop-number-test.true, c.if-number-filters.false)),
    )
