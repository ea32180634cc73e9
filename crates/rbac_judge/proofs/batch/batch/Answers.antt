use Rattle.std.proofs.Common.{◌∙◌, ◌++◌, ◌∷◌, [], ap, arith, length-append, refl, sym, append-nil}
use Rattle.std.proofs.KnownBytes.{Appends-nil, Appends-trans}
use Rattle.std.specs.IoError.{error_kind}
use Rattle.program_texts.specs.declared.replay_fault.ReplayFault.TheVariants.{Input}
use Rattle.std.proofs.lemmas.Result.{IfErr-weaker, err_from_is_err_and, on_ok_weaker}
use Rattle.rbac_judge.proofs.BatchLemmas.{answered_as, answered_at_end, answered_more, answered_none, cut_short, leaves_broken, text_pushed, text_step}
use Rattle.program_texts.proofs.LineLemmas.{not_memory}
use Rattle.rbac_judge.proofs.batch.batch.Goals as goal

pub loop-number-init : goal.loop-number-init
loop-number-init g c =
    ([], [], [], (λ policy budget filter admits. answered_none policy budget _ _ _), rw c.new-pending.ensures.items refl, Appends-nil _, refl)

pub loop-number-preserved : goal.loop-number-preserved
loop-number-preserved g c =
    let (lines, answers, done, right, text, took, count) = c.loop-number.invariant in
    let (line, of, reads) = rw c.in-Some.is at c.in_ok-line.ensures.found in
    let by = answered_as (λ v. v.items) c.answer-answered.result _ _ _ c.loop-number.number c.in-Some.line line
    c.bytes_of.result.now c.answer-answered.ensures c.bytes_of.ensures.answer
    c.bytes_of.ensures.memory of in
    let (more, split, wrote) = c.in_ok-put_answer-in-Some.ensures.written in
    let kept = rw c.in_ok-line.ensures.kept at wrote in (
      lines ++ line ∷ [],
      answers ++ by.answer ∷ [],
      done ++ more,
      (λ policy budget filter admits. answered_more policy budget _ _ _ _ _ c.loop-number.number lines answers line by.answer
          (right policy budget filter admits) reads count (by.right policy budget filter admits)),
      text_step answers by.answer done _ _ _ more _ text by.same refl split,
      Appends-trans _ _ _ done more took kept,
      omega (arith, count, length-append lines (line ∷ [])),
    )

pub returns-in-None-clause-whole : goal.returns-in-None-clause-whole
returns-in-None-clause-whole g c =
    let (lines, answers, done, right, text, took, count) = c.loop-number.invariant in
    let end = rw c.in-None.is at c.in_ok-line.ensures.found in
    on_ok_weaker c.write_all.result (λ written policy budget filter admits.
    let all = answered_at_end policy budget _ _ _ _ _ lines answers (right policy budget filter admits) end in
    record {
      lines = lines;
      answers = answers;
      answered = all.0;
      end = all.1;
      printed = rw text (Appends-trans _ _ _ done _ took (rw (c.deref-in-None.ensures.value, c.in_ok-line.ensures.kept) at written));
    }) c.write_all.ensures.written

pub returns-in_err-line-clause-short : goal.returns-in_err-line-clause-short
returns-in_err-line-clause-short g c =
    let (lines, answers, done, right, text, took, count) = c.loop-number.invariant in
    let p = err_from_is_err_and c.from_residual.result c.from_residual.ensures.1 in
    let left = rw c.deref.ensures.value at c.in_err-line.ensures.fault in
    rw (p.1, p.2) (λ policy budget filter admits.
    cut_short policy budget _ _ _ _ _ _ _ lines answers done _ _ (right policy budget filter admits) text took left)

pub returns-in_err-put_answer-in-Some-clause-short : goal.returns-in_err-put_answer-in-Some-clause-short
returns-in_err-put_answer-in-Some-clause-short g c =
    let (lines, answers, done, right, text, took, count) = c.loop-number.invariant in
    let p = err_from_is_err_and c.from_residual-in_err-put_answer-in-Some.result c.from_residual-in_err-put_answer-in-Some.ensures.1 in
    let (line, of, reads) = rw c.in-Some.is at c.in_ok-line.ensures.found in
    let by = answered_as (λ v. v.items) c.answer-answered.result _ _ _ c.loop-number.number c.in-Some.line line
    c.bytes_of.result.now c.answer-answered.ensures c.bytes_of.ensures.answer
    c.bytes_of.ensures.memory of in
    let left = leaves_broken _ _ _ _ (rw c.in_ok-line.ensures.kept at c.in_err-put_answer-in-Some.ensures.fault) in
    rw (p.1, p.2) (λ policy budget filter admits.
    cut_short policy budget _ _ _ _ _ _ _ (lines ++ line ∷ []) (answers ++ by.answer ∷ []) done _ _
    (answered_more policy budget _ _ _ _ _ c.loop-number.number lines answers line by.answer
    (right policy budget filter admits) reads count (by.right policy budget filter admits))
    (text_pushed answers by.answer done _ _ _ text by.same refl) took left)

pub returns-in-None-clause-short : goal.returns-in-None-clause-short
returns-in-None-clause-short g c =
    let (lines, answers, done, right, text, took, count) = c.loop-number.invariant in
    IfErr-weaker c.write_all.result _ _ (λ e left policy budget filter admits.
    cut_short policy budget _ _ _ _ _ _ _ lines answers done _ e (right policy budget filter admits) text took
    (leaves_broken _ _ _ e (rw (c.deref-in-None.ensures.value, c.in_ok-line.ensures.kept) at left))) c.write_all.ensures.fault

pub returns-in_err-write_all-clause-short : goal.returns-in_err-write_all-clause-short
returns-in_err-write_all-clause-short g c =
    let (lines, answers, done, right, text, took, count) = c.loop-number.invariant in
    let p = err_from_is_err_and c.from_residual-in_err-write_all.result c.from_residual-in_err-write_all.ensures.1 in
    let left = leaves_broken _ _ _ _ (rw c.deref-2.ensures.value at c.in_err-write_all.ensures.fault) in
    rw (p.1, p.2) (λ policy budget filter admits.
    cut_short policy budget _ _ _ _ _ _ _ lines answers done _ _ (right policy budget filter admits) text took left)

pub returns-clause-short : goal.returns-clause-short
returns-clause-short g c =
    let (lines, answers, done, right, text, took, count) = c.loop-number.invariant in
    let wrote = rw c.deref-2.ensures.value at c.in_ok-write_all.ensures.written in
    let other = not_memory (error_kind c.from.result) c.from.ensures in
    λ policy budget filter admits.
    cut_short policy budget _ _ _ _ _ _ _ lines answers done c.loop-number.pending.items (Input c.from.result)
    (right policy budget filter admits) text took (other, wrote)
