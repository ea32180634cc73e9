use Rattle.std.proofs.Common.{sym, ap, ◌∙◌}
use Rattle.xds_wire.specs.Stream.{Kept}
use Rattle.ads.specs.private.Drafts.{draft_view}
use Rattle.ads.proofs.AnswerLemmas.{goes_on_more, goes_on_end, goes_on_stop, reported_none, reported_some}
use Rattle.ads.proofs.answer.answer_all.Goals as goal

pub returns-in-Some-2-clause-answered : goal.returns-in-Some-2-clause-answered
returns-in-Some-2-clause-answered c old =
    let answered = reported_some c.in_ok-reason.field-0 c.in-Some-2.reason _ _ c.in-Some-2.is (c.in_ok-reason.ensures.answered old) in
    let so_far = rw c.in-Some.ensures at c.loop-message.invariant.3 old in
    goes_on_stop c.args.config.now (draft_view old c.args.draft.now) c.args.frames.now.messages
    c.args.draft.now.replies.items c.args.draft.now.judgements.items old c.loop-message.draft c.answer.new.draft
    c.in-Some.message c.next.new.self.messages c.in-Some-2.reason so_far (rw c.as_slice.ensures at answered)

pub loop-message-preserved : goal.loop-message-preserved
loop-message-preserved c =
    let same = c.in-Some.ensures in (
      c.in_ok-reason.ensures.covers,
      sym (ap (λ (k : Kept). k.max) same) ∙ c.loop-message.invariant.1,
      sym (ap (λ (k : Kept). k.tail) same) ∙ c.loop-message.invariant.2,
      λ old.
          let answered = reported_none c.in_ok-reason.field-0 _ _ c.in_default-2.is (c.in_ok-reason.ensures.answered old) in
          goes_on_more c.args.config.now (draft_view old c.args.draft.now) c.args.frames.now.messages
          c.args.draft.now.replies.items c.args.draft.now.judgements.items old c.loop-message.draft c.answer.new.draft
          c.in-Some.message c.next.new.self.messages (rw c.in-Some.ensures at c.loop-message.invariant.3 old)
          (rw c.as_slice.ensures at answered),
    )

pub returns-clause-answered : goal.returns-clause-answered
returns-clause-answered c old =
    goes_on_end c.args.config.now (draft_view old c.args.draft.now) c.args.frames.now.messages
    c.args.draft.now.replies.items c.args.draft.now.judgements.items old c.loop-message.draft
    (rw c.in_default.ensures.0 at c.loop-message.invariant.3 old)
