use Rattle.std.proofs.Common.{List, Option}
use Rattle.ads.specs.Answer.{AdmittedValue}
use Rattle.ads.specs.Views.{policies_view}
use Rattle.ads.specs.Ends.{state_view}
use Rattle.ads.specs.private.Drafts.{draft_view}
use Rattle.ads.proofs.AnswerLemmas.{from_judged}
use Rattle.ads.proofs.StreamLemmas.{fed_cut, kept_so}
use Rattle.ads.proofs.stream.answered.Goals as goal

pub returns-clause-answered : goal.returns-clause-answered
returns-clause-answered c =
    let old : List (Option AdmittedValue) = policies_view c.args.accepted.now.policies.items in
    let fed = rw c.in_ok-frames.ensures at c.in_ok-fault.ensures.found.0 in
    let cut = fed_cut c.stream.inside.frames c.feed_frames.new.frames c.args.bytes.now c.stream.invariant fed in
    let judged = from_judged c.args.config.now (state_view c.args.accepted.now)
    (draft_view old c.in_ok-draft.draft) (draft_view old c.answer_all.new.draft)
    c.feed_frames.new.frames.messages c.in_ok-draft.draft.replies.items c.in_ok-draft.draft.judgements.items
    c.answer_all.new.draft c.in_ok-reason.reason c.in_ok-draft.ensures.same c.in_ok-draft.ensures.replies
    c.in_ok-draft.ensures.judgements (c.in_ok-reason.ensures.answered old) in
    let d = c.stream.view_is in (
      c.feed_frames.new.frames.messages,
      c.feed_frames.new.frames.tail,
      c.in_ok-reason.reason,
      rw (← d) cut.0,
      judged,
      kept_so c.in_ok-reason.reason c.end_of-ended.result c.in_ok-fault.fault c.feed_frames.new.frames.tail
          c.answer_all.new.frames.tail c.is_some.result c.kept.result c.in_ok-fault.ensures.found.1 c.end_of-ended.ensures
          c.is_some.ensures c.in_ok-reason.ensures.frames.1 c.kept.ensures,
      rw c.in_ok-fault.ensures.found.1 at c.end_of-ended.ensures,
    )
