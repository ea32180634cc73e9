use Rattle.std.proofs.Common.{Some, [], ap, refl}
use Rattle.ads.specs.Answer.{Accepted}
use Rattle.ads.specs.Ends.{client_view, state_view}
use Rattle.ads.specs.private.Drafts.{draft_view}
use Rattle.ads.specs.Views.{policies_view}
use Rattle.ads.proofs.AdmittedLemmas.{merely_all}
use Rattle.ads.proofs.AnswerLemmas.{reported_no, reported_yes}
use Rattle.ads.proofs.JudgementLemmas.{judged_answered}
use Rattle.std.specs.Prelude.{is_some}
use Rattle.ads.proofs.StreamLemmas.{ends_if, fed_stream, part_answered, part_reported, reported_stream}
use Rattle.ads.proofs.client.Client.feed.Goals as goal

pub invariant_of-self-2-clause-admitted : goal.invariant_of-self-2-clause-admitted
invariant_of-self-2-clause-admitted c =
    let old = c.args.self.now.accepted in
    let draft = c.in_ok-draft.draft in
    let reported = c.in_ok-draft.ensures.answered in
    let answered = judged_answered c.args.self.now.config (state_view old) reported.0 draft.judgements.items
    draft.replies.items (draft_view (policies_view old.policies.items) draft) reported.2 reported.4 in
    rw (ap (λ (a : Accepted). a.policies) c.commit-replies.ensures.state)
    (merely_all c.args.self.now.config (state_view old) (draft_view (policies_view old.policies.items) draft)
    reported.0 draft.replies.items answered.0 (is_some reported.2) answered.1 c.args.self.now.admitted)

pub returns-then-branch-clause-found : goal.returns-then-branch-clause-found
returns-then-branch-clause-found c =
    let reported = reported_yes c.in_ok-keeps.field-0 _ _ c.if-branch.true c.in_ok-keeps.ensures.kept in (
      [],
      part_answered (client_view c.args.self.now) _ c.in-Some.stream c.args.bytes.now c.new-then-branch.result.items
          c.in-Some.is reported.0 c.new-then-branch.ensures.items refl (ap Some reported.1) refl,
    )

pub returns-then-branch-clause-judged : goal.returns-then-branch-clause-judged
returns-then-branch-clause-judged c =
    let reported = reported_yes c.in_ok-keeps.field-0 _ _ c.if-branch.true c.in_ok-keeps.ensures.kept in
    part_reported (client_view c.args.self.now) _ c.in-Some.stream c.args.bytes.now c.new-then-branch.result.items
    c.new-then-branch-2.result.items c.in-Some.is reported.0 c.new-then-branch.ensures.items
    c.new-then-branch-2.ensures.items refl

pub returns-clause-found : goal.returns-clause-found
returns-clause-found c =
    let old = c.args.self.now.accepted in
    let draft = c.in_ok-draft.draft in
    let kept = reported_no c.in_ok-keeps.field-0 _ _ c.if-branch.false c.in_ok-keeps.ensures.kept in
    let reported = c.in_ok-draft.ensures.answered in
    let cut = rw kept.1 at reported.3 in
    let answered = judged_answered c.args.self.now.config (state_view old) reported.0 draft.judgements.items
    draft.replies.items (draft_view (policies_view old.policies.items) draft) reported.2 reported.4 in (
      answered.0,
      fed_stream (client_view c.args.self.now) _ c.in-Some.stream c.args.bytes.now _ reported.0 answered.0 reported.1
          (is_some reported.2) c.commit-replies.result.0.items draft.replies.items (is_some c.in_ok-draft.ended)
          c.in-Some.is cut answered.1 c.commit-replies.ensures.replies c.commit-replies.ensures.state reported.5 refl
          (ends_if reported.2 reported.1 c.in_ok-draft.ended c.in_ok-draft.stream reported.6 reported.5),
    )

pub returns-clause-judged : goal.returns-clause-judged
returns-clause-judged c =
    let draft = c.in_ok-draft.draft in
    let kept = reported_no c.in_ok-keeps.field-0 _ _ c.if-branch.false c.in_ok-keeps.ensures.kept in
    let reported = c.in_ok-draft.ensures.answered in
    let cut = rw kept.1 at reported.3 in
    reported_stream (client_view c.args.self.now) _ c.in-Some.stream c.args.bytes.now _ reported.0 reported.1 reported.2
    c.commit-replies.result.0.items draft.replies.items c.commit-replies.result.1.items draft.judgements.items
    c.in_ok-draft.ended c.in-Some.is cut reported.4 c.commit-replies.ensures.replies c.commit-replies.ensures.judgements
    reported.6 c.commit-replies.ensures.state
