use Rattle.std.proofs.Common.{Some, [], ap, refl}
use Rattle.ads.specs.Ends.{control_view}
use Rattle.ads.proofs.AnswerLemmas.{reported_no, reported_yes}
use Rattle.ads.proofs.StreamLemmas.{exchanged_stream, part_exchanged, part_served, served_stream}
use Rattle.ads.proofs.control.Control.feed.Goals as goal

pub returns-then-branch-clause-found : goal.returns-then-branch-clause-found
returns-then-branch-clause-found c =
    let reported = reported_yes c.in_ok-keeps.field-0 _ _ c.if-branch.true c.in_ok-keeps.ensures.kept in (
      [],
      part_served (control_view c.args.self.now) _ c.in-Some.stream c.args.bytes.now c.new-then-branch.result.items
          c.in-Some.is reported.0 c.new-then-branch.ensures.items refl (ap Some reported.1) refl,
    )

pub returns-then-branch-clause-reported : goal.returns-then-branch-clause-reported
returns-then-branch-clause-reported c =
    let reported = reported_yes c.in_ok-keeps.field-0 _ _ c.if-branch.true c.in_ok-keeps.ensures.kept in
    part_exchanged (control_view c.args.self.now) _ c.in-Some.stream c.args.bytes.now c.new-then-branch.result.items
    c.new-then-branch-2.result.items c.in-Some.is reported.0 c.new-then-branch.ensures.items
    c.new-then-branch-2.ensures.items refl

pub returns-clause-found : goal.returns-clause-found
returns-clause-found c =
    let kept = reported_no c.in_ok-keeps.field-0 _ _ c.if-branch.false c.in_ok-keeps.ensures.kept in
    let reported = rw c.deref.ensures.value at c.in_ok-serving.ensures in
    let cut = rw kept.1 at reported.4 in (
      reported.2,
      served_stream (control_view c.args.self.now) _ c.in-Some.stream c.args.bytes.now reported.0 reported.1 reported.3
          c.in_ok-serving.ended c.in_ok-serving.serving.replies.items reported.2 c.in_ok-serving.serving.exchanges.items
          c.in-Some.is cut reported.5 reported.6 reported.7 refl,
    )

pub returns-clause-reported : goal.returns-clause-reported
returns-clause-reported c =
    let kept = reported_no c.in_ok-keeps.field-0 _ _ c.if-branch.false c.in_ok-keeps.ensures.kept in
    let reported = rw c.deref.ensures.value at c.in_ok-serving.ensures in
    let cut = rw kept.1 at reported.4 in
    exchanged_stream (control_view c.args.self.now) _ c.in-Some.stream c.args.bytes.now reported.0 reported.1 reported.3
    c.in_ok-serving.ended c.in_ok-serving.serving.replies.items reported.2 c.in_ok-serving.serving.exchanges.items
    c.in-Some.is cut reported.5 reported.7
