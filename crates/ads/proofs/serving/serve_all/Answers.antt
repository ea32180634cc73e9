use Rattle.std.proofs.Common.{refl, sym, ap, ◌∙◌}
use Rattle.xds_wire.specs.Stream.{Kept}
use Rattle.ads.specs.Views.{served_view, snapshots_view}
use Rattle.ads.proofs.ServingLemmas.{goes_on_from, goes_on_more, goes_on_end, goes_on_stop}
use Rattle.ads.proofs.serving.serve_all.Goals as goal

pub loop-message-init : goal.loop-message-init
loop-message-init c = (
  refl,
  refl,
  goes_on_from (snapshots_view c.args.snapshots.now) (served_view c.args.serving.now.served) c.args.frames.now.messages
      c.args.serving.now.replies.items c.args.serving.now.exchanges.items,
)

pub returns-in-Some-2-clause-served : goal.returns-in-Some-2-clause-served
returns-in-Some-2-clause-served c =
    let served = rw (c.in-Some-2.is, c.as_slice.ensures) at c.in_ok-reason.ensures in
    let so_far = rw c.in-Some.ensures at c.loop-message.invariant.2 in
    goes_on_stop (snapshots_view c.args.snapshots.now) (served_view c.args.serving.now.served)
    c.args.frames.now.messages c.args.serving.now.replies.items c.args.serving.now.exchanges.items
    c.loop-message.serving c.serve.new.serving c.in-Some.message c.next.new.self.messages c.in-Some-2.reason so_far served

pub loop-message-preserved : goal.loop-message-preserved
loop-message-preserved c =
    let same = c.in-Some.ensures in (
      sym (ap (λ (k : Kept). k.max) same) ∙ c.loop-message.invariant.0,
      sym (ap (λ (k : Kept). k.tail) same) ∙ c.loop-message.invariant.1,
      let served = rw (c.in_default-2.is, c.as_slice.ensures) at c.in_ok-reason.ensures in
          let so_far = rw same at c.loop-message.invariant.2 in
          goes_on_more (snapshots_view c.args.snapshots.now) (served_view c.args.serving.now.served)
          c.args.frames.now.messages c.args.serving.now.replies.items c.args.serving.now.exchanges.items
          c.loop-message.serving c.serve.new.serving c.in-Some.message c.next.new.self.messages so_far served,
    )

pub returns-clause-served : goal.returns-clause-served
returns-clause-served c =
    goes_on_end (snapshots_view c.args.snapshots.now) (served_view c.args.serving.now.served)
    c.args.frames.now.messages c.args.serving.now.replies.items c.args.serving.now.exchanges.items
    c.loop-message.serving (rw c.in_default.ensures.0 at c.loop-message.invariant.2)
