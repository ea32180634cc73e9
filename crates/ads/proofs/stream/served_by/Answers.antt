use Rattle.ads.specs.Views.{served_view, snapshots_view}
use Rattle.ads.proofs.ServingLemmas.{from_exchanged}
use Rattle.ads.proofs.StreamLemmas.{fed_cut, kept_so}
use Rattle.ads.proofs.stream.served_by.Goals as goal

pub returns : goal.returns
returns c =
    let fed = rw c.in_ok-frames.ensures at c.in_ok-fault.ensures.found.0 in
    let cut = fed_cut c.stream.inside.frames c.feed_frames.new.frames c.args.bytes.now c.stream.invariant fed in
    let reported = from_exchanged (snapshots_view c.args.snapshots.now) (served_view c.args.served)
    c.feed_frames.new.frames.messages c.new.result.items c.new-2.result.items c.serve_all.new.serving
    c.in_ok-reason.reason c.new.ensures.items c.new-2.ensures.items c.in_ok-reason.ensures.served in
    let d = c.stream.view_is in (
      c.feed_frames.new.frames.messages,
      c.feed_frames.new.frames.tail,
      reported.0,
      c.in_ok-reason.reason,
      rw (← d) cut.0,
      reported.1,
      kept_so c.in_ok-reason.reason c.end_of-ended.result c.in_ok-fault.fault c.feed_frames.new.frames.tail
          c.serve_all.new.frames.tail c.is_some.result c.kept.result c.in_ok-fault.ensures.found.1 c.end_of-ended.ensures
          c.is_some.ensures c.in_ok-reason.ensures.frames.1 c.kept.ensures,
      rw c.in_ok-fault.ensures.found.1 at c.end_of-ended.ensures,
    )
