use Rattle.ads.proofs.ServingLemmas.{at_place}
use Rattle.ads.proofs.serving.snapshot_at.Goals as goal

pub returns : goal.returns
returns c =
    let at = c.get.ensures.lookup in
    at_place c.args.snapshots.now c.args.number c.in_ok-place.place c.get.result c.in_ok-place.ensures.0
    c.in_ok-place.ensures.1 at.3 at.1
