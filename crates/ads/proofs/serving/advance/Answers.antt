use Rattle.std.proofs.lemmas.List.{length-map}
use Rattle.std.proofs.lemmas.Result.{IfOk-weaker}
use Rattle.ads.specs.Control.{next}
use Rattle.ads.specs.Views.{snapshot_view}
use Rattle.ads.proofs.serving.advance.Goals as goal

pub returns : goal.returns
returns c =
    let below = rw (← length-map c.args.snapshots.now snapshot_view) at c.if-served-snapshots.false in
    IfOk-weaker c.send.result _ _ (λ ends (added, sends, grown). (added, next below sends, grown)) c.send.ensures.sent
