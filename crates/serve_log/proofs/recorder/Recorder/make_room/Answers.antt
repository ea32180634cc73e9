use Rattle.std.proofs.Common.{◌≡◌, ◌∙◌, ap, arith, None, refl}
use Rattle.serve_log.specs.Recording.{connection_at}
use Rattle.serve_log.proofs.RecorderLemmas.{place_more}
use Rattle.serve_log.proofs.recorder.Recorder.make_room.Goals as goal

pub places-init : goal.places-init
places-init g c = (λ k. refl, refl)

pub places-preserved : goal.places-preserved
places-preserved g c = (
  λ k. ap (connection_at k) c.in_ok-push.ensures.items ∙ place_more c.places.self.connections.items k ∙ c.places.invariant.0 k,
  c.places.invariant.1,
)
