use Rattle.std.proofs.Common.{◌∙◌, ap, take}
use Rattle.serve_log.specs.Beginnings.{frames_of}
use Rattle.serve_log.specs.declared.updates.AcceptedResponse.{AcceptedResponse}
use Rattle.serve_log.proofs.BeginningLemmas.{bytes_none, bytes_whole, kept_more}
use Rattle.serve_log.proofs.beginning.put_kept.Goals as goal

pub loop-response-init : goal.loop-response-init
loop-response-init g c = λ whole. bytes_none g.W.Write.contents c.args.file.now

pub loop-response-preserved : goal.loop-response-preserved
loop-response-preserved g c = λ whole.
    let i = c.loop-response.response-index in
    let so_far = c.loop-response.invariant whole in
    kept_more g.W.Write.contents c.args.kept.now i _ _ c.args.file.now c.loop-response.file _ c.loop-response-test.true
    (c.deref.ensures.value ∙ ap (λ (r : AcceptedResponse). r.bytes.items) c.response-item.is) so_far
    (c.in_ok-put_bytes.ensures
    (bytes_whole g.W.Write.contents (frames_of (take i c.args.kept.now)) c.args.file.now c.loop-response.file so_far whole))
