use Rattle.std.proofs.Common.{◌∙◌, ℕ, Vec, Global}
use Rattle.std.proofs.lemmas.Result.{IfOk-weaker}
use Rattle.xds_wire.specs.View.{texts_view}
use Rattle.ads.specs.Views.{snapshot_view}
use Rattle.ads.proofs.ServingLemmas.{is_response}
use Rattle.ads.proofs.response.response_bytes.Goals as goal

pub returns : goal.returns
returns c =
    let each = rw (c.deref.ensures.value, ← c.deref-4.ensures.value) at c.in_ok-values.ensures in
    IfOk-weaker c.written.result _ _
    (λ v written. is_response (λ (b : Vec ℕ Global). b.items) (snapshot_view c.args.snapshot.now)
    (texts_view c.args.names.now) c.args.number c.args.count c.deref-2.result.now c.deref-3.result.now v.items
    c.deref-4.result.now (c.deref-2.ensures ∙ c.in_ok-version.ensures) (c.deref-3.ensures ∙ c.in_ok-nonce.ensures)
    each written)
    c.written.ensures
