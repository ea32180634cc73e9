-- The facts are within the limits, or the place stays free.
use Rattle.std.proofs.Common.{◌∙◌, ap, refl, sym, true≢false}
use Rattle.std.proofs.lemmas.Result.{err_from_is_err_and}
use Rattle.ads.specs.Client.{ClientValue}
use Rattle.ads.specs.Config.{ConfigValue}
use Rattle.serve_core.specs.ClientRequests.{rule_view}
use Rattle.serve_core.specs.Fronts.{fronts_view}
use Rattle.serve_core.proofs.FrontSteps.{opens_failed, opens_fit, opens_unfit}
use Rattle.serve_core.proofs.fronts.Fronts.accept.Goals as goal

pub returns-then-not-fits_conn-clause-found : goal.returns-then-not-fits_conn-clause-found
returns-then-not-fits_conn-clause-found c =
    let limits = c.limits.ensures ∙ ap (λ (x : ConfigValue). x.limits) (c.config.ensures ∙ ap (λ (v : ClientValue). v.config) c.client.ensures) in
    let value = rw c.if-not-fits_conn.true at c.fits_conn.ensures.value in
    opens_unfit (rule_view c.args.self.now.rule) (fronts_view c.args.self.now) _ c.args.k _ c.args.conn.now _ _ c.requires
    limits (λ fits. true≢false (sym (value.1 fits))) c.begun.ensures refl c.put-closed.ensures.after

pub returns-in_err-connection-clause-found : goal.returns-in_err-connection-clause-found
returns-in_err-connection-clause-found c =
    let left = err_from_is_err_and c.from_residual.result c.from_residual.ensures.1 in
    rw left.1 (opens_failed (rule_view c.args.self.now.rule) (fronts_view c.args.self.now) _ c.args.k _ c.args.conn.now
    c.requires refl c.put-closed.ensures.after)

pub returns-clause-found : goal.returns-clause-found
returns-clause-found c =
    let limits = c.limits.ensures ∙ ap (λ (x : ConfigValue). x.limits) (c.config.ensures ∙ ap (λ (v : ClientValue). v.config) c.client.ensures) in
    let value = rw c.if-not-fits_conn.false at c.fits_conn.ensures.value in
    opens_fit (rule_view c.args.self.now.rule) (fronts_view c.args.self.now) _ c.args.k _ c.args.conn.now _ _ _ c.requires
    limits (value.0 refl) c.in_ok-connection.ensures c.begun-2.ensures refl
    (rw c.put-closed.ensures.after at c.put-none.ensures.after)
