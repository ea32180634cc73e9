use Rattle.std.proofs.Common.{◌∙◌, ap, inl, inr, refl, subst, sym}
use Rattle.std.proofs.lemmas.Result.{err_from_is_err_and}
use Rattle.xds_wire.proofs.DiscoveryLaws.{extension_disjoint, extension_unique}
use Rattle.xds_wire.specs.View.{extension_view}
use Rattle.xds_wire.specs.Discovery.{ExtensionMessage}
use Rattle.ads.specs.Answer.{HoldsFilter}
use Rattle.ads.specs.Control.{extension_of}
use Rattle.program_jobs.proofs.snapshots.filter_in.Goals as goal

pub returns-in_err-extension-clause-fault : goal.returns-in_err-extension-clause-fault
returns-in_err-extension-clause-fault c =
    let p = err_from_is_err_and c.from_residual-in_err-extension.result c.from_residual-in_err-extension.ensures.1 in
    rw (p.1, p.2) (elim c.in_err-extension.ensures.fault [
      | inl memory ↦ inl memory
      | inr bad ↦ inr (λ r is. extension_disjoint _ (extension_of r) _ is.reads bad)
    ])

pub returns-in_err-bytes-clause-fault : goal.returns-in_err-bytes-clause-fault
returns-in_err-bytes-clause-fault c =
    let p = err_from_is_err_and c.from_residual-in_err-bytes.result c.from_residual-in_err-bytes.ensures.1 in
    rw (p.1, p.2) (inr (λ r is.
    let same = extension_unique _ (extension_view c.in_ok-extension.extension) (extension_of r)
    c.in_ok-extension.ensures.found is.reads in
    let holds : HoldsFilter (extension_view c.in_ok-extension.extension) r.filter =
    subst (λ (x : ExtensionMessage). HoldsFilter x r.filter) (sym same) (refl, refl) in
    is.name (ap (λ (x : ExtensionMessage). x.name) (sym same) ∙ c.in_err-bytes.ensures.fault r.filter holds)))
