use Rattle.std.proofs.Common.{◌∙◌, ap, inl, inr, subst, sym}
use Rattle.std.proofs.lemmas.Result.{err_from_is_err_and}
use Rattle.std.specs.List.{AllZip}
use Rattle.xds_wire.proofs.DiscoveryLaws.{response_disjoint, response_unique}
use Rattle.xds_wire.specs.Discovery.{ResponseMessage}
use Rattle.xds_wire.specs.View.{response_view}
use Rattle.ads.specs.Answer.{IsResource}
use Rattle.ads.specs.Control.{extension_of}
use Rattle.program_jobs.proofs.snapshots.snapshot_of.Goals as goal

pub returns-in_err-response-clause-fault : goal.returns-in_err-response-clause-fault
returns-in_err-response-clause-fault c =
    let p = err_from_is_err_and c.from_residual.result c.from_residual.ensures.1 in
    rw (p.1, p.2) (elim c.in_err-response.ensures.fault [
      | inl memory ↦ inl memory
      | inr bad ↦ inr (λ snapshot held. response_disjoint _ held.response _ held.reads bad)
    ])

pub returns-in_err-check_type-clause-fault : goal.returns-in_err-check_type-clause-fault
returns-in_err-check_type-clause-fault c =
    let p = err_from_is_err_and c.from_residual-in_err-check_type.result c.from_residual-in_err-check_type.ensures.1 in
    rw (p.1, p.2) (inr (λ snapshot held.
    let same = response_unique _ (response_view c.in_ok-response.response) held.response c.in_ok-response.ensures.found
    held.reads in
    c.in_err-check_type.ensures.fault (ap (λ (r : ResponseMessage). r.type_url) same ∙ held.type_url)))

pub returns-in_err-resources-clause-fault : goal.returns-in_err-resources-clause-fault
returns-in_err-resources-clause-fault c =
    let p = err_from_is_err_and c.from_residual-in_err-resources.result c.from_residual-in_err-resources.ensures.1 in
    rw (p.1, p.2) (elim (rw c.deref.ensures.value at c.in_err-resources.ensures.fault) [
      | inl memory ↦ inl memory
      | inr none ↦ inr (λ snapshot held.
          let same = response_unique _ (response_view c.in_ok-response.response) held.response
          c.in_ok-response.ensures.found held.reads in
          none snapshot (subst (λ (r : ResponseMessage). AllZip (λ any f. IsResource any (extension_of f)) r.resources snapshot)
          (sym same) held.resources))
    ])
