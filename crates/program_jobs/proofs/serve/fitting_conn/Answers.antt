use Rattle.std.proofs.Common.{inl, inr, refl}
use Rattle.std.proofs.lemmas.Result.{err_from_is_err_and}
use Rattle.std.proofs.lemmas.Bool.{false≢true}
use Rattle.attributes.specs.Conn.{conn_view}
use Rattle.attributes.specs.Limits.{FactsInLimits}
use Rattle.program_jobs.specs.Jobs.{LacksFit}
use Rattle.program_jobs.proofs.serve.fitting_conn.Goals as goal

pub returns-in_err-conn-clause-fault : goal.returns-in_err-conn-clause-fault
returns-in_err-conn-clause-fault g c =
    let p = err_from_is_err_and c.from_residual.result c.from_residual.ensures.1 in
    rw (p.1, p.2) (elim c.in_err-conn.ensures.fault [
      | inl memory ↦ inl memory
      | inr (path, named, fault) ↦ inr (LacksFit.no_facts path named fault)
    ])

pub returns-clause-fault : goal.returns-clause-fault
returns-clause-fault g c =
    let never : FactsInLimits (conn_view c.in_ok-conn.conn) c.args.limits.now → ⊥ =
    λ fits. false≢true (rw c.if-fits_conn.false at (c.fits_conn.ensures.value.1 fits)) in
    inr (LacksFit.unfit (conn_view c.in_ok-conn.conn) c.in_ok-conn.ensures.found never refl)
