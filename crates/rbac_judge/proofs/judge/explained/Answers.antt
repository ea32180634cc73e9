use Rattle.std.proofs.Common.{◌∙◌, Err, ap, inl, inr, subst, sym}
use Rattle.attributes.specs.Limits.{InLimits}
use Rattle.rbac_policy.specs.Admission.{IsAdmittedAs}
use Rattle.rbac_policy.specs.Admitted.{filter_view}
use Rattle.rbac_judge.proofs.judge.explained.Goals as goal

pub returns-in-Err-clause-found : goal.returns-in-Err-clause-found
returns-in-Err-clause-found c filter admitted within =
    let own = subst (λ l. IsAdmittedAs l filter (filter_view c.args.admitted.now)) (sym c.requires) admitted in
    elim c.in-Err.ensures.fault [
      | inl memory ↦ memory
      | inr (out, asked) ↦
          absurd (within (λ inside. c.trials.ensures.within filter own
          (subst (λ l. InLimits c.args.request.now l) (sym c.requires) inside) (c.in-Err.is ∙ ap Err out)))
    ]
