-- Where a limit is not given, limits are not declared.
use Rattle.std.proofs.lemmas.Result.{err_from_is_err_and, IfOk-weaker}
use Rattle.attributes.specs.declared.limits.Limit.{Limit}
use Rattle.proxy_replay.proofs.ConfigurationLemmas.{declares, declares_none, on_err_by}
use Rattle.proxy_replay.proofs.configuration.declared_limits.Goals as goal

pub returns-in_err-fields-clause-fault : goal.returns-in_err-fields-clause-fault
returns-in_err-fields-clause-fault c =
    let p = err_from_is_err_and c.from_residual-in_err-fields.result c.from_residual-in_err-fields.ensures.1 in
    rw p.1 (λ l reported. c.in_err-fields.ensures.fault _ (reported.each Limit.Fields))

pub returns-in_err-name-clause-fault : goal.returns-in_err-name-clause-fault
returns-in_err-name-clause-fault c =
    let p = err_from_is_err_and c.from_residual-in_err-name.result c.from_residual-in_err-name.ensures.1 in
    rw p.1 (λ l reported. c.in_err-name.ensures.fault _ (reported.each Limit.Name))

pub returns-in_err-value-clause-fault : goal.returns-in_err-value-clause-fault
returns-in_err-value-clause-fault c =
    let p = err_from_is_err_and c.from_residual-in_err-value.result c.from_residual-in_err-value.ensures.1 in
    rw p.1 (λ l reported. c.in_err-value.ensures.fault _ (reported.each Limit.Value))

pub returns-in_err-method-clause-fault : goal.returns-in_err-method-clause-fault
returns-in_err-method-clause-fault c =
    let p = err_from_is_err_and c.from_residual-in_err-method.result c.from_residual-in_err-method.ensures.1 in
    rw p.1 (λ l reported. c.in_err-method.ensures.fault _ (reported.each Limit.Method))

pub returns-in_err-target-clause-fault : goal.returns-in_err-target-clause-fault
returns-in_err-target-clause-fault c =
    let p = err_from_is_err_and c.from_residual-in_err-target.result c.from_residual-in_err-target.ensures.1 in
    rw p.1 (λ l reported. c.in_err-target.ensures.fault _ (reported.each Limit.Target))

pub returns-in_err-text-clause-fault : goal.returns-in_err-text-clause-fault
returns-in_err-text-clause-fault c =
    let p = err_from_is_err_and c.from_residual-in_err-text.result c.from_residual-in_err-text.ensures.1 in
    rw p.1 (λ l reported. c.in_err-text.ensures.fault _ (reported.each Limit.Text))

pub returns-clause-found : goal.returns-clause-found
returns-clause-found c =
    IfOk-weaker c.sound_limits.result _ _ (declares _ _ _ _ _ _ _ c.in_ok-fields.ensures.found c.in_ok-name.ensures.found c.in_ok-value.ensures.found c.in_ok-method.ensures.found c.in_ok-target.ensures.found c.in_ok-text.ensures.found
    c.in_ok-require_names.ensures.found) c.sound_limits.ensures.found

pub returns-clause-fault : goal.returns-clause-fault
returns-clause-fault c =
    on_err_by c.sound_limits.result (declares_none _ _ _ _ _ _ _ c.in_ok-fields.ensures.found c.in_ok-name.ensures.found c.in_ok-value.ensures.found c.in_ok-method.ensures.found c.in_ok-target.ensures.found c.in_ok-text.ensures.found)
    c.sound_limits.ensures.fault
