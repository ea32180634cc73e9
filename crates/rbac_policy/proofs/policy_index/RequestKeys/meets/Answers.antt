use Rattle.std.proofs.Common.{◌∙◌}
use Rattle.rbac_policy.proofs.IndexLemmas.{zero_or}
use Rattle.rbac_policy.proofs.policy_index.RequestKeys.meets.Goals as goal

pub returns-then-start-need : goal.returns-then-start-need
returns-then-start-need c = λ most name r request_keys meets.
    let need = c.args.need.now in
    let seen = c.args.self.now in
    c.has_values.ensures
    (zero_or need.value seen.value (λ nonzero. request_keys.value_is ∙ meets.value nonzero))
    (zero_or need.method seen.method (λ nonzero. request_keys.method_is ∙ meets.method nonzero))
