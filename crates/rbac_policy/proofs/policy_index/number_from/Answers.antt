use Rattle.std.proofs.Common.{get_or, ap, ◌∙◌}
use Rattle.rbac_policy.specs.private.PolicyIndex.{mix}
use Rattle.rbac_policy.proofs.IndexLemmas.{number_next}
use Rattle.rbac_policy.proofs.policy_index.number_from.Goals as goal

pub loop-byte-preserved : goal.loop-byte-preserved
loop-byte-preserved c =
    c.mix-number.ensures
    ∙ ap (λ n. mix n (get_or c.args.bytes.now c.loop-byte.byte-index 0)) c.loop-byte.invariant
    ∙ number_next c.args.before c.args.bytes.now c.loop-byte.byte-index 0 c.loop-byte-test.true
