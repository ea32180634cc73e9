use Rattle.std.proofs.Common.{◌≡◌, None, option_map}
use Rattle.ads.proofs.Lists.{some_at, none_more}
use Rattle.ads.specs.Views.{admitted_view}
use Rattle.proxy_core.proofs.Chains.{is_none, is_some}
use Rattle.proxy_core.proofs.chain.is_ready.Goals as goal

pub returns-then-is_none : goal.returns-then-is_none
returns-then-is_none c =
    let here : option_map admitted_view c.policy-item.result ≡ None = is_none c.policy-item.result c.if-is_none.ensures in
    some_at (λ p. p ≡ None) (option_map admitted_view) c.args.policies.now c.loop-policy.policy-index
    c.policy-item.result c.loop-policy-test.true (rw (← c.policy-item.is) here)

pub loop-policy-preserved : goal.loop-policy-preserved
loop-policy-preserved c =
    let not : option_map admitted_view c.policy-item.result ≡ None → ⊥ =
    is_some c.policy-item.result c.if-is_none.ensures in
    none_more (λ p. p ≡ None) (option_map admitted_view) c.args.policies.now c.loop-policy.policy-index
    c.policy-item.result c.loop-policy-test.true c.loop-policy.invariant (rw (← c.policy-item.is) not)
