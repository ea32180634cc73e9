use Rattle.std.proofs.Common.{◌≡◌, None, take}
use Rattle.proto_wire.specs.Merge.{SomeOf}
use Rattle.ads.specs.Views.{policies_view}
use Rattle.proxy_core.proofs.chain.is_ready.Given as goal

abbrev pub invariant-loop-policy : goal.invariant-loop-policy
invariant-loop-policy l = SomeOf (λ p. p ≡ None) (policies_view (take l.policy-index l.policies)) → ⊥
