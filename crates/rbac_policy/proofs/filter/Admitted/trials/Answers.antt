use Rattle.std.proofs.Common.{◌≡◌, inl, inr, refl}
use Rattle.std.proofs.lemmas.Result.{MatchResult-weaker}
use Rattle.rbac_policy.specs.Admitted.{filter_view, limits_view}
use Rattle.rbac_policy.specs.private.Runs.{ExceedsBound}
use Rattle.rbac_policy.proofs.Deciding.{asked_is_reported, asking, none_passes}
use Rattle.rbac_policy.proofs.Trying.{filter_tried, never_out, only_errors, trials_first}
use Rattle.rbac_policy.proofs.filter.Admitted.trials.Goals as goal

pub returns-clause-tried : goal.returns-clause-tried
returns-clause-tried c =
    let rules = c.args.self.now.rules in
    let given : c.named_policies.result.now ≡ rules.policies.items = c.named_policies.ensures in
    let listed : c.list.result.now ≡ rules.list = c.list.ensures in
    MatchResult-weaker c.try_policies.result (rw (given, listed) at c.try_policies.ensures.tried)
    (λ trials are filter admitted. filter_tried (filter_view c.args.self.now) rules.list rules.policies.items rules.ordered refl
    (limits_view c.args.self.now) c.args.request.now c.request_is_sound.ensures filter admitted trials.items are)
    (λ e h. h)

pub returns-clause-fault : goal.returns-clause-fault
returns-clause-fault c =
    let rules = c.args.self.now.rules in
    let given : c.named_policies.result.now ≡ rules.policies.items = c.named_policies.ensures in
    let listed : c.list.result.now ≡ rules.list = c.list.ensures in
    MatchResult-weaker c.try_policies.result (rw (given, listed) at c.try_policies.ensures.fault)
    (λ trials h. h)
    (λ e bad. elim bad [
      | inl memory ↦ inl memory
      | inr (out, passes) ↦ inr (
        out,
        λ filter admitted. asking (filter_view c.args.self.now) rules.list rules.policies.items rules.ordered refl
            (limits_view c.args.self.now) c.args.request.now c.request_is_sound.ensures filter admitted (ExceedsBound c.args.request.now) passes,
      )
    ])

pub returns-clause-reported : goal.returns-clause-reported
returns-clause-reported c =
    let rules = c.args.self.now.rules in
    let given : c.named_policies.result.now ≡ rules.policies.items = c.named_policies.ensures in
    let listed : c.list.result.now ≡ rules.list = c.list.ensures in
    λ filter admitted asked. only_errors c.try_policies.result
    (MatchResult-weaker c.try_policies.result (rw (given, listed) at c.try_policies.ensures.tried)
    (λ trials are.
    let found = trials_first c.args.request.now rules.list rules.policies.items trials.items are in
    asked_is_reported (filter_view c.args.self.now) rules.list rules.policies.items rules.ordered refl
    (limits_view c.args.self.now) c.args.request.now c.request_is_sound.ensures filter admitted asked found.0 found.1)
    (λ e h. h))
    (MatchResult-weaker c.try_policies.result c.try_policies.ensures.fault (λ trials h. h)
    (λ e bad. elim bad [
      | inl memory ↦ inl memory
      | inr (out, passes) ↦ inr out
    ]))

pub returns-clause-within : goal.returns-clause-within
returns-clause-within c =
    let rules = c.args.self.now.rules in
    let given : c.named_policies.result.now ≡ rules.policies.items = c.named_policies.ensures in
    let listed : c.list.result.now ≡ rules.list = c.list.ensures in
    λ filter admitted inside. never_out c.try_policies.result
    (MatchResult-weaker c.try_policies.result (rw (given, listed) at c.try_policies.ensures.fault) (λ trials h. h)
    (λ e bad. elim bad [
      | inl memory ↦ memory
      | inr (out, passes) ↦ absurd (none_passes (filter_view c.args.self.now) rules.list rules.policies.items rules.ordered refl
          (limits_view c.args.self.now) c.args.request.now c.request_is_sound.ensures filter admitted inside passes)
    ]))
