use Rattle.std.proofs.Common.{◌≡◌, false, true, inl, inr, is_some, map, refl, ap, ◌∙◌}
use Rattle.std.proofs.lemmas.Result.{err_from_is_err_and}
use Rattle.rbac_policy.specs.Admitted.{filter_view, limits_view}
use Rattle.rbac_policy.specs.Named.{policy_view}
use Rattle.rbac_policy.specs.private.Action.{allows}
use Rattle.rbac_policy.specs.private.Runs.{AnyProgram, IsFirst, ExceedsBound}
use Rattle.rbac_policy.proofs.Deciding.{asked_is_reported, asking, found_verdict, have_none, none_passes}
use Rattle.rbac_policy.proofs.FirstRun.{memory_is_other}
use Rattle.rbac_policy.proofs.filter.Admitted.decide.Goals as goal

pub first_match-requires : goal.first_match-requires
first_match-requires c = rw (c.policy_index.ensures, c.list.ensures, c.named_policies.ensures) c.args.self.now.rules.indexed

pub returns-clause-found : goal.returns-clause-found
returns-clause-found c =
    let rules = c.args.self.now.rules in
    let given : c.named_policies.result.now ≡ rules.policies.items = c.named_policies.ensures in
    let listed : c.list.result.now ≡ rules.list = c.list.ensures in
    let first : IsFirst c.args.request.now 0 (map (policy_view c.args.self.now.rules.list) rules.policies.items) c.in_ok-matched.matched = rw (given, listed) at c.in_ok-matched.ensures.found in
    let answer : c.allows-allowed.result ≡ allows rules.action (is_some c.in_ok-matched.matched) =
    c.allows-allowed.ensures ∙ ap (λ a. allows a c.is_some.result) c.action.ensures ∙ ap (allows rules.action) c.is_some.ensures in
    λ filter admitted. rw answer (found_verdict (filter_view c.args.self.now) rules.list rules.policies.items rules.ordered refl
    (limits_view c.args.self.now) c.args.request.now c.request_is_sound.ensures filter admitted c.in_ok-matched.matched first)

pub returns-in_err-matched-clause-always : goal.returns-in_err-matched-clause-always
returns-in_err-matched-clause-always c =
    let rules = c.args.self.now.rules in
    let given : c.named_policies.result.now ≡ rules.policies.items = c.named_policies.ensures in
    let listed : c.list.result.now ≡ rules.list = c.list.ensures in
    λ none. let clash : false ≡ true = c.in_err-matched.ensures.always (rw (given, listed) (have_none (filter_view c.args.self.now) rules.list rules.policies.items rules.ordered refl none)) in absurd cc

pub returns-in_err-matched-clause-unasked : goal.returns-in_err-matched-clause-unasked
returns-in_err-matched-clause-unasked c =
    let rules = c.args.self.now.rules in
    let given : c.named_policies.result.now ≡ rules.policies.items = c.named_policies.ensures in
    let listed : c.list.result.now ≡ rules.list = c.list.ensures in
    λ filter admitted.
    let it = asking (filter_view c.args.self.now) rules.list rules.policies.items rules.ordered refl
    (limits_view c.args.self.now) c.args.request.now c.request_is_sound.ensures filter admitted AnyProgram (rw (given, listed) at c.in_err-matched.ensures.asked) in
    inl (it.0, it.1, tt)

pub returns-in_err-matched-clause-fault : goal.returns-in_err-matched-clause-fault
returns-in_err-matched-clause-fault c =
    let rules = c.args.self.now.rules in
    let given : c.named_policies.result.now ≡ rules.policies.items = c.named_policies.ensures in
    let listed : c.list.result.now ≡ rules.list = c.list.ensures in
    let p = err_from_is_err_and c.from_residual.result c.from_residual.ensures.1 in
    rw (p.1, p.2) (elim (rw (given, listed) at c.in_err-matched.ensures.fault) [
      | inl memory ↦ inl memory
      | inr (out, passes) ↦ inr (
        out,
        λ filter admitted. asking (filter_view c.args.self.now) rules.list rules.policies.items rules.ordered refl
            (limits_view c.args.self.now) c.args.request.now c.request_is_sound.ensures filter admitted (ExceedsBound c.args.request.now) passes,
      )
    ])

pub returns-in_err-matched-clause-within : goal.returns-in_err-matched-clause-within
returns-in_err-matched-clause-within c =
    let rules = c.args.self.now.rules in
    let given : c.named_policies.result.now ≡ rules.policies.items = c.named_policies.ensures in
    let listed : c.list.result.now ≡ rules.list = c.list.ensures in
    let p = err_from_is_err_and c.from_residual.result c.from_residual.ensures.1 in
    λ filter admitted inside is. elim (rw (given, listed) at c.in_err-matched.ensures.fault) [
      | inl memory ↦ memory_is_other c.from_residual.result p.0 c.in_err-matched.field-0.0 p.1 p.2 memory is
      | inr (out, passes) ↦ none_passes (filter_view c.args.self.now) rules.list rules.policies.items rules.ordered refl
          (limits_view c.args.self.now) c.args.request.now c.request_is_sound.ensures filter admitted inside passes
    ]

pub returns-clause-reported : goal.returns-clause-reported
returns-clause-reported c =
    let rules = c.args.self.now.rules in
    let given : c.named_policies.result.now ≡ rules.policies.items = c.named_policies.ensures in
    let listed : c.list.result.now ≡ rules.list = c.list.ensures in
    λ filter admitted asked. absurd (asked_is_reported (filter_view c.args.self.now) rules.list rules.policies.items rules.ordered refl
    (limits_view c.args.self.now) c.args.request.now c.request_is_sound.ensures filter admitted asked c.in_ok-matched.matched
    (rw (given, listed) at c.in_ok-matched.ensures.found))
