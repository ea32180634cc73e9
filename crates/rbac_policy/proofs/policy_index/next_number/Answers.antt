use Rattle.std.proofs.Common.{◌+◌, ◌≤◌, length, take, arith, sym, ap, ◌∙◌}
use Rattle.std.proofs.lemmas.List.{take_all}
use Rattle.rbac_policy.specs.private.PolicyIndex.{mix, start_number}
use Rattle.rbac_policy.proofs.IndexLemmas.{number_next}
use Rattle.rbac_policy.proofs.policy_index.next_number.Goals as goal

pub returns-in-Some : goal.returns-in-Some
returns-in-Some c =
    let path = c.args.path.now in
    let there = c.in-Some.ensures.lookup in
    c.mix.ensures
    ∙ ap (λ n. mix n c.in-Some.byte.now) c.requires
    ∙ ap (mix (start_number (take c.args.count path))) there.1
    ∙ number_next 1 path c.args.count c.in-Some.byte.now there.3.0

pub returns-in-None : goal.returns-in-None
returns-in-None c =
    let path = c.args.path.now in
    let past : length path ≤ c.args.count = c.in-None.ensures.lookup.3 in
    c.requires ∙ ap start_number (take_all c.args.count path past ∙ sym (take_all (c.args.count + 1) path (omega (arith, past))))
