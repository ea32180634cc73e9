use Rattle.std.proofs.Common.{◌≡◌, true, false, not, length, Some, refl, sym, ap, ◌∙◌, slice_get}
use Rattle.std.proofs.lemmas.Option.{slice_get_read}
use Rattle.rbac_policy.proofs.IndexLemmas.{not_met}
use Rattle.rbac_policy.proofs.policy_index.RequestKeys.rules_out.Goals as goal

pub returns-in-Some : goal.returns-in-Some
returns-in-Some c = λ r ps keyed out p at.
    let needs = c.args.self.now.needs.now in
    let need = c.in-Some.need.now in
    let there = c.in-Some.ensures.lookup in
    let found : slice_get needs c.args.number ≡ Some need = slice_get_read needs (length needs) c.args.number need refl there.3.0 there.1 in
    not_met r ps needs keyed.0 keyed.1 c.args.number need keyed.3 found
    (λ meets. let clash : false ≡ true = sym (ap not (c.meets.ensures keyed.0 keyed.1 r keyed.2 meets)) ∙ out in absurd cc)
    p at
