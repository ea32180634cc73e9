use Rattle.std.proofs.Common.{sym, ◌∙◌}
use Rattle.attributes.proofs.TextOrder.{same_from_test}
use Rattle.rbac_match.proofs.needs.needs_value.Goals as goal

pub returns-in-Some : goal.returns-in-Some
returns-in-Some c = λ same r matches.
    c.in-Some.ensures r matches ∙ same_from_test c.in-Some.own.now c.args.value.now (sym c.eq.ensures ∙ same)
