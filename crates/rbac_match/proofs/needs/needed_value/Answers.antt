use Rattle.std.proofs.Common.{◌≡◌, [], sym, subst, ◌∙◌}
use Rattle.std.specs.Prelude.{unwrap_or}
use Rattle.attributes.proofs.TextOrder.{same_from_test}
use Rattle.attributes.specs.Request.{header_of}
use Rattle.rbac_match.proofs.needs.needed_value.Goals as goal

pub returns-then-eq : goal.returns-then-eq
returns-then-eq c = λ r passes.
    subst (λ n. unwrap_or (header_of r n) [] ≡ c.in-Some.value.now)
    (same_from_test c.in-Some.own.now c.args.name.now (sym c.eq.ensures ∙ c.if-eq.true)) (c.in-Some.ensures r passes)
