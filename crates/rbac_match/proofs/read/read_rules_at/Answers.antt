use Rattle.std.proofs.Common.{◌-◌, ℕ, List, length, map, ap, ◌∙◌}
use Rattle.proto_wire.specs.Fields.{field_view}
use Rattle.rbac_match.specs.Places.{EachOr}
use Rattle.rbac_match.specs.Tokens.{Token}
use Rattle.rbac_match.proofs.Adding.{added_rules}
use Rattle.rbac_match.proofs.Exits.{exit_with}
use Rattle.rbac_match.proofs.read.read_rules_at.Goals as goal

pub returns-clause-found : goal.returns-clause-found
returns-clause-found c =
    let added = c.in_ok-read_each.ensures.found in
    let after : List Token = c.read_each.new.list in
    let from = c.in_ok-since.ensures.0 ∙ c.len-place.ensures in
    let count = c.in_ok-since.ensures.1 ∙ ap (λ (n : ℕ). length after - n) c.len-place.ensures in
    λ more. rw (added_rules c.args.list.now after added.0 c.in_ok-since.field-0 more added.2 from count) added.1

pub returns-clause-kept : goal.returns-clause-kept
returns-clause-kept c = let added = c.in_ok-read_each.ensures.found in (_, added.2)

pub returns-in_err-read_each-clause-fault : goal.returns-in_err-read_each-clause-fault
returns-in_err-read_each-clause-fault c =
    exit_with (EachOr c.args.side c.args.depth c.args.number (map field_view c.args.fields.now))
    c.from_residual.result _ c.from_residual.ensures.1 c.in_err-read_each.ensures.fault
