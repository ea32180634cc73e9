use Rattle.std.proofs.Common.{◌≡◌, length, sym, ap, ◌∙◌}
use Rattle.std.proofs.lemmas.List.{length-map}
use Rattle.std.specs.FinMap.{len, from_entries, len-entries}
use Rattle.attributes.specs.Headers.{name_cmp}
use Rattle.rbac_policy.specs.Named.{named_view, named_views}
use Rattle.rbac_policy.proofs.Besides.{t_of}
use Rattle.std.specs.Cmp.Lexicographic.{nat_list_cmp_total}
use Rattle.proto_wire.proofs.MapOrder.{entries_from_entries}
use Rattle.rbac_policy.proofs.filter.Admitted.policies.Goals as goal

pub returns : goal.returns
returns c =
    let list = c.args.self.now.rules.list in
    let items = c.args.self.now.rules.policies.items in
    let held : len (from_entries {R = name_cmp} (named_views list items)) ≡ length items =
    len-entries (from_entries {R = name_cmp} (named_views list items)) ∙ ap length (entries_from_entries name_cmp nat_list_cmp_total (named_views list items) (t_of _ c.args.self.now.rules.ordered)) ∙ length-map items (named_view list) in
    c.len.ensures ∙ c.args.self.now.rules.policies.ok.0 ∙ sym held
