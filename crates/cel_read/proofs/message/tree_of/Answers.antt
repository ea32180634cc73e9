use Rattle.std.proofs.Common.{◌≡◌, List, map, ap, ◌∙◌}
use Rattle.std.proofs.lemmas.Result.{MatchResult-weaker}
use Rattle.proto_wire.specs.Fields.{Wire, field_view}
use Rattle.proto_wire.specs.Merge.{parts_view}
use Rattle.proto_wire.specs.Values.{payloads}
use Rattle.cel_tree.specs.Message.{checked_field}
use Rattle.cel_read.proofs.message.tree_of.Goals as goal

pub returns-clause-found : goal.returns-clause-found
returns-clause-found c =
    let fs : List Wire = map field_view c.args.fields.now in
    let parts : parts_view c.deref.result.now ≡ payloads checked_field.expr fs = ap parts_view c.deref.ensures ∙ c.in_ok-parts.ensures in
    MatchResult-weaker c.whole_tree.result c.whole_tree.ensures.found (λ t h. (rw parts at h.0, h.1)) (λ _ _. tt)
