use Rattle.std.proofs.Common.{◌≡◌, ℕ, List, map, subst, ap, ◌∙◌}
use Rattle.std.specs.Prelude.{IfOk, IfErr}
use Rattle.proto_wire.specs.Fields.{Wire, field_view}
use Rattle.proto_wire.specs.Merge.{parts_view}
use Rattle.proto_wire.specs.Oneof.{member_run}
use Rattle.proto_wire.specs.Refusal.{MemoryOr}
use Rattle.proto_wire.specs.Values.{payloads}
use Rattle.cel_tree.specs.Nodes.{kind_keys, KindSays, KindFault}
use Rattle.cel_read.specs.private.NodeViews.{node_view}
use Rattle.cel_read.proofs.node.last_node.Goals as goal

pub returns-clause-found : goal.returns-clause-found
returns-clause-found c =
    let run : List Wire = member_run kind_keys (map field_view c.args.fields.now) in
    let parts : parts_view c.deref.result.now ≡ payloads c.args.last.number run = ap parts_view c.deref.ensures ∙ c.in_ok-parts.ensures in
    let P : List (List ℕ) → Type 0 = λ ps. IfOk c.read_kind.result (λ node. KindSays c.args.last.kind ps (node_view node)) in
    subst P parts c.read_kind.ensures.found

pub returns-clause-fault : goal.returns-clause-fault
returns-clause-fault c =
    let run : List Wire = member_run kind_keys (map field_view c.args.fields.now) in
    let parts : parts_view c.deref.result.now ≡ payloads c.args.last.number run = ap parts_view c.deref.ensures ∙ c.in_ok-parts.ensures in
    let P : List (List ℕ) → Type 0 = λ ps. IfErr c.read_kind.result (MemoryOr (KindFault c.args.last.kind ps)) in
    subst P parts c.read_kind.ensures.fault
