use Rattle.std.proofs.Common.{◌≡◌, rules, to_z, of_z, w64, ap, subst, ◌∙◌}
use Rattle.std.specs.Int.{cast_signed}
use Rattle.proto_wire.specs.Places.{path_of}
use Rattle.proto_wire.specs.Values.{int64_at}
use Rattle.cel_tree.specs.Nodes.{node_field}
use Rattle.cel_tree.specs.Places.{NamesNode}
use Rattle.cel_read.proofs.node_id.fault_of_expr.Goals as goal

pub returns-clause-place : goal.returns-clause-place
returns-clause-place c =
    let found = c.id_of.ensures in
    let is : c.signed.result ≡ int64_at node_field.id found.0 = c.signed.ensures ∙ ap (cast_signed w64) found.2 in
    let same : to_z w64 (of_z w64 c.signed.result) ≡ c.signed.result = search rules in
    let names : NamesNode c.signed.result (path_of c.fault_of_node.result.place) = rw same at c.fault_of_node.ensures.place in
    (found.0, found.1, subst (λ id. NamesNode id (path_of c.fault_of_node.result.place)) is names)
