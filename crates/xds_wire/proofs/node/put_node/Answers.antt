use Rattle.std.proofs.Common.{[], ◌∷◌, refl}
use Rattle.std.proofs.lemmas.Result.{on_ok_weaker}
use Rattle.proto_wire.specs.Fields.{len}
use Rattle.proto_wire.specs.Shortest.{field_of}
use Rattle.xds_wire.proofs.node.put_node.Goals as goal

pub returns-clause-found : goal.returns-clause-found
returns-clause-found c =
    let bytes = c.in_ok-bytes.bytes.items in
    on_ok_weaker c.message.result
    (λ added. (
      field_of c.args.number (len bytes) ∷ [],
      rw c.in-Some.is (bytes, c.in_ok-bytes.ensures, refl),
      rw c.deref.ensures.value at added,
    ))
    c.message.ensures.written
