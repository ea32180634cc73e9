use Rattle.std.proofs.Common.{arith}
use Rattle.std.proofs.lemmas.Result.{on_ok_weaker}
use Rattle.proto_wire.proofs.ShortestLemmas.{appends_varint_field}
use Rattle.proto_wire.proofs.writer.append_varint_field.Goals as goal

pub returns-clause-written : goal.returns-clause-written
returns-clause-written c =
    let number = c.args.number in
    on_ok_weaker c.append_varint-2.result
    (λ value. appends_varint_field _ _ _ number _ c.args.value c.requires
    (omega (arith, c.from.ensures)) c.in_ok-append_varint.ensures.written value)
    c.append_varint-2.ensures.written
