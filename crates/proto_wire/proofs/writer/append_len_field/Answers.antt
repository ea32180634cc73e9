use Rattle.std.proofs.Common.{arith, refl}
use Rattle.proto_wire.proofs.ShortestLemmas.{appends_len_field, on_ok_items}
use Rattle.proto_wire.proofs.writer.append_len_field.Goals as goal

pub returns-clause-written : goal.returns-clause-written
returns-clause-written c =
    let number = c.args.number in
    on_ok_items c.extend_from_slice.result _ _ _ c.extend_from_slice.ensures.items
    (λ whole. appends_len_field _ _ _ _ number _ _ c.args.bytes.now c.requires
    (omega (arith, c.from.ensures)) refl c.in_ok-append_varint.ensures.written
    c.in_ok-append_varint-2.ensures.written whole)
