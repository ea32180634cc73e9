use Rattle.std.proofs.Common.{refl}
use Rattle.proto_wire.specs.Fields.{short_len}
use Rattle.proto_wire.proofs.PayloadLemmas.{len_starts}
use Rattle.proto_wire.proofs.spelling.read_payload.Goals as goal

pub returns-then-behind-size-clause-fault : goal.returns-then-behind-size-clause-fault
returns-then-behind-size-clause-fault c =
    let read = c.in_ok-size-in-2 in
    short_len c.in-2.is read.size read.behind.now read.ensures.found c.if-behind-size.true refl

pub returns-else-behind-size-clause-found : goal.returns-else-behind-size-clause-found
returns-else-behind-size-clause-found c =
    let bytes = c.args.bytes.now in
    let read = c.in_ok-size-in-2 in
    let long = c.if-behind-size.false in
    rw (c.split_at.ensures.front, c.split_at.ensures.back)
    (len_starts c.args.wire_type bytes read.size read.behind.now c.in-2.is read.ensures.found long)
