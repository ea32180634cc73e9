use Rattle.std.proofs.Common.{◌≡◌, ◌≤◌, ◌+◌, get_or, arith}
use Rattle.std.proofs.lemmas.List.{take_rest}
use Rattle.proto_wire.proofs.VarintLemmas.{value_step, value_fits, starts_at}
use Rattle.proto_wire.proofs.varint.read_varint.Goals as goal
use Rattle.proto_wire.proofs.varint.read_varint.Goals.{else-index-eq-LAST-via-then-index-eq-LAST+else-byte-gt-LAST_MOST, else-index-eq-LAST-via-else-index-eq-LAST}

pub overflow_add-value : goal.overflow_add-value
overflow_add-value c =
    let bytes = c.args.bytes.now in
    let i = c.loop-index.index in
    let known = c.loop-index.invariant in
    let within = c.loop-index-test.true in
    let low : i ≡ 9 → get_or bytes i 0 ≤ 1 = λ nine. elim c.else-index-eq-LAST.branch [
      | else-index-eq-LAST-via-then-index-eq-LAST+else-byte-gt-LAST_MOST w ↦
          w.if-byte-gt-LAST_MOST.false
      | else-index-eq-LAST-via-else-index-eq-LAST w ↦ absurd (w.if-index-eq-LAST.false nine)
    ] in
    let sum = value_step bytes i c.loop-index.value c.from.result within known.short low known.value
    c.from.ensures in
    let fits = value_fits bytes i within known.short low in
    omega arith

pub returns-then-byte-lt128-clause-found : goal.returns-then-byte-lt128-clause-found
returns-then-byte-lt128-clause-found c =
    let bytes = c.args.bytes.now in
    let i = c.loop-index.index in
    let known = c.loop-index.invariant in
    let within = c.loop-index-test.true in
    let low : i ≡ 9 → get_or bytes i 0 ≤ 1 = λ nine. elim c.else-index-eq-LAST.branch [
      | else-index-eq-LAST-via-then-index-eq-LAST+else-byte-gt-LAST_MOST w ↦
          w.if-byte-gt-LAST_MOST.false
      | else-index-eq-LAST-via-else-index-eq-LAST w ↦ absurd (w.if-index-eq-LAST.false nine)
    ] in
    let sum = value_step bytes i c.loop-index.value c.from.result within known.short low known.value
    c.from.ensures in
    rw (take_rest bytes (i + 1), sum)
    (starts_at bytes i within known.more c.if-byte-lt128.true known.short low)
