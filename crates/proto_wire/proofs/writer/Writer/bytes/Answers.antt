use Rattle.proto_wire.proofs.ShortestLemmas.{on_ok_both}
use Rattle.proto_wire.proofs.writer.Writer.bytes.Goals as goal

pub returns-clause-written : goal.returns-clause-written
returns-clause-written c =
    let written = c.append_len_field-written in
    on_ok_both c.keep_whole.result written.result c.keep_whole.ensures.same written.ensures.written
    c.keep_whole.ensures.whole
    (λ appended kept. rw (kept, ← c.self.view_is) appended)
