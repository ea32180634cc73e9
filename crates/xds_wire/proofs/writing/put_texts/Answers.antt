use Rattle.xds_wire.proofs.WriteLemmas.{adds_text}
use Rattle.xds_wire.proofs.writing.put_texts.Goals as goal

pub loop-text-preserved : goal.loop-text-preserved
loop-text-preserved c =
    adds_text c.args.writer.now c.loop-text.writer c.text.new.self c.args.number
    c.loop-text.text-index c.args.texts.now _ c.loop-text-test.true c.loop-text.invariant
    c.in_ok-text.ensures.written
