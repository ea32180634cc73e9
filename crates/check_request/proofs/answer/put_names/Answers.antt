use Rattle.xds_wire.proofs.WriteLemmas.{adds_text}
use Rattle.check_request.proofs.answer.put_names.Goals as goal

pub loop-name-preserved : goal.loop-name-preserved
loop-name-preserved c =
    adds_text c.args.writer.now c.loop-name.writer c.text.new.self 5
    c.loop-name.name-index c.args.names.now _ c.loop-name-test.true c.loop-name.invariant
    c.in_ok-text.ensures.written
