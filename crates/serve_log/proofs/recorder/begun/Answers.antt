use Rattle.serve_log.proofs.recorder.begun.Goals as goal

pub returns-in-Ok-shift : goal.returns-in-Ok-shift
returns-in-Ok-shift g c = (c.in_ok-writer.writer, c.in-Ok.ensures)
