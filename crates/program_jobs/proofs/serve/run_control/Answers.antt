use Rattle.program_jobs.specs.Jobs.{EndsControl}
use Rattle.program_jobs.proofs.Ends.{end_of_control}
use Rattle.program_jobs.proofs.serve.run_control.Goals as goal

pub returns-in-Ok-acknowledged_text : goal.returns-in-Ok-acknowledged_text
returns-in-Ok-acknowledged_text g c =
    EndsControl.served _ c.in-Ok.ensures.found (rw (c.as_bytes.ensures.value, c.in-Ok-acknowledged_text.ensures) at c.show.ensures)

pub returns-in-Err-acknowledged_text : goal.returns-in-Err-acknowledged_text
returns-in-Err-acknowledged_text g c = EndsControl.memory c.end_by_memory.ensures

pub returns-in-Err : goal.returns-in-Err
returns-in-Err g c =
    let (reported, same, left) = c.end_by.ensures in
    end_of_control _ _ _ _ _ _ _ _ _ c.args.words.now c.in-Err.fault reported c.in-Err.ensures.fault same left
