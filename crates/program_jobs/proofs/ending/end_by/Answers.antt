use Rattle.std.proofs.Common.{inl, inr, refl}
use Rattle.std.proofs.lemmas.Bool.{false≢true}
use Rattle.program_jobs.specs.Jobs.{IsShown}
use Rattle.program_jobs.specs.declared.job_fault.JobFault.TheVariants as faults
use Rattle.program_jobs.proofs.ending.end_by.Goals as goal

pub returns-in_default : goal.returns-in_default
returns-in_default g c = (faults.Memory, inr refl, c.end_by_memory.ensures)

pub returns-in-Memory : goal.returns-in-Memory
returns-in-Memory g c = (faults.Memory, inr refl, c.end_by_memory-in-Memory.ensures)

pub returns-in-Words : goal.returns-in-Words
returns-in-Words g c =
    let shown = rw c.kind.ensures at (c.is_shown.ensures.0 c.if-is_shown.true) in
    (c.args.fault.now, inl refl, rw c.in-Words.is (inl (shown, (_, c.show.ensures))))

pub returns-in-Facts : goal.returns-in-Facts
returns-in-Facts g c =
    let starts = rw c.in-Ok.is at c.text_of.ensures in
    let reported = rw c.as_bytes-in-Facts.ensures.value at c.write_error-in-Facts.ensures.reported in
    elim c.in-Facts.is [
      | inl is ↦ (c.args.fault.now, inl refl, rw is (c.write_error-in-Facts.ensures.status, refl, (_, rw is at starts, reported)))
      | inr is ↦ (c.args.fault.now, inl refl, rw is (c.write_error-in-Facts.ensures.status, refl, (_, rw is at starts, reported)))
    ]

pub returns-in-Words-2 : goal.returns-in-Words-2
returns-in-Words-2 g c =
    let starts = rw (c.in-Ok.is, c.in-Words-2.is) at c.text_of.ensures in
    let reported = rw c.as_bytes-in-Words-2.ensures.value at c.write_error.ensures.reported in
    let never : IsShown c.kind.result → ⊥ =
    λ shown. false≢true (rw c.if-is_shown.false at (c.is_shown.ensures.1 shown)) in
    let hidden = rw c.kind.ensures at never in
    (c.args.fault.now, inl refl, rw c.in-Words.is (inr (hidden, (c.write_error.ensures.status, refl, (_, starts, reported)))))

pub returns-in-File : goal.returns-in-File
returns-in-File g c =
    let starts = rw (c.in-Ok.is, c.in-File.is) at c.text_of.ensures in
    let reported = rw c.as_bytes-in-File.ensures.value at c.write_error-in-File.ensures.reported in
    (c.args.fault.now, inl refl, rw c.in-File.is (c.write_error-in-File.ensures.status, refl, (_, starts, reported)))

pub returns-in-Input : goal.returns-in-Input
returns-in-Input g c =
    let starts = rw (c.in-Ok.is, c.in-Input.is) at c.text_of.ensures in
    let reported = rw c.as_bytes-in-Input.ensures.value at c.write_error-in-Input.ensures.reported in
    (c.args.fault.now, inl refl, rw c.in-Input.is (c.write_error-in-Input.ensures.status, refl, (_, starts, reported)))

pub returns-in-Log : goal.returns-in-Log
returns-in-Log g c =
    let starts = rw (c.in-Ok.is, c.in-Log.is) at c.text_of.ensures in
    let reported = rw c.as_bytes-in-Log.ensures.value at c.write_error-in-Log.ensures.reported in
    (c.args.fault.now, inl refl, rw c.in-Log.is (c.write_error-in-Log.ensures.status, refl, (_, starts, reported)))

pub returns : goal.returns
returns g c =
    let starts = rw (c.in-Ok.is, c.in-Listen.is) at c.text_of.ensures in
    let reported = rw c.as_bytes-in-Listen.ensures.value at c.write_error-in-Listen.ensures.reported in
    (c.args.fault.now, inl refl, rw c.in-Listen.is (c.write_error-in-Listen.ensures.status, refl, (_, starts, reported)))
