use Rattle.std.proofs.Common.{inl, inr}
use Rattle.program_jobs.proofs.snapshots.response_snapshot.Goals as goal

pub returns-clause-fault : goal.returns-clause-fault
returns-clause-fault g c = elim c.in-Err.ensures.fault [
  | inl memory ↦ inl (c.stop_by_response.ensures.memory memory)
  | inr none ↦ elim c.stop_by_response.ensures.file [
    | inl memory ↦ inl memory
    | inr reported ↦ inr (inr (rw reported.1 (
      c.in_ok-from_str-in-Err.ensures.ok,
      (c.in_ok-bytes.bytes.items, c.in_ok-bytes.ensures.found, rw c.deref.ensures.value at none),
    )))
  ]
]
