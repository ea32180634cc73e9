use Rattle.rbac_judge.proofs.BatchLemmas.{of_parts}
use Rattle.rbac_judge.proofs.batch.with_value.Goals as goal

pub returns : goal.returns
returns c = (
  _,
  c.in_ok-id.ensures.reads_back c.requires,
  rw (c.as_bytes.ensures.value, c.without_first.ensures) at (of_parts _ _ _ _ _ _ _ _ c.new-line.ensures.items
      c.in_ok-extend_from_slice.ensures.items c.in_ok-extend_from_slice-2.ensures.items
      c.in_ok-extend_from_slice-3.ensures.items c.in_ok-extend_from_slice-4.ensures.items),
)
