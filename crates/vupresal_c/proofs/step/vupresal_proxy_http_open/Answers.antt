use Rattle.std.proofs.Common.{◌≡◌, arith, to_z, of_z, to_z-of_z, w32}
use Rattle.vupresal_c.proofs.step.vupresal_proxy_http_open.Goals as goal

pub returns : goal.returns
returns c =
    let same : to_z w32 (of_z w32 c.open_in-status.result) ≡ c.open_in-status.result = grind (arith, to_z-of_z) in
    rw (same, c.in-Some.ensures.taken, c.put.ensures) (rw (c.deref_mut.ensures.value, c.deref_mut.ensures.writes_back) at c.open_in-status.ensures)
