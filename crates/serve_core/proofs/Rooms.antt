-- How many bytes a worker takes.
use Rattle.std.proofs.Common.{ℕ, Bool, true, false, ◌==◌, ◌^◌, ◌-◌, ◌≤◌, min, arith, if◌then◌else◌}
use Rattle.std.proofs.Math.Nat.{le_refl, le_trans, min-le_right}
use Rattle.rbac_serve.specs.Tables.{WorkerValue, body_at}
use Rattle.proxy_core.specs.Step.{front_at}
use Rattle.serve_loop.specs.History.{Fits, accepted, closed, connected, drain, received}
use Rattle.serve_loop.specs.declared.stream.Stream.TheVariants.{Place, Updates}
use Rattle.serve_core.specs.Turns.{ServerEvent, bytes_taken, room_for, worker_room}

-- either way no more than this
either_most : (b : Bool) (x y most : ℕ) → x ≤ most → y ≤ most → (if b then x else y) ≤ most
either_most true x y most one other = one
either_most false x y most one other = other

-- never more than a read can give
taken_most : (left : ℕ) → bytes_taken left ≤ 2 ^ 64 - 1
taken_most left =
    either_most (left == 0) (2 ^ 64 - 1) (min left 16383) (2 ^ 64 - 1) (le_refl (2 ^ 64 - 1))
    (le_trans (min-le_right left 16383) (omega arith))

-- what a worker takes, a step of it takes
pub fits_more : (w : WorkerValue) (n : ℕ) (event : ServerEvent) → Fits (worker_room w n) event → Fits (λ s. room_for s n) event
fits_more w n (received (Place k) bytes) fits = (fits.0, le_trans fits.1 (taken_most (body_at (front_at w.core k))))
fits_more w n (received Updates bytes) fits = fits
fits_more w n (accepted k conn) fits = fits
fits_more w n connected fits = fits
fits_more w n (closed s) fits = fits
fits_more w n drain fits = fits
