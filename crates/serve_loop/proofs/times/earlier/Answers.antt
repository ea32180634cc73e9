-- The earliest of times, with one time more.
use Rattle.std.proofs.Common.{Some, arith}
use Rattle.serve_loop.specs.Earliest.{IsLeast}
use Rattle.serve_loop.proofs.LeastTimes.{least_new, least_old, least_still}
use Rattle.serve_loop.proofs.times.earlier.Goals as goal

pub returns-in_default : goal.returns-in_default
returns-in_default c = λ times is least. rw c.in_default.is (least_still times c.args.found least)

pub returns-then-time-least : goal.returns-then-time-least
returns-then-time-least c = λ times is least.
    let at = c.in-Some-found.at in
    let before = c.in-Some-found.least in
    let found : IsLeast times (Some (at, before)) = rw c.in-Some-found.is at least in
    rw (c.in-Some.is, ← is) (least_new times at before c.in-Some.time found c.if-time-least.true)

pub returns-else-time-least : goal.returns-else-time-least
returns-else-time-least c = λ times is least.
    let at = c.in-Some-found.at in
    let before = c.in-Some-found.least in
    let found : IsLeast times (Some (at, before)) = rw c.in-Some-found.is at least in
    rw c.in-Some.is (least_old times at before c.in-Some.time found (omega arith))
