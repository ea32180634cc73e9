-- One time more.
use Rattle.std.proofs.Common.{None, arith, take}
use Rattle.std.proofs.lemmas.List.{length-take-le, take_more}
use Rattle.serve_loop.proofs.times.earliest.Goals as goal

pub loop-k-preserved : goal.loop-k-preserved
loop-k-preserved c =
    let times = c.args.times.now in
    let k = c.loop-k.k in
    let known = length-take-le k times (omega (arith, c.loop-k-test.true)) in
    rw (take_more times k None c.loop-k-test.true) (c.earlier-found.ensures (take k times) known c.loop-k.invariant)
