-- One connection more.
use Rattle.std.proofs.Common.{◌∙◌, arith, map, take}
use Rattle.std.proofs.lemmas.List.{length-map, length-take-le}
use Rattle.serve_loop.specs.Idle.{idle_since}
use Rattle.serve_loop.proofs.IdleTimes.{least_more}
use Rattle.serve_loop.proofs.idle.longest_idle.Goals as goal

pub loop-k-preserved : goal.loop-k-preserved
loop-k-preserved c =
    let connections = c.args.connections.now in
    let k = c.loop-k.k in
    let known = length-take-le k connections (omega (arith, c.loop-k-test.true)) in
    let least = c.earlier-found.ensures (map idle_since (take k connections)) (length-map (take k connections) idle_since ∙ known)
    c.loop-k.invariant in
    least_more connections k _ c.idle_since.result c.loop-k-test.true c.idle_since.ensures c.earlier-found.result least
