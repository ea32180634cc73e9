-- What was added is the same as itself.
use Rattle.std.proofs.Common.{◌≡◌, length, rules, arith}
use Rattle.machine_code.proofs.Growing.{got_last}
use Rattle.machine_code.proofs.pool.Pool.number.Goals as goal

pub returns-clause-found : goal.returns-clause-found
returns-clause-found g c =
    let len : c.len-number.result ≡ length c.self.inside.items.items = search rules in
    (c.args.item, rw (c.in_ok-push.ensures.items, len) (got_last c.self.inside.items.items c.args.item), g.met.T.Part.same _)
