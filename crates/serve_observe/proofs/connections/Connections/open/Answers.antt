-- The connection with the next number is put into the place.
use Rattle.std.proofs.Common.{Some, ap}
use Rattle.serve_observe.proofs.Numbers.{numbers_set}
use Rattle.serve_observe.proofs.connections.Connections.open.Goals as goal

pub returns-then-k-len-clause-place : goal.returns-then-k-len-clause-place
returns-then-k-len-clause-place c =
    let made = c.number-connection in
    λ _. numbers_set c.args.self.now.places.items made.new.self.places.items c.args.k (Some made.result)
    (Some c.args.self.now.next) (ap (λ v. v.items) made.ensures.next.1) (ap Some made.ensures.number.0)
