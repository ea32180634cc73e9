-- None is put into the place.
use Rattle.std.proofs.Common.{None, ap, option_map, refl}
use Rattle.serve_observe.proofs.Numbers.{numbers_set}
use Rattle.serve_observe.specs.declared.connections.Connection.{Connection}
use Rattle.serve_observe.proofs.connections.Connections.close.Goals as goal

pub returns-clause-place : goal.returns-clause-place
returns-clause-place c =
    let items = c.args.self.now.places.items in
    λ _. numbers_set items items c.args.k c.replace.new.dest None refl
    (ap (option_map (λ (x : Connection). x.number)) c.replace.ensures.after)
