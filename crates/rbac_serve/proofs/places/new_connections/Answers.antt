use Rattle.std.proofs.Common.{◌≡◌, ◌∙◌, length, ap, arith}
use Rattle.rbac_serve.specs.private.ConnectionStates.{free_connections}
use Rattle.rbac_serve.proofs.PlaceLemmas.{free_grows}
use Rattle.rbac_serve.proofs.places.new_connections.Goals as goal

pub adding-preserved : goal.adding-preserved
adding-preserved c =
    let many = c.len.ensures in
    let one = c.in_ok-push.ensures.len in (
      omega arith,
      free_grows c.adding.connections.items c.push.new.self.items c.new_connection.result c.adding.invariant.1 c.new_connection.ensures
          c.in_ok-push.ensures.items,
    )

pub returns : goal.returns
returns c =
    let many = c.len.ensures in
    let all : length c.adding.connections.items ≡ c.args.places = omega (arith, c.adding-test.false, c.adding.invariant.0) in
    c.adding.invariant.1 ∙ ap free_connections all
