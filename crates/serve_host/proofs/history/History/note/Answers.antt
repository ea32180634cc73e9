-- One thing more happened.
use Rattle.std.proofs.Math.Logic.{∥∥₁_map}
use Rattle.attributes.specs.Conn.{conn_view}
use Rattle.serve_host.proofs.KnownLemmas.{known_noted}
use Rattle.serve_host.proofs.history.History.note.Goals as goal

pub invariant_of-self : goal.invariant_of-self
invariant_of-self c =
    let old = c.args.self.now in
    record {
      known = ∥∥₁_map old.known (λ known. rw c.then-self.ensures (known_noted (conn_view old.conn) old.trace.turns c.args.note.now
          c.requires known));
    }
