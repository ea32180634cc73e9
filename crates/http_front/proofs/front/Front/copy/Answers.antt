-- The copy has the same facts, and shares them as the front does.
use Rattle.std.proofs.Common.{◌≡◌, ◌≤◌, drop, rules}
use Rattle.std.specs.Prelude.{vec_len}
use Rattle.attributes.specs.Conn.{conn_view}
use Rattle.http_front.proofs.Turning.{all_behind}
use Rattle.http_front.proofs.front.Front.copy.Goals as goal

pub invariant_of-result : goal.invariant_of-result
invariant_of-result c =
    let small : 0 ≤ vec_len c.in_ok-from_slice.field-0 = search rules in
    let items : c.in_ok-from_slice.field-0.items ≡ drop c.self.inside.at c.self.inside.bytes.items =
    rw (c.deref.ensures.value, all_behind) at c.in_ok-from_slice.ensures.items in (
      small,
      rw items c.self.invariant.1,
      rw c.in_ok-copy.ensures.same
          (c.in_ok-copy_shared.ensures (conn_view c.self.inside.conn) c.self.invariant.2),
    )
