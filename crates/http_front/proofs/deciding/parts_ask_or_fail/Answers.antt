use Rattle.std.proofs.Common.{◌≤◌, arith, inr, length}
use Rattle.attributes.specs.Conn.{conn_view}
use Rattle.httparse.specs.Grammar.{print_request}
use Rattle.http_front.specs.Head.{head_room}
use Rattle.http_front.specs.Parts.{parts_view}
use Rattle.http_front.specs.private.Parts.{head_in}
use Rattle.http_front.proofs.AskOrFail.{spelled_or_fail}
use Rattle.http_front.proofs.Spelling.{spelling_fault}
use Rattle.http_front.proofs.deciding.parts_ask_or_fail.Goals as goal

pub returns-in-Ok : goal.returns-in-Ok
returns-in-Ok c =
    let facts = conn_view c.args.conn.now in
    let found = c.in-Ok.ensures.found in
    let room : length (print_request (head_in c.of-head.result)) ≤ head_room = omega (arith, found.1, found.2) in
    spelled_or_fail (parts_view c.args.parts.now) c.args.limits.now facts (head_in c.of-head.result) c.of-head.ensures
    found.0 room c.refusal-refused.result c.refusal-refused.ensures.sound (c.refusal-refused.ensures.fault facts)

pub returns-in-Err : goal.returns-in-Err
returns-in-Err c =
    inr (
      c.in-Err.field-0,
      spelling_fault (parts_view c.args.parts.now) c.args.limits.now (conn_view c.args.conn.now)
          c.in-Err.field-0 (rw c.of-head.ensures at c.in-Err.ensures.fault),
    )
