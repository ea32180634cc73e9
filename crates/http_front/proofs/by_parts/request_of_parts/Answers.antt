use Rattle.std.proofs.Common.{◌≤◌, arith, length}
use Rattle.std.proofs.lemmas.Result.{IfErr-weaker, IfOk-weaker}
use Rattle.attributes.specs.Conn.{conn_view}
use Rattle.httparse.specs.Grammar.{print_request}
use Rattle.http_front.specs.Head.{head_room}
use Rattle.http_front.specs.Parts.{parts_view}
use Rattle.http_front.specs.private.Parts.{head_in}
use Rattle.http_front.proofs.SpelledAsks.{parts_asked, parts_outside, parts_refused}
use Rattle.http_front.proofs.Spelling.{spelling_fault}
use Rattle.http_front.proofs.by_parts.request_of_parts.Goals as goal

pub returns-in-Err-clause-fault : goal.returns-in-Err-clause-fault
returns-in-Err-clause-fault c =
    spelling_fault (parts_view c.args.parts.now) c.args.limits.now (conn_view c.args.conn) c.in-Err.fault
    (rw c.of-head.ensures at c.in-Err.ensures.fault)

pub returns-in-Some-clause-fault : goal.returns-in-Some-clause-fault
returns-in-Some-clause-fault c =
    let facts = conn_view c.args.conn in
    let found = c.in-Ok.ensures.found in
    let room : length (print_request (head_in c.of-head.result)) ≤ head_room = omega (arith, found.1, found.2) in
    parts_refused (parts_view c.args.parts.now) c.args.limits.now facts (head_in c.of-head.result) c.of-head.ensures
    found.0 room c.in-Some.fault (c.in-Some.ensures.fault facts)

pub returns-clause-request : goal.returns-clause-request
returns-clause-request c =
    let facts = conn_view c.args.conn in
    let found = c.in-Ok.ensures.found in
    let room : length (print_request (head_in c.of-head.result)) ≤ head_room = omega (arith, found.1, found.2) in
    let made = rw c.in_ok-new.ensures.ok at c.in_ok-request.ensures in
    IfOk-weaker c.within.result _ _
    (λ r is. parts_asked (parts_view c.args.parts.now) c.args.limits.now facts (head_in c.of-head.result) c.of-head.ensures
    found.0 room c.in_ok-request.request made r
    c.in_default.ensures.sound is)
    c.within.ensures.found

pub returns-clause-fault : goal.returns-clause-fault
returns-clause-fault c =
    let facts = conn_view c.args.conn in
    let found = c.in-Ok.ensures.found in
    let room : length (print_request (head_in c.of-head.result)) ≤ head_room = omega (arith, found.1, found.2) in
    let made = rw c.in_ok-new.ensures.ok at c.in_ok-request.ensures in
    IfErr-weaker c.within.result _ _
    (λ fault is. parts_outside (parts_view c.args.parts.now) c.args.limits.now facts (head_in c.of-head.result)
    c.of-head.ensures found.0 room c.in_ok-request.request made fault
    is)
    c.within.ensures.fault
