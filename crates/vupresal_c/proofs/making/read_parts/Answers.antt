use Rattle.std.proofs.Common.{◌≡◌, Some, inr, subst, sym}
use Rattle.attributes.specs.Conn.{conn_view}
use Rattle.attributes.specs.Limits.{largest}
use Rattle.c_inputs.specs.Requests.{parts_given, protocol_given}
use Rattle.http_front.specs.Parts.{PartsFault, PartsValue}
use Rattle.vupresal_c.proofs.Inputs.{parts_are}
use Rattle.vupresal_c.proofs.making.read_parts.Goals as goal

pub returns-in-Err-clause-fault : goal.returns-in-Err-clause-fault
returns-in-Err-clause-fault c =
    let given : protocol_given c.args.request.now ≡ Some c.in-Some.protocol = sym (rw c.in-Some.is at c.given_protocol.ensures) in
    let why : PartsFault (parts_given c.args.request.now) largest (conn_view c.args.conn.now) c.in-Err.fault
    = subst (λ (ps : PartsValue). PartsFault ps largest (conn_view c.args.conn.now) c.in-Err.fault)
    (parts_are c.args.request.now c.in-Some.protocol given)
    (rw (c.largest.ensures, c.in_ok-copy.ensures.same, c.in-Err.is) at c.in_ok-request.ensures.fault) in
    inr why
