use Rattle.std.proofs.Common.{sym}
use Rattle.attributes.specs.Headers.{lines_view}
use Rattle.head_map.specs.private.Client.{client_view}
use Rattle.head_map.specs.private.FieldClaims.{claim_of}
use Rattle.head_map.proofs.ClaimLemmas.{claimed_more}
use Rattle.head_map.proofs.client.Client.put_all.Goals as goal

pub returns-in-Err : goal.returns-in-Err
returns-in-Err c =
    (c.loop-one.one-index, c.one-item.result, c.loop-one-test.true, sym c.one-item.is, c.in-Err.ensures)

pub loop-one-preserved : goal.loop-one-preserved
loop-one-preserved c =
    claimed_more (lines_view c.args.lines.now) c.args.named.now c.loop-one.one-index (client_view c.args.self.now)
    (client_view c.loop-one.self) (client_view c.put.new.self) c.one-item.result (claim_of c.in-Ok.claim)
    c.loop-one-test.true c.one-item.is c.loop-one.invariant c.in-Ok.ensures c.in_ok-put-in-Ok.ensures
