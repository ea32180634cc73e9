use Rattle.std.proofs.Common.{take}
use Rattle.attributes.specs.Headers.{lines_view}
use Rattle.head_map.specs.private.Client.{IsClaimedBy, client_view}
use Rattle.head_map.proofs.client.Client.put_all.Given as goal

abbrev pub invariant-loop-one : goal.invariant-loop-one
invariant-loop-one l =
    IsClaimedBy (lines_view l.lines) (take l.one-index l.named) (client_view l.initial.self) (client_view l.self)
