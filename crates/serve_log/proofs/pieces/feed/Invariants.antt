-- The pieces before the rest were added.
use Rattle.std.proofs.Common.{ℕ, List, length, map}
use Rattle.proxy_core.specs.Events.{ads_bytes}
use Rattle.serve_log.specs.Files.{AddsToAll}
use Rattle.serve_log.specs.Recording.{PiecesThen}
use Rattle.serve_log.proofs.pieces.feed.Given as goal

abbrev pub invariant-pieces : goal.invariant-pieces
invariant-pieces g l =
    (pieces : List (List ℕ)) × PiecesThen l.bytes pieces l.rest
    × AddsToAll g.W.Write.contents (map ads_bytes pieces) l.fn.files l.files

abbrev pub decreases-pieces : goal.decreases-pieces
decreases-pieces g l = length l.rest
