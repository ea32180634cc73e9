-- The pieces before the rest were added.
use Rattle.std.proofs.Common.{◌≡◌, ◌⊎◌, IsNone, ℕ, List, length, map}
use Rattle.proxy_core.specs.Events.{http_bytes}
use Rattle.serve_log.specs.Files.{AddsToOne, files_of}
use Rattle.serve_log.specs.Recording.{IsOut, PiecesThen}
use Rattle.serve_log.proofs.pieces.deliver.Given as goal

abbrev pub invariant-pieces : goal.invariant-pieces
invariant-pieces g l =
    (pieces : List (List ℕ)) × PiecesThen l.bytes pieces l.rest
    × AddsToOne g.W.Write.contents l.connection.file (map (http_bytes l.connection.number) pieces) l.fn.files l.files
    × (IsNone l.line → (l.rest ≡ l.bytes) ⊎ IsOut l.connection.file (files_of l.files))

abbrev pub decreases-pieces : goal.decreases-pieces
decreases-pieces g l = length l.rest
