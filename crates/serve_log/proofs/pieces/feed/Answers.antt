use Rattle.std.proofs.Common.{◌≡◌, ◌≢◌, ◌++◌, ◌∷◌, [], arith, refl, take}
use Rattle.std.proofs.lemmas.Grind.{common_steps}
use Rattle.proxy_core.specs.Events.{ads_bytes}
use Rattle.serve_log.proofs.OpenLemmas.{adds_all_none}
use Rattle.serve_log.proofs.PieceLemmas.{feeds_more, piece_smaller, pieces_more}
use Rattle.serve_log.proofs.pieces.feed.Goals as goal

pub pieces-init : goal.pieces-init
pieces-init g c = ([], refl, adds_all_none g.W.Write.contents c.args.files.now)

pub pieces-preserved : goal.pieces-preserved
pieces-preserved g c =
    let (pieces, are, adds) = c.pieces.invariant in
    let some : c.pieces.rest.now ≢ [] = grind (arith, common_steps) in
    let piece = take 65536 c.pieces.rest.now in (
      pieces ++ piece ∷ [],
      rw c.first_piece.ensures.1 (pieces_more c.args.bytes.now pieces c.pieces.rest.now are some),
      feeds_more g.W.Write.contents c.args.files.now c.pieces.files _ pieces piece adds
          (c.add_to_all.ensures (ads_bytes piece) (rw c.first_piece.ensures.0 at c.fed_line.ensures)),
    )

pub pieces-smaller : goal.pieces-smaller
pieces-smaller g c =
    let some : c.pieces.rest.now ≢ [] = grind (arith, common_steps) in
    piece_smaller c.pieces.rest.now _ c.first_piece.ensures.1 some

pub returns : goal.returns
returns g c =
    let (pieces, are, adds) = c.pieces.invariant in
    let none : c.pieces.rest.now ≡ [] = grind (arith, common_steps) in
    (pieces, (rw none at are), adds)
