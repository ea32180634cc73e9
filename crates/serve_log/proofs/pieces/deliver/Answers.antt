use Rattle.std.proofs.Common.{◌≡◌, ◌≢◌, ◌++◌, ◌∷◌, ◌∙◌, [], arith, inl, inr, refl, sym, take}
use Rattle.std.proofs.lemmas.Grind.{common_steps}
use Rattle.proxy_core.specs.Events.{http_bytes}
use Rattle.serve_log.proofs.OpenLemmas.{adds_one_none}
use Rattle.serve_log.proofs.PieceLemmas.{delivers_more, piece_smaller, pieces_more}
use Rattle.serve_log.proofs.pieces.deliver.Goals as goal

pub pieces-init : goal.pieces-init
pieces-init g c =
    ([], refl, adds_one_none g.W.Write.contents c.args.connection.now.file c.args.files.now, λ none. inl refl)

pub pieces-preserved : goal.pieces-preserved
pieces-preserved g c =
    let connection = c.args.connection.now in
    let (pieces, are, adds, out) = c.pieces.invariant in
    let some : c.pieces.rest.now ≢ [] = grind (arith, common_steps) in
    let piece = take 65536 c.pieces.rest.now in (
      pieces ++ piece ∷ [],
      rw c.first_piece.ensures.1 (pieces_more c.args.bytes.now pieces c.pieces.rest.now are some),
      delivers_more g.W.Write.contents c.args.files.now c.pieces.files _ pieces piece connection.file connection.number adds
          (c.add-line.ensures.takes (http_bytes connection.number piece) (rw c.first_piece.ensures.0 at c.received_line-text.ensures)),
      λ none. inr (c.add-line.ensures.out none),
    )

pub pieces-preserved-in-pieces : goal.pieces-preserved-in-pieces
pieces-preserved-in-pieces g c =
    let connection = c.args.connection.now in
    let (pieces, are, adds, out) = c.pieces.invariant in
    let some : c.pieces.rest.now ≢ [] = grind (arith, common_steps) in
    let piece = take 65536 c.pieces.rest.now in (
      pieces ++ piece ∷ [],
      rw c.first_piece.ensures.1 (pieces_more c.args.bytes.now pieces c.pieces.rest.now are some),
      delivers_more g.W.Write.contents c.args.files.now c.pieces.files _ pieces piece connection.file connection.number adds
          (c.add-line.ensures.takes (http_bytes connection.number piece) (rw c.first_piece.ensures.0 at c.received_line-text.ensures)),
      λ none. inr (c.add-line.ensures.out none),
    )

pub pieces-smaller : goal.pieces-smaller
pieces-smaller g c =
    let some : c.pieces.rest.now ≢ [] = grind (arith, common_steps) in
    piece_smaller c.pieces.rest.now _ c.first_piece.ensures.1 some

pub pieces-smaller-in-pieces : goal.pieces-smaller-in-pieces
pieces-smaller-in-pieces g c =
    let some : c.pieces.rest.now ≢ [] = grind (arith, common_steps) in
    piece_smaller c.pieces.rest.now _ c.first_piece.ensures.1 some

pub returns-clause-delivers : goal.returns-clause-delivers
returns-clause-delivers g c =
    let (pieces, are, adds, out) = c.pieces.invariant in
    let none : c.pieces.rest.now ≡ [] = grind (arith, common_steps) in
    (pieces, (rw none at are), adds)

pub returns-clause-out : goal.returns-clause-out
returns-clause-out g c = λ lost.
    let (pieces, are, adds, out) = c.pieces.invariant in
    let none : c.pieces.rest.now ≡ [] = grind (arith, common_steps) in
    elim (out lost) [ inl same ↦ inl (sym same ∙ none) | inr gone ↦ inr gone ]
