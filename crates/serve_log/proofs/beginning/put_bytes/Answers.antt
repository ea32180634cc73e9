use Rattle.std.proofs.Common.{◌≡◌, ◌≢◌, ◌∙◌, [], arith, refl}
use Rattle.std.proofs.lemmas.Grind.{common_steps}
use Rattle.proxy_core.specs.Events.{ads_bytes}
use Rattle.serve_log.proofs.BeginningLemmas.{bytes_none, bytes_whole, put_all, put_more}
use Rattle.serve_log.proofs.PieceLemmas.{piece_smaller}
use Rattle.serve_log.proofs.beginning.put_bytes.Goals as goal

pub pieces-init : goal.pieces-init
pieces-init g c = λ whole. ([], refl, bytes_none g.W.Write.contents c.args.file.now)

pub pieces-preserved : goal.pieces-preserved
pieces-preserved g c = λ whole.
    let (done, are, so_far) = c.pieces.invariant whole in
    put_more g.W.Write.contents c.args.bytes.now done c.pieces.rest.now _ _ c.args.file.now c.pieces.file _ are so_far
    c.first_piece.ensures.0 c.first_piece.ensures.1
    (c.in_ok-put.ensures (ads_bytes _) (c.as_str.ensures.value ∙ c.in_ok-fed_line.ensures)
    (bytes_whole g.W.Write.contents done c.args.file.now c.pieces.file so_far whole))

pub pieces-smaller : goal.pieces-smaller
pieces-smaller g c =
    let some : c.pieces.rest.now ≢ [] = grind (arith, common_steps) in
    piece_smaller c.pieces.rest.now _ c.first_piece.ensures.1 some

pub returns : goal.returns
returns g c = λ whole.
    let (done, are, so_far) = c.pieces.invariant whole in
    let none : c.pieces.rest.now ≡ [] = grind (arith, common_steps) in
    put_all g.W.Write.contents c.args.bytes.now done c.pieces.rest.now c.args.file.now c.pieces.file are none so_far
