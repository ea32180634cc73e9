use Rattle.std.proofs.Common.{◌≤◌, arith, length, sym}
use Rattle.std.proofs.lemmas.List.{drop_all, take_all}
use Rattle.serve_log.proofs.pieces.first_piece.Goals as goal

pub returns-then-bytes-le-MOST_PIECE : goal.returns-then-bytes-le-MOST_PIECE
returns-then-bytes-le-MOST_PIECE c =
    let bytes = c.args.bytes.now in
    let all : length bytes ≤ 65536 = omega arith in
    (sym (take_all 65536 bytes all), sym (drop_all 65536 bytes all))
