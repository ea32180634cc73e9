-- What was kept is given first.
use Rattle.serve_host.specs.Pieces.{piece_of}
use Rattle.std.proofs.Common.{length}
use Rattle.serve_host.proofs.Requests.{gave, never_none, piece_part, piece_some, some_bytes}
use Rattle.serve_host.proofs.request_reader.RequestReaderRead.read.Goals as goal

pub returns-clause-bytes : goal.returns-clause-bytes
returns-clause-bytes g c =
    let w = c.args.self.now.kept.waiting in
    let r = g.S.Read.remaining c.args.self.now.stream in
    let many = length (piece_of w) in
    let some = piece_some w (some_bytes w (λ e. (let h = c.if-is_empty.ensures.1 e in cc))) in
    rw (c.give.ensures.stream, c.give.ensures.left) (
      gave w r c.args.buf.now c.give.new.room c.give.result many some (piece_part w) c.give.ensures.count c.give.ensures.given,
      λ none left. absurd (never_none w r c.args.buf.now c.give.new.room c.give.result many some (piece_part w) c.give.ensures.count
          c.give.ensures.given none left),
    )
