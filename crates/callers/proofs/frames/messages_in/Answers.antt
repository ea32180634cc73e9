use Rattle.std.proofs.Common.{◌+◌, inl, inr}
use Rattle.std.proofs.lemmas.List.{take_all}
use Rattle.std.proofs.lemmas.Result.{err_from_is_err_and}
use Rattle.callers.proofs.CutPieces.{breaks, one_more, unbroken}
use Rattle.callers.proofs.frames.messages_in.Goals as goal

pub returns-in_err-feed-clause-fault : goal.returns-in_err-feed-clause-fault
returns-in_err-feed-clause-fault c =
    let p = err_from_is_err_and c.from_residual.result c.from_residual.ensures.1 in
    let so_far = c.loop-piece.invariant in
    rw (p.1, p.2) (elim c.in_err-feed.ensures.fault [
      | inl memory ↦ inl memory.0
      | inr fed ↦
          let more = one_more c.args.pieces.now c.args.most c.loop-piece.piece-index _ c.loop-piece-test.true
          c.loop-piece.frames c.feed.new.self c.loop-piece.messages.items so_far.0 so_far.1 so_far.3 fed.0 in
          let broken = breaks _ c.args.most _ c.feed.new.self.tail c.in_err-feed.field-0.0 fed.1 more.0 in
          inr (c.loop-piece.piece-index + 1, _, broken.0, broken.1, broken.2)
    ])

pub loop-piece-preserved : goal.loop-piece-preserved
loop-piece-preserved c =
    let so_far = c.loop-piece.invariant in
    let more = one_more c.args.pieces.now c.args.most c.loop-piece.piece-index _ c.loop-piece-test.true
    c.loop-piece.frames c.feed.new.self c.loop-piece.messages.items so_far.0 so_far.1 so_far.3
    c.in_ok-feed.ensures.found.0 in
    let taken = c.in_ok-take_messages.ensures.taken in
    let same = c.take_messages.ensures.same in
    rw (same.0, same.1, taken.1) (more.1, taken.0, c.in_ok-feed.ensures.found.1, more.0)

pub returns-clause-found : goal.returns-clause-found
returns-clause-found c =
    let so_far = c.loop-piece.invariant in
    unbroken _ c.args.most c.loop-piece.messages.items c.loop-piece.frames.tail so_far.2
    (rw (take_all c.loop-piece.piece-index c.args.pieces.now c.loop-piece-test.false) at so_far.3)
