-- What was kept is given first.
use Rattle.std.proofs.Common.{length}
use Rattle.std.proofs.Math.Nat.{le_refl}
use Rattle.serve_host.proofs.Requests.{gave, never_none, some_bytes}
use Rattle.serve_host.proofs.request_reader.RequestReader.go_on.Goals as goal

pub returns-clause-bytes : goal.returns-clause-bytes
returns-clause-bytes g c =
    let w = c.args.self.now.kept.waiting in
    let r = g.S.Read.remaining c.args.self.now.stream in
    let some = some_bytes w (λ e. (let h = c.if-is_empty.ensures.1 e in cc)) in
    let part = le_refl (length w) in
    rw (c.give_all.ensures.stream, c.give_all.ensures.left) (
      gave w r c.args.room.now c.give_all.new.room c.give_all.result (length w) some part c.give_all.ensures.count c.give_all.ensures.given,
      λ none left. absurd (never_none w r c.args.room.now c.give_all.new.room c.give_all.result (length w) some part
          c.give_all.ensures.count c.give_all.ensures.given none left),
    )
