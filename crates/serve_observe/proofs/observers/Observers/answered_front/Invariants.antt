-- What records the requests of the answers that are left completes those of all.
use Rattle.std.proofs.Common.{◌≡◌, drop, is_some}
use Rattle.std.specs.Prelude.{IfSome}
use Rattle.serve_observe.specs.Recording.{Numbered, RecordsClients}
use Rattle.serve_observe.proofs.observers.Observers.answered_front.Given as goal

abbrev pub invariant-loop-answer : goal.invariant-loop-answer
invariant-loop-answer g l =
    let contents = g.F.File.Write.contents in
    (is_some l.self.logs.recorder ≡ is_some l.fn.self.logs.recorder)
    × IfSome l.fn.self.logs.recorder (λ old. IfSome l.self.logs.recorder (λ mid.
    (new : Numbered _)
    → RecordsClients contents l.fn.k (drop l.answer-index l.answer-items)
    (l.self.connections.next, (mid.connections.items, mid.open_files)) new
    → RecordsClients contents l.fn.k l.answer-items
    (l.fn.self.connections.next, (old.connections.items, old.open_files)) new))
