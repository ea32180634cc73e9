use Rattle.std.proofs.Common.{◌∙◌, subst, sym}
use Rattle.serve_observe.specs.Recording.{RecordsClients}
use Rattle.serve_observe.proofs.RecordLemmas.{one_left, two_steps}
use Rattle.serve_observe.proofs.observers.Observers.answered_front.Goals as goal

pub loop-answer-preserved : goal.loop-answer-preserved
loop-answer-preserved g c =
    let contents = g.F.File.Write.contents in
    let before = c.loop-answer.self in
    let after = c.answered_request.new.self in
    let left = one_left c.answers-answer-items.result.now c.loop-answer.answer-index c.answer-item.result
    c.loop-answer-test.true c.answer-item.is in (
      c.answered_request.ensures.same ∙ c.loop-answer.invariant.0,
      two_steps c.args.self.now.logs.recorder before.logs.recorder after.logs.recorder _ _ _ c.loop-answer.invariant.0
          c.loop-answer.invariant.1 c.answered_request.ensures.records
          (λ old mid last one two new rest. one new (subst (λ l. RecordsClients contents c.args.k l
          (before.connections.next, (mid.connections.items, mid.open_files)) new) (sym left)
          ((after.connections.next, (last.connections.items, last.open_files)), two, rest))),
    )
