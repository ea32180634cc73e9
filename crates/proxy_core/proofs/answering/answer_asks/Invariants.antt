use Rattle.ads.specs.Ends.{client_view}
use Rattle.http_front.specs.Heads.{size_of_kept}
use Rattle.proxy_core.proofs.AnsweredAsks.{AnsweredSoFar}
use Rattle.proxy_core.proofs.answering.answer_asks.Given as goal

abbrev pub invariant-loop-answered_asks : goal.invariant-loop-answered_asks
invariant-loop-answered_asks l = AnsweredSoFar l.fn.front l.fn.bytes (client_view l.client).accepted l.front l.out.items l.answered_asks.items

abbrev pub decreases-loop-answered_asks : goal.decreases-loop-answered_asks
decreases-loop-answered_asks l = size_of_kept l.front.kept
