use Rattle.attributes.specs.Conn.{conn_view}
use Rattle.program_texts.specs.declared.fact.Fact.{Fact}
use Rattle.serve_log.proofs.PutFacts.{put_next}
use Rattle.serve_log.proofs.facts.put_all.Goals as goal

pub loop-fact-preserved : goal.loop-fact-preserved
loop-fact-preserved c =
    put_next (conn_view c.args.conn.now) c.args.facts.now c.loop-fact.fact-index Fact.SourceAddress _ _ _
    c.loop-fact-test.true c.loop-fact.invariant c.in_ok-put_one.ensures
