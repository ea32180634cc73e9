-- One line more, which is empty or not.
use Rattle.serve_host.proofs.PieceLemmas.{last_line, line_within, next_line}
use Rattle.serve_host.proofs.piece.piece.Goals as goal

pub returns-then-is_empty_line-clause-value : goal.returns-then-is_empty_line-clause-value
returns-then-is_empty_line-clause-value c = last_line c.args.bytes.now c.loop-start.start c.first_line-line.result.now c.is_empty_line.result c.loop-start-test.true
    c.first_line-line.ensures c.is_empty_line.ensures c.loop-start.invariant.1 c.if-is_empty_line.true

pub loop-start-preserved : goal.loop-start-preserved
loop-start-preserved c = (
  line_within c.args.bytes.now c.loop-start.start c.first_line-line.result.now c.is_empty_line.result c.loop-start-test.true
      c.first_line-line.ensures c.is_empty_line.ensures c.loop-start.invariant.1,
  next_line c.args.bytes.now c.loop-start.start c.first_line-line.result.now c.is_empty_line.result c.loop-start-test.true
      c.first_line-line.ensures c.is_empty_line.ensures c.loop-start.invariant.1 c.if-is_empty_line.false,
)

pub returns-then-is_empty_line-clause-within : goal.returns-then-is_empty_line-clause-within
returns-then-is_empty_line-clause-within c = line_within c.args.bytes.now c.loop-start.start c.first_line-line.result.now c.is_empty_line.result c.loop-start-test.true
    c.first_line-line.ensures c.is_empty_line.ensures c.loop-start.invariant.1
