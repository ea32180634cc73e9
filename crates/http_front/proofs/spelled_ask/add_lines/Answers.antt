use Rattle.std.proofs.lemmas.List.{take_all}
use Rattle.http_front.proofs.SpelledAsks.{framed_more}
use Rattle.http_front.proofs.spelled_ask.add_lines.Goals as goal

pub loop-line-preserved : goal.loop-line-preserved
loop-line-preserved c before is =
    framed_more before c.args.lines.now c.loop-line.line-index _ c.head_name.result.now c.head_value.result.now
    c.add.new.self c.loop-line-test.true c.head_name.ensures c.head_value.ensures
    (c.add.ensures _ (c.loop-line.invariant before is))

pub returns : goal.returns
returns c before is =
    let all = take_all c.loop-line.line-index c.args.lines.now c.loop-line-test.false in
    rw all at (c.loop-line.invariant before is)
