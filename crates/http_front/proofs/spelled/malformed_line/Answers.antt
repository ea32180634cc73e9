use Rattle.std.proofs.lemmas.List.{take_all}
use Rattle.http_front.proofs.Spelling.{fields_more, line_malformed}
use Rattle.http_front.proofs.spelled.malformed_line.Goals as goal

pub loop-line-preserved : goal.loop-line-preserved
loop-line-preserved c =
    fields_more c.args.lines.now c.loop-line.line-index _ c.loop-line-test.true c.loop-line.invariant
    c.in_default.ensures.none

pub returns-in-Some-clause-part : goal.returns-in-Some-clause-part
returns-in-Some-clause-part c =
    line_malformed c.args.lines.now c.loop-line.line-index _ c.in-Some.part c.loop-line-test.true c.in-Some.ensures.part

pub returns-clause-none : goal.returns-clause-none
returns-clause-none c =
    let all = take_all c.loop-line.line-index c.args.lines.now c.loop-line-test.false in
    rw all at c.loop-line.invariant
