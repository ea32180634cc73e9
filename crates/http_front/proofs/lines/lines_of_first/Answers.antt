use Rattle.std.proofs.Common.{take}
use Rattle.std.proofs.lemmas.Result.{IfOk-weaker}
use Rattle.http_front.proofs.HeadLines.{whole_lines}
use Rattle.http_front.proofs.lines.lines_of_first.Goals as goal

pub returns-in-Whole : goal.returns-in-Whole
returns-in-Whole c =
    IfOk-weaker c.lines_of_head.result _ _
    (λ found is. whole_lines (take c.args.count c.args.bytes.now) c.in-Whole.head c.in-Whole.field-1.now _
    (rw c.in-Whole.is at c.parse.ensures) is)
    c.lines_of_head.ensures
