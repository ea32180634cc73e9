use Rattle.std.proofs.lemmas.Result.{IfOk-weaker}
use Rattle.attributes.specs.Headers.{lines_view}
use Rattle.http_front.proofs.HeadLines.{lines_of_room, some_lines}
use Rattle.http_front.proofs.lines.lines_at.Goals as goal

pub returns-then-is_some : goal.returns-then-is_some
returns-then-is_some c =
    some_lines (λ lines. lines_view lines.items) c.in_ok-found.found c.likely_end.result c.args.bytes.now
    c.if-is_some.ensures c.in_ok-found.ensures

pub returns : goal.returns
returns c =
    IfOk-weaker c.lines_of_first-2.result _ _
    (λ found is. lines_of_room c.args.bytes.now c.min.result _ c.min.ensures is)
    c.lines_of_first-2.ensures
