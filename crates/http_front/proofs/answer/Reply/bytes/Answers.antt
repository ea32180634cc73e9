use Rattle.std.proofs.Common.{◌∙◌, ap}
use Rattle.std.proofs.lemmas.Result.{MatchResult-weaker}
use Rattle.http_front.specs.Answer.{RowValue, answer_by, reply_view}
use Rattle.http_front.proofs.answer.Reply.bytes.Goals as goal

pub returns : goal.returns
returns c =
    MatchResult-weaker c.answer.result c.answer.ensures
    (λ bytes is. is ∙ ap (λ (r : RowValue). answer_by r (reply_view c.args.self.now)) c.row-row.ensures)
    (λ e h. h)
