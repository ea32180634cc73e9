use Rattle.cel_value.proofs.Spending.{text_spent}
use Rattle.cel_value.proofs.mass.spend_text.Goals as goal

pub returns : goal.returns
returns c =
    text_spent c.args.left c.in_ok-checked_sub.field-0 c.len.result c.args.text.now
    c.checked_sub.result _ c.in_ok-checked_sub.was c.checked_sub.ensures c.len.ensures
    c.checked_sub-2.ensures
