use Rattle.std.proofs.Common.{sym, ◌∙◌}
use Rattle.cel_value.proofs.Spending.{text_length_fact}
use Rattle.cel_value.proofs.mass.text_length.Goals as goal

pub returns : goal.returns
returns c = c.len.ensures ∙ sym (text_length_fact c.args.text.now)
