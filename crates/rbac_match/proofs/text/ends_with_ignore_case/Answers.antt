use Rattle.rbac_match.proofs.Substrings.{ends_folded}
use Rattle.rbac_match.proofs.text.ends_with_ignore_case.Goals as goal

pub returns-then-end-text : goal.returns-then-end-text
returns-then-end-text c =
    ends_folded c.args.text.now c.args.end.now c.eq_ignore_ascii_case.result c.if-end-text.true
    c.eq_ignore_ascii_case.ensures.test
