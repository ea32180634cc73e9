use Rattle.rbac_match.proofs.Substrings.{starts_folded}
use Rattle.rbac_match.proofs.text.starts_with_ignore_case.Goals as goal

pub returns-then-start-text : goal.returns-then-start-text
returns-then-start-text c =
    starts_folded c.args.text.now c.args.start.now c.eq_ignore_ascii_case.result
    c.eq_ignore_ascii_case.ensures.test
