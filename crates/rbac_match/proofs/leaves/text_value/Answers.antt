use Rattle.rbac_match.specs.Text.{text_holds}
use Rattle.rbac_match.specs.private.Leaves.{text_in}
use Rattle.rbac_match.proofs.NeedLemmas.{only_value}
use Rattle.rbac_match.proofs.leaves.text_value.Goals as goal

pub returns-in-Some : goal.returns-in-Some
returns-in-Some c = λ r passes.
    rw (c.from_utf8_unchecked.ensures, c.part-name.ensures)
    (only_value (text_holds (text_in c.args.pool.now c.args.test.now)) c.in-Some.whole.now c.args.name.now.treat_missing_header_as_empty _
    c.in-Some.ensures (rw c.if-name.false at passes))
