use Rattle.std.proofs.Common.{◌∙◌, refl}
use Rattle.std.proofs.lemmas.Bool.{false≢true}
use Rattle.http_front.specs.Rules.{lowered}
use Rattle.http_front.proofs.Elements.{listed, not_listed}
use Rattle.http_front.proofs.closing.is_closing.Goals as goal

pub returns-then-eq_ignore_ascii_case : goal.returns-then-eq_ignore_ascii_case
returns-then-eq_ignore_ascii_case c =
    c.lists_close.ensures
    ∙ listed (lowered (c.args.name.now, c.args.value.now)) (c.if-eq_ignore_ascii_case.ensures.test.0 refl)

pub returns : goal.returns
returns c =
    not_listed (lowered (c.args.name.now, c.args.value.now))
    (λ named. false≢true (c.if-eq_ignore_ascii_case.ensures.test.1 named))
