use Rattle.http_front.proofs.Elements.{close_test}
use Rattle.http_front.proofs.closing.is_close.Goals as goal

pub returns : goal.returns
returns c = close_test c.eq_ignore_ascii_case.result c.args.element.now c.eq_ignore_ascii_case.ensures.test
