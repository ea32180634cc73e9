use Rattle.std.proofs.Common.{rules, tests}
use Rattle.std.proofs.lemmas.Iterator.Consumers.{YieldsList-from_first}
use Rattle.std.proofs.lemmas.Iterator.Search.{any_from_yields_List}
use Rattle.http_front.specs.Closing.{is_close}
use Rattle.http_front.specs.private.Elements.{elements_left}
use Rattle.http_front.proofs.closing.lists_close.Goals as goal

pub returns : goal.returns
returns c =
    any_from_yields_List is_close _ _ _ c.any.ensures.ran
    (YieldsList-from_first (λ x. x.now) elements_left _ c.new.ensures) (λ x b q k. search (rules, tests))
