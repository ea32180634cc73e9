use Rattle.std.proofs.Common.{List, ℕ, sym, subst, ◌∙◌}
use Rattle.std.proofs.lemmas.Result.{IfOk-weaker}
use Rattle.http2.specs.Frame.{fragment_of}
use Rattle.http2.specs.Exchange.{ExchangeValue, Turn, PartCame, begins, continues, content, update}
use Rattle.http2.specs.Exchanges.{exchange_view, turn_of}
use Rattle.http2.specs.declared.news.News.{News}
use Rattle.http2.proofs.exchange.Exchange.say.Goals as goal

pub returns-in-0-clause-says : goal.returns-in-0-clause-says
returns-in-0-clause-says c =
    IfOk-weaker c.data_came.result _ _ (λ news turn. content (sym c.kind.ensures ∙ c.in-0.is) turn) c.data_came.ensures.turn

pub returns-in-1-clause-says : goal.returns-in-1-clause-says
returns-in-1-clause-says c =
    let frame : List ℕ = c.args.frame.now.bytes.items in
    let turn : News → Turn = λ news. turn_of news (exchange_view c.gather.new.self) in
    IfOk-weaker c.gather.result _ _ (λ news came. begins (sym c.kind.ensures ∙ c.in-1.is)
    (subst (λ (v : ExchangeValue). PartCame v frame 0 (fragment_of frame) (turn news)) c.begin.ensures.begun
    (subst (λ (octets : List ℕ). PartCame (exchange_view c.begin.new.self) frame 0 octets (turn news)) c.fragment.ensures came)))
    c.gather.ensures.came

pub returns-in-8-clause-says : goal.returns-in-8-clause-says
returns-in-8-clause-says c =
    IfOk-weaker c.update_came.result _ _ (λ news turn. update (sym c.kind.ensures ∙ c.in-8.is) turn) c.update_came.ensures.turn

pub returns-in-9-clause-says : goal.returns-in-9-clause-says
returns-in-9-clause-says c =
    IfOk-weaker c.gather-in-9.result _ _ (λ news came. continues (sym c.kind.ensures ∙ c.in-9.is)
    (rw (← c.payload.ensures) came)) c.gather-in-9.ensures.came
