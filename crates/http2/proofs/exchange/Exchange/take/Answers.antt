use Rattle.std.proofs.Common.{Err, refl, sym, ap, ◌∙◌}
use Rattle.http2.specs.Exchange.{spent, faulty, failing}
use Rattle.http2.specs.Exchanges.{exchange_view, turn_of}
use Rattle.http2.specs.Faults.{error_of}
use Rattle.http2.specs.declared.news.News.{News}
use Rattle.http2.proofs.exchange.Exchange.take.Goals as goal

pub returns-in-Err-Stream-clause-takes : goal.returns-in-Err-Stream-clause-takes
returns-in-Err-Stream-clause-takes c =
    let turn = rw c.in-Err-Stream.field-0-is at c.fail.ensures.turn in
    failing c.in-Err-Stream.code
    (sym c.check.ensures ∙ ap (λ r. error_of r) (c.in-Err-Stream.is ∙ ap (λ f. Err f) c.in-Err-Stream.field-0-is)) turn

pub returns-in-Err-Connection-clause-takes : goal.returns-in-Err-Connection-clause-takes
returns-in-Err-Connection-clause-takes c =
    let same = rw c.in-Err-Connection.field-0-is at c.breaks.ensures in
    faulty c.in-Err-Connection.code
    (sym c.check.ensures ∙ ap (λ r. error_of r) (c.in-Err-Connection.is ∙ ap (λ f. Err f) c.in-Err-Connection.field-0-is))
    (ap (λ (n : News). turn_of n (exchange_view c.args.self.now)) same)

pub returns-in-Err-Memory-clause-takes : goal.returns-in-Err-Memory-clause-takes
returns-in-Err-Memory-clause-takes c =
    spent (sym c.check.ensures ∙ ap (λ r. error_of r) (c.in-Err-Memory.is ∙ ap (λ f. Err f) c.in-Err-Memory.field-0-is)) refl
