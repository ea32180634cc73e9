use Rattle.std.proofs.Common.{◌≡◌, ◌<◌, None, refl, length, rules}
use Rattle.http2.specs.Unary.{UnaryValue, unary_view}
use Rattle.http2.proofs.Calls.{none_of}
use Rattle.http2.proofs.Finding.{first_out}
use Rattle.http2.proofs.Unaries.{law_called}
use Rattle.http2.proofs.unary.UnaryServer.call.Goals as goal

pub returns-clause-law : goal.returns-clause-law
returns-clause-law c = λ most trail came sent gave law.
    let old : UnaryValue = unary_view c.args.self.now in
    let none : old.over ≡ None = none_of old.over c.if-is_some.ensures in
    let items = c.args.self.now.calls.items in
    let some : 0 < length items = search rules in
    let first = first_out items c.remove.new.self.items c.remove.result some c.remove.ensures.value c.remove.ensures.by_index.2 in
    law_called most trail came sent gave old _ _ none first refl law
