use Rattle.std.proofs.Common.{Bool, ℕ, ap, subst, ◌∙◌}
use Rattle.std.proofs.lemmas.Result.{IfOk-weaker}
use Rattle.std.specs.Option.{option_map}
use Rattle.hpack.specs.Field.{lines_of}
use Rattle.http2.specs.Frame.{ends_block}
use Rattle.http2.specs.Gathering.{garbled, whole, with_more, Gathers}
use Rattle.http2.specs.Exchange.{ExchangeValue, fields_came}
use Rattle.http2.specs.Servings.{block_view, gathered_of}
use Rattle.http2.specs.Exchanges.{exchange_view, turn_of}
use Rattle.http2.specs.declared.gathering.Progress.{Progress}
use Rattle.http2.specs.declared.news.News.{News}
use Rattle.http2.proofs.exchange.Exchange.gather.Goals as goal

pub returns-in-Garbled-clause-came : goal.returns-in-Garbled-clause-came
returns-in-Garbled-clause-came c =
    let old = exchange_view c.args.self.now in
    let block = with_more old.block c.args.head c.args.part.now in
    let ends : Bool = ends_block c.args.frame.now.bytes.items in
    let after = block_view c.add.new.self in
    let found = c.in_ok-add.field-0 in
    let known : Gathers block ends (gathered_of found) after =
    subst (λ (e : Bool). Gathers block e (gathered_of found) after) c.ends_block.ensures c.in_ok-add.ensures.gathers in (
      garbled,
      after,
      subst (λ (p : Progress). Gathers block ends (gathered_of p) after) c.in-Garbled.is known,
      ap (λ (n : News). turn_of n (record old { block = after })) c.breaks-in-Garbled.ensures,
    )

pub returns-in-Whole-clause-came : goal.returns-in-Whole-clause-came
returns-in-Whole-clause-came c =
    let old = exchange_view c.args.self.now in
    let block = with_more old.block c.args.head c.args.part.now in
    let ends : Bool = ends_block c.args.frame.now.bytes.items in
    let after = block_view c.add.new.self in
    let found = c.in_ok-add.field-0 in
    let fields = option_map lines_of c.in-Whole.fields in
    let known : Gathers block ends (gathered_of found) after =
    subst (λ (e : Bool). Gathers block e (gathered_of found) after) c.ends_block.ensures c.in_ok-add.ensures.gathers in
    let behind : ExchangeValue = record (record old { block = after }) { unfinished = 0 } in
    IfOk-weaker c.fields_came.result _ _ (λ news turn. (
      whole fields,
      after,
      subst (λ (p : Progress). Gathers block ends (gathered_of p) after) c.in-Whole.is known,
      turn ∙ ap (λ (n : ℕ). fields_came behind n fields) c.stream.ensures.number,
    )) c.fields_came.ensures.turn
