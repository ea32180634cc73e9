use Rattle.std.proofs.Common.{refl}
use Rattle.std.proofs.lemmas.Bool.{false≢true}
use Rattle.std.proofs.lemmas.List.{take_all}
use Rattle.http_front.specs.Rules.{IsBadText}
use Rattle.http_front.specs.private.Parts.{HasTextValue}
use Rattle.http_front.proofs.SpelledAsks.{fields_all_more, fields_any}
use Rattle.http_front.proofs.spelled_ask.are_texts.Goals as goal

pub returns-then-not-is_text-clause-others : goal.returns-then-not-is_text-clause-others
returns-then-not-is_text-clause-others c =
    fields_any IsBadText c.args.lines.now c.loop-line.line-index _ c.loop-line-test.true
    (λ text. false≢true (c.if-not-is_text.ensures.1 text))

pub loop-line-preserved : goal.loop-line-preserved
loop-line-preserved c =
    fields_all_more HasTextValue c.args.lines.now c.loop-line.line-index _ c.loop-line-test.true c.loop-line.invariant
    (c.if-not-is_text.ensures.0 refl)

pub returns-clause-texts : goal.returns-clause-texts
returns-clause-texts c =
    let all = take_all c.loop-line.line-index c.args.lines.now c.loop-line-test.false in
    rw all at c.loop-line.invariant
