use Rattle.std.proofs.Common.{◌≡◌, ◌∙◌, false, get_or, refl, sym}
use Rattle.httparse.specs.Spans.{header_bytes}
use Rattle.http_front.specs.Closing.{lists_close}
use Rattle.http_front.specs.Rules.{lowered}
use Rattle.http_front.proofs.Elements.{close_more}
use Rattle.http_front.proofs.Spans.{no_span}
use Rattle.http_front.proofs.closing.list_close.Goals as goal

pub loop-field-preserved : goal.loop-field-preserved
loop-field-preserved c =
    let field = get_or c.args.fields.now c.loop-field.field-index no_span in
    let other : lists_close (lowered (header_bytes c.args.bytes.now field)) ≡ false =
    rw (← c.of.ensures, ← c.of-in-loop-field.ensures) (sym c.is_closing.ensures ∙ c.if-is_closing.false) in
    c.loop-field.invariant
    ∙ close_more c.args.bytes.now c.args.fields.now c.loop-field.field-index c.loop-field-test.true
    ∙ rw other refl
