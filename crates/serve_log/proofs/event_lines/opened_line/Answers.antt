use Rattle.std.proofs.Common.{◌≡◌, ◌∙◌, ℕ, false, ap, refl}
use Rattle.std.proofs.lemmas.Result.{IfOk-weaker}
use Rattle.attributes.specs.Conn.{Facts, conn_view}
use Rattle.serde_json.specs.View.{view}
use Rattle.serde_json.specs.Written.{compact_text, has_float}
use Rattle.program_texts.specs.WrittenFacts.{facts_json}
use Rattle.program_texts.proofs.FactLines.{facts_have_no_float}
use Rattle.serve_log.specs.Lines.{opened_json}
use Rattle.serve_log.proofs.event_lines.opened_line.Goals as goal

-- the object of an opening has no float
whole : (k : ℕ) (f : Facts) → has_float (opened_json k (facts_json f)) ≡ false
whole k f = rw (facts_have_no_float f) refl

pub returns : goal.returns
returns c =
    let f = conn_view c.args.facts.now in
    let same : view c.in_ok-value.value ≡ opened_json c.args.k (facts_json f) =
    c.in_ok-value.ensures ∙ ap (opened_json c.args.k) c.in_ok-facts.ensures in
    IfOk-weaker c.to_string.result _ _
    (λ text is. is (ap has_float same ∙ whole c.args.k f) ∙ ap compact_text same) c.to_string.ensures.text
