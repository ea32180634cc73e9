use Rattle.std.proofs.Common.{List, ℕ, Option, sym, subst, ◌∙◌}
use Rattle.std.proofs.lemmas.Result.{IfOk-weaker}
use Rattle.http2.specs.Frame.{fragment_of}
use Rattle.http2.specs.Serving.{ServingValue, Turn, turn_of, PartCame, begins, continues}
use Rattle.http2.specs.Servings.{serving_view}
use Rattle.http2.specs.declared.over.Over.{Over}
use Rattle.http2.proofs.serving.Serving.say.Goals as goal

pub returns-in-1-clause-says : goal.returns-in-1-clause-says
returns-in-1-clause-says c =
    let frame : List ℕ = c.args.frame.now.bytes.items in
    let turn : Option Over → Turn = λ over. turn_of over (serving_view c.gather.new.self) in
    IfOk-weaker c.gather.result _ _ (λ over came. begins (sym c.kind.ensures ∙ c.in-1.is)
    (subst (λ (v : ServingValue). PartCame v frame 0 (fragment_of frame) (turn over)) c.begin.ensures.begun
    (subst (λ (octets : List ℕ). PartCame (serving_view c.begin.new.self) frame 0 octets (turn over)) c.fragment.ensures came)))
    c.gather.ensures.came

pub returns-in-9-clause-says : goal.returns-in-9-clause-says
returns-in-9-clause-says c =
    IfOk-weaker c.gather-in-9.result _ _ (λ over came. continues (sym c.kind.ensures ∙ c.in-9.is)
    (rw (← c.payload.ensures) came)) c.gather-in-9.ensures.came
