use Rattle.std.proofs.Common.{List, ℕ, [], ◌∷◌, ◌++◌, refl, sym, ap₂, ◌∙◌}
use Rattle.http2.specs.Trail.{Step, got}
use Rattle.http2.specs.Lines.{unread}
use Rattle.http2.specs.Servings.{serving_view}
use Rattle.http2.specs.Servers.{opened_as}
use Rattle.http2.specs.Served.{answered, by_frame, by_memory}
use Rattle.http2.specs.declared.over.Over.{Over}
use Rattle.http2.specs.declared.over.Over.TheVariants.{Broken}
use Rattle.http2.specs.declared.fault.Fault.TheVariants.{Memory}
use Rattle.http2.proofs.Calls.{same_law}
use Rattle.http2.proofs.Acts.{acts_on, quiet_on, got_stops}
use Rattle.http2.proofs.acting.serve.Goals as goal

pub returns-in-Ok-clause-acts : goal.returns-in-Ok-clause-acts
returns-in-Ok-clause-acts c = λ trail came sent took gave law is.
    let frame : List ℕ = c.args.frame.now.bytes.items in
    let old = serving_view c.args.serving.now in
    let next = serving_view c.take.new.self in
    let takes = rw c.in-Ok-None.field-0-is at c.in-Ok-None.ensures.takes in
    let written = c.in-Ok.ensures.answered in
    let here : List Step = got frame ∷ trail in
    let pipe = c.args.pipe.now in
    let answers = rw c.refused.ensures.refused at written.2 in (
      written.0 ++ here,
      c.open.ensures.law (written.0 ++ here) came sent took gave
          (λ new. quiet_on trail written.0 frame old next (unread pipe) is takes answers (sym c.answer.ensures.number ∙ new))
          (written.1 here came sent took gave law),
      acts_on trail written.0 frame old next (unread pipe) _ is takes answers
          (c.open.ensures.number ∙ ap₂ (λ (m n : ℕ). opened_as m n) c.answer.ensures.number c.number.ensures),
    )

pub returns-in-Err-answer-clause-acts : goal.returns-in-Err-answer-clause-acts
returns-in-Err-answer-clause-acts c = λ trail came sent took gave law is.
    let frame : List ℕ = c.args.frame.now.bytes.items in
    let here : List Step = got frame ∷ trail in
    let over : Over = Broken Memory in (
      here,
      same_law c.args.pipe.now c.answer.new.pipe c.in-Err-answer.ensures.fault here came sent took gave law,
      got_stops trail frame (serving_view c.args.serving.now) _ (unread c.args.pipe.now) _ over c.answer.ensures.number is (by_memory refl),
    )

pub returns-in-Ok-Some-clause-acts : goal.returns-in-Ok-Some-clause-acts
returns-in-Ok-Some-clause-acts c = λ trail came sent took gave law is.
    let frame : List ℕ = c.args.frame.now.bytes.items in
    let here : List Step = got frame ∷ trail in
    let takes = rw c.in-Ok-Some.field-0-is at c.in-Ok-Some.ensures.takes in (
      here,
      law,
      got_stops trail frame (serving_view c.args.serving.now) _ (unread c.args.pipe.now) _ c.in-Ok-Some.over refl is
          (by_frame (answered trail ++ []) (serving_view c.args.serving.now, answered trail, is.going refl, takes, refl)),
    )

pub returns-in-Err-clause-acts : goal.returns-in-Err-clause-acts
returns-in-Err-clause-acts c = λ trail came sent took gave law is.
    let frame : List ℕ = c.args.frame.now.bytes.items in
    let here : List Step = got frame ∷ trail in
    let over : Over = Broken Memory in (
      here,
      law,
      got_stops trail frame (serving_view c.args.serving.now) _ (unread c.args.pipe.now) _ over refl is (by_memory refl),
    )
