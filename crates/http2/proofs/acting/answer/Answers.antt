use Rattle.std.proofs.Common.{List, ℕ, Option, [], ◌∷◌, refl, sym, ap, subst, ◌∙◌}
use Rattle.std.proofs.lemmas.Result.{on_ok_weaker}
use Rattle.http2.specs.Frame.{Parts}
use Rattle.http2.specs.Trail.{put}
use Rattle.http2.specs.Served.{answers_to, AreAnswers}
use Rattle.http2.proofs.Acts.{replies_answer, refusal_is}
use Rattle.http2.proofs.acting.answer.Goals as goal

pub returns-in-Some-clause-answered : goal.returns-in-Some-clause-answered
returns-in-Some-clause-answered c =
    on_ok_weaker c.control.result (λ written. (
      put written.0 ∷ [],
      written.3,
      (
        refusal_is written.0 _ written.1 refl,
        ap (λ (r : Option ℕ). answers_to c.args.frame.now.bytes.items r) c.in-Some.is ∙ ap (λ (p : Parts). p ∷ []) (sym written.1),
        refl,
      ),
    )) c.control.ensures.law

pub returns-in-None-clause-answered : goal.returns-in-None-clause-answered
returns-in-None-clause-answered c =
    let same = sym (ap (λ (r : Option ℕ). answers_to c.args.frame.now.bytes.items r) c.in-None.is) in
    on_ok_weaker c.reply.result
    (λ written. (written.0, written.1, subst (λ (ps : List Parts). AreAnswers written.0 ps) same (replies_answer written.0 _ written.2)))
    c.reply.ensures.replied
