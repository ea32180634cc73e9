use Rattle.std.proofs.Common.{ℕ, [], ◌∷◌, refl, sym, ap, ◌∙◌}
use Rattle.std.proofs.lemmas.Result.{on_ok_weaker}
use Rattle.http2.specs.Frame.{Parts}
use Rattle.http2.specs.Exchanged.{spoken}
use Rattle.http2.proofs.Acts.{refusal_is}
use Rattle.http2.proofs.Writing.{parts_as}
use Rattle.http2.proofs.unary_frames.refuse.Goals as goal

pub returns-clause-reset : goal.returns-clause-reset
returns-clause-reset c =
    let stream : ℕ = c.args.reset.stream in
    let code : ℕ = c.number_of.result in
    on_ok_weaker c.put.result (λ wrote.
    let are = parts_as wrote.0 (0 ∷ 0 ∷ 0 ∷ code ∷ []) _ _ _ 3 0 stream c.head.ensures.kind c.head.ensures.flags c.head.ensures.stream wrote.2 in
    spoken wrote.0 wrote.1 (refusal_is wrote.0 _ are refl)
    (ap (λ (p : Parts). p ∷ []) (sym (are ∙ ap (λ (n : ℕ). record { kind = 3; flags = 0; stream = stream; payload = 0 ∷ 0 ∷ 0 ∷ n ∷ [] }) c.number_of.ensures)))
    wrote.3) c.put.ensures.wrote
