use Rattle.std.proofs.Common.{ℕ, List, [], ◌∷◌, refl, sym, ap, ◌∙◌, false, true}
use Rattle.std.proofs.lemmas.Result.{on_ok_weaker}
use Rattle.http2.specs.Frame.{Parts}
use Rattle.http2.specs.Exchanged.{spoken}
use Rattle.http2.proofs.Calls.{reply_of, reply_to, replies_by}
use Rattle.http2.proofs.Writing.{parts_as, reply_answers}
use Rattle.http2.proofs.unary_frames.reply.Goals as goal

pub returns-in-4-clause-replied : goal.returns-in-4-clause-replied
returns-in-4-clause-replied c =
    let frame : List ℕ = c.args.frame.now.bytes.items in
    on_ok_weaker c.put.result (λ wrote.
    let are = parts_as wrote.0 [] _ _ _ 4 1 0 c.head.ensures.kind c.head.ensures.flags c.head.ensures.stream wrote.2 in
    spoken wrote.0 wrote.1 (reply_answers wrote.0 (reply_of wrote.0 _ true are refl))
    (reply_to frame 4 (sym c.kind.ensures ∙ c.in-4.is) (sym c.if-is_acknowledgement.ensures) ∙ ap (λ (p : Parts). p ∷ []) (sym are))
    wrote.3) c.put.ensures.wrote

pub returns-in-6-clause-replied : goal.returns-in-6-clause-replied
returns-in-6-clause-replied c =
    let frame : List ℕ = c.args.frame.now.bytes.items in
    on_ok_weaker c.put-in-6.result (λ wrote.
    let are = parts_as wrote.0 c.payload.result.now _ _ _ 6 1 0 c.head-in-6.ensures.kind c.head-in-6.ensures.flags c.head-in-6.ensures.stream wrote.2 in
    spoken wrote.0 wrote.1 (reply_answers wrote.0 (reply_of wrote.0 _ true are refl))
    (reply_to frame 6 (sym c.kind.ensures ∙ c.in-6.is) (sym c.if-is_acknowledgement.ensures)
    ∙ ap (λ (t : List ℕ). replies_by 6 false t) (sym c.payload.ensures) ∙ ap (λ (p : Parts). p ∷ []) (sym are))
    wrote.3) c.put-in-6.ensures.wrote
