use Rattle.std.proofs.Common.{ℕ, List, [], ◌∷◌, refl, sym, ap, ◌∙◌, false, true, rules}
use Rattle.std.proofs.lemmas.Result.{on_ok_weaker}
use Rattle.http2.specs.Trail.{put}
use Rattle.http2.specs.Frame.{Parts}
use Rattle.http2.proofs.Calls.{reply_of, no_reply_to, no_reply_by, reply_to, replies_by}
use Rattle.http2.proofs.opening.reply.Goals as goal

pub returns-then-is_acknowledgement-clause-replied : goal.returns-then-is_acknowledgement-clause-replied
returns-then-is_acknowledgement-clause-replied c =
    ([], (λ trail came sent took gave law. law), no_reply_to c.args.frame.now.bytes.items (sym c.if-is_acknowledgement.ensures))

pub returns-in-4-clause-replied : goal.returns-in-4-clause-replied
returns-in-4-clause-replied c =
    let frame : List ℕ = c.args.frame.now.bytes.items in
    on_ok_weaker c.control.result (λ written. (
      put written.0 ∷ [],
      written.3,
      (
        reply_of written.0 _ true written.1 refl,
        reply_to frame 4 (sym c.kind.ensures ∙ c.in-4.is) (sym c.if-is_acknowledgement.ensures)
            ∙ ap (λ (p : Parts). p ∷ []) (sym written.1),
        refl,
      ),
    )) c.control.ensures.law

pub returns-in-6-clause-replied : goal.returns-in-6-clause-replied
returns-in-6-clause-replied c =
    let frame : List ℕ = c.args.frame.now.bytes.items in
    on_ok_weaker c.control-in-6.result (λ written. (
      put written.0 ∷ [],
      written.3,
      (
        reply_of written.0 _ true written.1 refl,
        reply_to frame 6 (sym c.kind.ensures ∙ c.in-6.is) (sym c.if-is_acknowledgement.ensures)
            ∙ ap (λ (t : List ℕ). replies_by 6 false t) (sym c.payload.ensures)
            ∙ ap (λ (p : Parts). p ∷ []) (sym written.1),
        refl,
      ),
    )) c.control-in-6.ensures.law

pub returns-in_default-clause-replied : goal.returns-in_default-clause-replied
returns-in_default-clause-replied c =
    ([], (λ trail came sent took gave law. law), no_reply_by c.args.frame.now.bytes.items c.kind.result (sym c.kind.ensures) (search rules) (search rules))
