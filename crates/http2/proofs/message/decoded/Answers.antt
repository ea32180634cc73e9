use Rattle.std.proofs.Common.{◌≡◌, ℕ, List, [], ◌∷◌, ◌++◌, sym, ap, ◌∙◌, rules, append_assoc}
use Rattle.http2.specs.Message.{decoded}
use Rattle.http2.proofs.message.decoded.Goals as goal

pub codes-preserved : goal.codes-preserved
codes-preserved c =
    let byte : ℕ = c.in-Some.byte.now in
    let others : List ℕ = c.in-Some.others.now in
    let text : List ℕ = c.codes.text.items in
    let split : c.codes.rest.now ≡ byte ∷ others = search rules in
    let plain : decoded c.codes.rest.now ≡ byte ∷ decoded others = c.coded.ensures.plain byte others c.in-None.is split in
    rw c.in_ok-push-in-None.ensures.items
    (append_assoc text (byte ∷ []) (decoded others) ∙ ap (λ (t : List ℕ). text ++ t) (sym plain) ∙ c.codes.invariant)
