use Rattle.std.proofs.Common.{◌∙◌, ◌++◌, ap₂, arith, refl}
use Rattle.rbac_judge.proofs.batch.bad_text.Goals as goal

pub returns : goal.returns
returns c =
    let text = rw c.in_ok-value.ensures at c.in_ok-text.ensures.text in
    c.in_ok-push.ensures.bytes ∙ ap₂ (λ a b. a ++ b) (text refl) (c.in_ok-push.ensures.ascii (omega arith))
