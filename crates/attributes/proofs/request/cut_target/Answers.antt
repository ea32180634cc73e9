-- The two cuts are those of the definitions.
use Rattle.std.proofs.Common.{arith}
use Rattle.std.proofs.lemmas.Grind.{common_steps}
use Rattle.attributes.proofs.Cutting.{is_cut}
use Rattle.attributes.proofs.request.cut_target.Goals as goal

pub returns : goal.returns
returns c =
    is_cut c.args.target.now c.before-whole.result.now c.cut.result.0.now c.cut.result.1.now _ _ _
    c.before-whole.ensures.value c.cut.ensures.front c.cut.ensures.back (grind (arith, common_steps))
    (grind (arith, common_steps)) (grind (arith, common_steps))
