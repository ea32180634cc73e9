use Rattle.std.proofs.Common.{sym, ap, ◌∙◌, Some}
use Rattle.std.specs.Str.{chars}
use Rattle.cel_value.specs.Values.{text}
use Rattle.cel_value.proofs.Views.{view_text}
use Rattle.cel_value.proofs.Walking.{pair_key_at, pair_key_past}
use Rattle.cel_value.proofs.map.pair_key.Goals as goal

pub returns-then-index-pairs : goal.returns-then-index-pairs
returns-then-index-pairs c = sym (pair_key_past c.args.pairs.now c.args.index c.if-index-pairs.true)

pub returns : goal.returns
returns c =
    ap Some (view_text c.in_ok-clone.field-0 ∙ ap (λ bs. text
    (chars bs)) c.in_ok-clone.ensures.cases)
    ∙ sym (pair_key_at c.args.pairs.now c.args.index c.index-pairs-index.result
    c.if-index-pairs.false)
