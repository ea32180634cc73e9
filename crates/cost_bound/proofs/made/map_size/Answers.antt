use Rattle.std.proofs.Common.{◌∙◌, sym}
use Rattle.std.proofs.lemmas.Result.{IfOk-weaker}
use Rattle.cel_value.specs.Types.{type_view}
use Rattle.cost_bound.proofs.JoinedParts.{map_none, map_some}
use Rattle.cost_bound.proofs.made.map_size.Goals as goal

pub returns-then-keys-eq0 : goal.returns-then-keys-eq0
returns-then-keys-eq0 c = IfOk-weaker c.least.result _ _ (λ size h ss are count.
    h ∙ sym (map_none (type_view c.args.cel_type.now) ss (sym count ∙ c.if-keys-eq0.true))) c.least.ensures

pub returns : goal.returns
returns c = IfOk-weaker c.table.result _ _ (λ size h ss are count. (rw (are.0, are.1, count) at h)
    ∙ sym (map_some (type_view c.args.cel_type.now) ss (λ none. c.if-keys-eq0.false (count ∙ none)))) c.table.ensures
