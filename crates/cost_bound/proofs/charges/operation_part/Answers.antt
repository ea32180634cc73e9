use Rattle.std.proofs.Common.{ap, refl, ◌∙◌}
use Rattle.cost_bound.specs.private.Numbers.{capped}
use Rattle.cost_bound.specs.private.SizeView.{size_view}
use Rattle.cost_bound.proofs.Capped.{one_less}
use Rattle.cost_bound.proofs.Counting.{no_count_two}
use Rattle.cost_bound.proofs.charges.operation_part.Goals as goal

pub returns-in-Compare : goal.returns-in-Compare
returns-in-Compare c = λ ts. rw c.in-Compare.is
    (c.sum.ensures _ _ c.mass.ensures c.mass-in-Compare.ensures ∙ ap capped (one_less _))

pub returns-in-TestText : goal.returns-in-TestText
returns-in-TestText c = λ ts. rw c.in-TestText.is
    (c.sum-in-TestText.ensures _ _ c.mass-in-TestText.ensures c.mass-in-TestText-2.ensures
    ∙ ap capped (one_less _))

pub returns-in-Concat : goal.returns-in-Concat
returns-in-Concat c = λ ts. rw c.in-Concat.is
    (c.sum-in-Concat.ensures _ _ c.most.ensures.capped c.most-in-Concat.ensures.capped
    ∙ ap capped (one_less _))

pub returns-in-InList : goal.returns-in-InList
returns-in-InList c = λ ts. rw c.in-InList.is
    (c.sum-in-InList.ensures _ _ c.mass-in-InList.ensures
    (c.product-in-InList.ensures _ _ c.most-in-InList.ensures.capped c.mass-in-InList-2.ensures)
    ∙ ap capped (one_less _))

pub returns-in-Size : goal.returns-in-Size
returns-in-Size c = λ ts. rw (c.in-Size.is, no_count_two ts (size_view c.args.first.now) (size_view c.args.second.now)) refl
