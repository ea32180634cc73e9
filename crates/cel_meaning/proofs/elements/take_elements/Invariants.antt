use Rattle.std.proofs.Common.{◌-◌, length}
use Rattle.cel_value.specs.Masses.{item_count}
use Rattle.cel_value.specs.View.{value_view}
use Rattle.cel_ops.specs.Collections.{elements_of}
use Rattle.cel_meaning.proofs.PlainSteps.{Begin, ranged}
use Rattle.cel_meaning.proofs.elements.take_elements.Given as goal

abbrev pub invariant-loop-items : goal.invariant-loop-items
invariant-loop-items l = Begin (ranged (elements_of (value_view l.range))) l.items.items

abbrev pub decreases-loop-items : goal.decreases-loop-items
decreases-loop-items l = item_count (ranged (elements_of (value_view l.range))) - length l.items.items
