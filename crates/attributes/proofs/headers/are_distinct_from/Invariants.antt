use Rattle.std.proofs.Common.{◌≡◌, ◌∷◌, get_or}
use Rattle.attributes.specs.private.Parts.{IsField}
use Rattle.attributes.proofs.Distinct.{AreJoinedTo}
use Rattle.attributes.proofs.headers.are_distinct_from.Given as goal

abbrev pub invariant-loop-next : goal.invariant-loop-next
invariant-loop-next l = record {
  field : IsField l.fn.text l.last;
  there : l.last ≡ get_or (l.fn.first ∷ l.others) l.next-index l.last;
  joined : AreJoinedTo l.fn.text l.fn.first l.others l.next-index l.last;
}
