use Rattle.std.proofs.Common.{◌≡◌, ◌∷◌, ◌++◌, List, get_or, take}
use Rattle.std.specs.FinMap.{entries}
use Rattle.attributes.specs.Headers.{Entry, headers_of}
use Rattle.attributes.specs.private.Parts.{AreFields, Begins, IsField, entries_in, part_of}
use Rattle.attributes.proofs.JoinSteps.{with_last}
use Rattle.attributes.proofs.headers.join_others.Given as goal

abbrev pub invariant-loop-next : goal.invariant-loop-next
invariant-loop-next l = record {
  grown : Begins l.fn.text.items l.text.items;
  parts : AreFields l.text.items l.joined.items;
  last : IsField l.text.items l.last;
  name : part_of l.text.items l.last.name
      ≡ part_of l.fn.text.items (get_or (l.fn.last ∷ l.others) l.next-index l.fn.last).name;
  joined : (es : List Entry)
      → with_last l.fn.text.items l.fn.joined.items l.fn.last ≡ entries (headers_of es)
      → with_last l.text.items l.joined.items l.last
      ≡ entries (headers_of (es ++ entries_in l.fn.text.items (take l.next-index l.others)));
}
