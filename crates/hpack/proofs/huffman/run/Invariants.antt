use Rattle.std.proofs.Common.{ℕ, ◌<◌, ◌≤◌, List, ◌++◌}
use Rattle.hpack.specs.Huffman.{low_bits}
use Rattle.hpack.proofs.HuffmanLemmas.{Reaches}
use Rattle.hpack.proofs.huffman.run.Given as goal

abbrev pub invariant-loop-left : goal.invariant-loop-left
invariant-loop-left l =
    record {
      below : l.node < 256;
      most : l.left ≤ l.count;
      reaches : (more : List ℕ) → Reaches l.fn.text.items l.start (low_bits l.count l.bits ++ more) l.text.items l.node (low_bits l.left l.bits ++ more);
    }

abbrev pub decreases-loop-left : goal.decreases-loop-left
decreases-loop-left l = l.left
