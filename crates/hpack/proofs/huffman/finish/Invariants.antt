use Rattle.std.proofs.Common.{◌<◌, ◌≤◌}
use Rattle.hpack.specs.Huffman.{low_bits}
use Rattle.hpack.proofs.HuffmanLemmas.{Reaches}
use Rattle.hpack.proofs.huffman.finish.Given as goal

abbrev pub invariant-loop-left : goal.invariant-loop-left
invariant-loop-left l =
    record {
      below : l.node < 256;
      most : l.left ≤ l.count;
      reaches : Reaches l.fn.text.items l.start (low_bits l.count l.bits) l.text.items l.node (low_bits l.left l.bits);
    }

abbrev pub decreases-loop-left : goal.decreases-loop-left
decreases-loop-left l = l.left
