use Rattle.std.proofs.Common.{◌-◌, [], sym, ◌∙◌, arith}
use Rattle.std.proofs.lemmas.Result.{err_from_is_err_and}
use Rattle.hpack.specs.Huffman.{low_bits, walk, with_front}
use Rattle.hpack.specs.declared.fault.Fault.TheVariants.{BadHuffman}
use Rattle.hpack.specs.declared.fault.HpackError.TheVariants as errors
use Rattle.hpack.proofs.HuffmanLemmas.{fails_back, ends_well, walk_rough_end}
use Rattle.hpack.proofs.Windows.{passes_last, fails_on_last, ends_bits}
use Rattle.hpack.proofs.huffman.finish.Goals as goal

pub returns-then-start-eq0-clause-walks : goal.returns-then-start-eq0-clause-walks
returns-then-start-eq0-clause-walks c = rw c.if-start-eq0.true c.last.ensures.walks

pub returns-then-start-eq0-clause-fails : goal.returns-then-start-eq0-clause-fails
returns-then-start-eq0-clause-fails c = rw c.if-start-eq0.true c.last.ensures.fails

pub returns-in_err-node-clause-fails : goal.returns-in_err-node-clause-fails
returns-in_err-node-clause-fails c =
    let p = err_from_is_err_and c.from_residual.result c.from_residual.ensures.1 in
    let left = c.loop-left.left in
    rw (p.1, p.2)
    (fails_back c.in_err-node.field-0.0 c.args.text.now.items c.loop-left.text.items
    (walk c.args.start (low_bits c.args.count c.args.bits))
    (walk c.loop-left.node (low_bits left c.args.bits))
    c.loop-left.invariant.reaches
    (fails_on_last c.in_err-node.field-0.0 c.loop-left.node c.args.bits left c.loop-left-test.true
    (c.in_err-node.ensures.fails (low_bits (left - 1) c.args.bits))))

pub loop-left-preserved : goal.loop-left-preserved
loop-left-preserved c =
    let left = c.loop-left.left in
    record {
      below = c.in_ok-node.ensures.below;
      most = omega arith;
      reaches =
          c.loop-left.invariant.reaches
          ∙ passes_last c.loop-left.text.items c.turn.new.text.items c.loop-left.node c.in_ok-node.node
          c.args.bits left c.loop-left-test.true
          (c.in_ok-node.ensures.walks (low_bits (left - 1) c.args.bits));
    }

pub returns-then-node-lt8-clause-walks : goal.returns-then-node-lt8-clause-walks
returns-then-node-lt8-clause-walks c =
    ends_well c.loop-left.text.items
    (with_front c.args.text.now.items (walk c.args.start (low_bits c.args.count c.args.bits)))
    c.loop-left.node
    (ends_bits c.args.text.now.items c.loop-left.text.items c.args.start c.args.count c.args.bits
    c.loop-left.node c.loop-left.left c.loop-left-test.false c.loop-left.invariant.reaches)
    c.if-node-lt8.true

pub returns-else-node-lt8-clause-fails : goal.returns-else-node-lt8-clause-fails
returns-else-node-lt8-clause-fails c =
    fails_back (errors.Compression BadHuffman) c.args.text.now.items c.loop-left.text.items
    (walk c.args.start (low_bits c.args.count c.args.bits)) (walk c.loop-left.node [])
    (sym (ends_bits c.args.text.now.items c.loop-left.text.items c.args.start c.args.count
    c.args.bits c.loop-left.node c.loop-left.left c.loop-left-test.false
    c.loop-left.invariant.reaches))
    (walk_rough_end c.loop-left.node c.if-node-lt8.false)
