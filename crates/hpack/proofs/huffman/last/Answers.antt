use Rattle.hpack.proofs.Ends.{ends_symbol, ends_plain, ends_bad}
use Rattle.hpack.proofs.huffman.last.Goals as goal

pub returns-then-end-lt256-clause-walks : goal.returns-then-end-lt256-clause-walks
returns-then-end-lt256-clause-walks c =
    ends_symbol c.args.text.now.items c.push.new.self.items c.args.bits c.args.count
    c.end_of-end.result c.requires c.end_of-end.ensures c.if-end-lt256.true
    c.in_ok-push.ensures.items

pub returns-then-end-lt512-clause-walks : goal.returns-then-end-lt512-clause-walks
returns-then-end-lt512-clause-walks c =
    ends_plain c.args.text.now.items c.args.bits c.args.count c.end_of-end.result c.requires
    c.end_of-end.ensures c.if-end-lt256.false c.if-end-lt512.true

pub returns-clause-fails : goal.returns-clause-fails
returns-clause-fails c =
    ends_bad c.args.bits c.args.count c.end_of-end.result c.requires c.end_of-end.ensures
    c.if-end-lt512.false
