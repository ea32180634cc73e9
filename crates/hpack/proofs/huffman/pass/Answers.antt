use Rattle.std.proofs.Common.{ℕ, ◌-◌, ◌++◌, sym, ap, ◌∙◌, arith}
use Rattle.std.proofs.lemmas.Result.{err_from_is_err_and}
use Rattle.hpack.specs.Huffman.{low_bits, walk, with_front}
use Rattle.hpack.proofs.Windows.{passes_code, passes_length, passes_bit, fails_on_bit}
use Rattle.hpack.proofs.huffman.pass.Goals as goal

pub overflow_sub-result : goal.overflow_sub-result
overflow_sub-result c =
    let known = passes_length c.args.bits c.args.left c.short_code-code.result
    c.short_code-code.ensures (omega arith) in
    omega (arith, known.0, known.1)

pub returns-then-code-ne0-clause-less : goal.returns-then-code-ne0-clause-less
returns-then-code-ne0-clause-less c =
    let known = passes_length c.args.bits c.args.left c.short_code-code.result
    c.short_code-code.ensures (omega arith) in
    omega (arith, known.0, known.1)

pub returns-then-code-ne0-clause-walks : goal.returns-then-code-ne0-clause-walks
returns-then-code-ne0-clause-walks c =
    λ more.
    ap
    (λ (n : ℕ). with_front c.args.text.now.items (walk n (low_bits c.args.left c.args.bits ++ more)))
    c.if-node-eq0.true
    ∙ passes_code c.args.text.now.items c.push.new.self.items c.args.bits c.args.left
    c.short_code-code.result more c.requires.enough c.short_code-code.ensures (omega arith)
    c.in_ok-push.ensures.items
    ∙ ap
    (λ (k : ℕ). with_front c.push.new.self.items (walk 0 (low_bits (c.args.left - k) c.args.bits ++ more)))
    (sym c.from.ensures)

pub returns-in_err-next-clause-fails : goal.returns-in_err-next-clause-fails
returns-in_err-next-clause-fails c =
    let exit = c.from_residual-in_err-next in
    let p = err_from_is_err_and exit.result exit.ensures.1 in
    rw (p.1, p.2)
    (λ more. fails_on_bit c.in_err-next.field-0.0 c.args.node c.args.bits c.args.left more
    (omega arith)
    (c.in_err-next.ensures.fails (low_bits (c.args.left - 1) c.args.bits ++ more)))

pub returns-clause-walks : goal.returns-clause-walks
returns-clause-walks c =
    λ more. passes_bit c.args.text.now.items c.turn.new.text.items c.args.node c.in_ok-next.next
    c.args.bits c.args.left more (omega arith)
    (c.in_ok-next.ensures.walks (low_bits (c.args.left - 1) c.args.bits ++ more))
