use Rattle.std.proofs.Common.{◌*◌, ◌∙◌, ap, sym}
use Rattle.serve_log.proofs.BeginningLemmas.{empty_whole, times_none}
use Rattle.serve_log.proofs.beginning.put_blocks.Goals as goal

pub returns-then-blocks-eq0 : goal.returns-then-blocks-eq0
returns-then-blocks-eq0 g c = λ whole.
    empty_whole g.W.Write.contents (c.args.blocks * c.args.size) (0 * c.args.size) c.args.file.now c.args.file.now
    (ap (λ n. n * c.args.size) (sym c.if-blocks-eq0.true)) (times_none g.W.Write.contents c.args.size c.args.file.now)

pub returns : goal.returns
returns g c = c.put_times.ensures c.args.size (c.as_str.ensures.value ∙ c.in_ok-empty_line.ensures)
