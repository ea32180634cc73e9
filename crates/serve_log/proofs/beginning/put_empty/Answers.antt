use Rattle.std.proofs.Common.{◌≡◌, ◌+◌, ◌*◌, ◌/◌, ◌%◌, ◌∙◌, arith}
use Rattle.std.proofs.lemmas.Result.{on_ok_weaker}
use Rattle.proxy_core.specs.Events.{ads_bytes}
use Rattle.serve_log.specs.Beginnings.{empty_frames}
use Rattle.serve_log.proofs.BeginningLemmas.{bytes_one, bytes_whole, empty_parts, empty_whole}
use Rattle.serve_log.proofs.beginning.put_empty.Goals as goal

pub returns-then-rest-eq0 : goal.returns-then-rest-eq0
returns-then-rest-eq0 g c = λ whole.
    let all : c.args.count / 256 * 256 ≡ c.args.count = omega (arith, c.if-rest-eq0.true) in
    empty_whole g.W.Write.contents c.args.count (c.args.count / 256 * 256) c.args.file.now _ all
    (c.in_ok-put_blocks.ensures whole)

pub returns : goal.returns
returns g c = λ whole.
    let blocks = c.in_ok-put_blocks.ensures whole in
    let middle = bytes_whole g.W.Write.contents (empty_frames (c.args.count / 256 * 256)) c.args.file.now _ blocks whole in
    let all : c.args.count / 256 * 256 + c.args.count % 256 ≡ c.args.count = omega arith in
    on_ok_weaker c.put.result
    (λ takes. empty_parts g.W.Write.contents c.args.count (c.args.count / 256 * 256) (c.args.count % 256) c.args.file.now _ _
    all blocks (bytes_one g.W.Write.contents (empty_frames (c.args.count % 256)) _ _ takes))
    (c.put.ensures (ads_bytes (empty_frames (c.args.count % 256))) (c.as_str.ensures.value ∙ c.in_ok-empty_line.ensures) middle)
