use Rattle.std.proofs.Common.{◌≡◌, ◌*◌, ap, arith}
use Rattle.proxy_core.specs.Events.{ads_bytes}
use Rattle.serve_log.specs.Beginnings.{empty_frames}
use Rattle.serve_log.proofs.BeginningLemmas.{bytes_whole, empty_whole, times_more, times_none}
use Rattle.serve_log.proofs.beginning.put_times.Goals as goal

pub lines-init : goal.lines-init
lines-init g c = (omega arith, λ size is whole. times_none g.W.Write.contents size c.args.file.now)

pub lines-preserved : goal.lines-preserved
lines-preserved g c = (
  omega arith,
  λ size is whole.
      let so_far = c.lines.invariant.1 size is whole in
      times_more g.W.Write.contents c.lines.done size c.args.file.now c.lines.file _ so_far
      (c.in_ok-put.ensures (ads_bytes (empty_frames size)) is
      (bytes_whole g.W.Write.contents (empty_frames (c.lines.done * size)) c.args.file.now c.lines.file so_far whole)),
)

pub returns : goal.returns
returns g c = λ size is whole.
    let all : c.lines.done ≡ c.args.times = omega arith in
    empty_whole g.W.Write.contents (c.args.times * size) (c.lines.done * size) c.args.file.now c.lines.file
    (ap (λ n. n * size) all) (c.lines.invariant.1 size is whole)
