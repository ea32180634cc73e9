use Rattle.std.proofs.Common.{◌<◌, ◌≤◌, ◌∙◌, arith, length, length-set, refl}
use Rattle.serve_log.proofs.FileListLemmas.{left_more, none_in_all, none_so_far}
use Rattle.serve_log.proofs.open_files.flush_each.Goals as goal

pub loop-file-init : goal.loop-file-init
loop-file-init g c = (refl, refl, tt, refl)

pub loop-file-preserved : goal.loop-file-preserved
loop-file-preserved g c =
    let i = c.loop-file.file-index in
    let below : i < length c.loop-file.files = omega (arith, c.loop-file.invariant.1, c.loop-file-test.true) in (
      left_more c.loop-file.files c.args.files.now i _ c.loop-file.invariant.0,
      length-set c.loop-file.files i _ ∙ c.loop-file.invariant.1,
      none_so_far g.W.Write.contents i c.args.files.now c.loop-file.files _ _ below c.loop-file-test.true
          c.loop-file.invariant.0 c.loop-file.invariant.2 c.flush.ensures.takes,
      c.flush.ensures.lines ∙ c.loop-file.invariant.3,
    )

pub returns-clause-takes : goal.returns-clause-takes
returns-clause-takes g c =
    let i = c.loop-file.file-index in
    let over : length c.loop-file.files ≤ i = omega (arith, c.loop-file.invariant.1, c.loop-file-test.false) in
    none_in_all g.W.Write.contents i c.args.files.now c.loop-file.files over c.loop-file-test.false c.loop-file.invariant.2
