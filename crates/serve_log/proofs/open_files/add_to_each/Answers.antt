use Rattle.std.proofs.Common.{◌<◌, ◌≤◌, ◌∙◌, arith, length, length-set, refl}
use Rattle.serve_log.proofs.FileListLemmas.{left_more, took_all, took_more}
use Rattle.serve_log.proofs.open_files.add_to_each.Goals as goal

pub loop-file-init : goal.loop-file-init
loop-file-init g c = (refl, refl, λ event is. (0, refl, refl))

pub loop-file-preserved : goal.loop-file-preserved
loop-file-preserved g c =
    let i = c.loop-file.file-index in
    let below : i < length c.loop-file.files = omega (arith, c.loop-file.invariant.1, c.loop-file-test.true) in (
      left_more c.loop-file.files c.args.files.now i _ c.loop-file.invariant.0,
      length-set c.loop-file.files i _ ∙ c.loop-file.invariant.1,
      λ event is.
          took_more g.W.Write.contents event i c.args.files.now c.loop-file.files _ _ _ _ _ _ below c.loop-file-test.true
          c.loop-file.invariant.0 (c.loop-file.invariant.2 event is) (c.add.ensures.takes event is) c.add.ensures.counted,
    )

pub returns : goal.returns
returns g c = λ event is.
    let i = c.loop-file.file-index in
    let over : length c.loop-file.files ≤ i = omega (arith, c.loop-file.invariant.1, c.loop-file-test.false) in
    took_all g.W.Write.contents event i c.args.files.now c.loop-file.files _ _ over c.loop-file-test.false
    (c.loop-file.invariant.2 event is)
