use Rattle.std.proofs.Common.{◌≡◌, ◌<◌, ◌≤◌, ◌+◌, ◌∷◌, ◌∙◌, [], ap, arith, get_or, length, refl, set, subst, sym, take}
use Rattle.std.proofs.lemmas.List.{set-get_or}
use Rattle.serve_log.specs.Files.{OneTakes, counted, lost_at}
use Rattle.serve_log.specs.declared.faults.LogFaults.{LogFaults}
use Rattle.serve_log.proofs.FileListLemmas.{NoneHas, none_next, none_of_all, one_at, one_none, out_at, out_none}
use Rattle.serve_log.proofs.open_files.add_to_one.Goals as goal

pub loop-file-init : goal.loop-file-init
loop-file-init g c = (tt, refl, refl)

pub loop-file-preserved : goal.loop-file-preserved
loop-file-preserved g c =
    let contents = g.W.Write.contents in
    let files = c.loop-file.files in
    let i = c.loop-file.file-index in
    let item = c.file-item.result in
    let (none, same, faults) = c.loop-file.invariant in
    let below : i < length files = omega arith in
    let kept : set files i (get_or files i item) ≡ files = set-get_or files i item in (
      subst (λ l. NoneHas contents c.args.number (take (i + 1) l)) (sym kept)
          (none_next contents c.args.number i files item below none (λ is. c.if-number.false (c.number.ensures ∙ is))),
      kept ∙ same,
      faults,
    )

pub returns-then-number-clause-takes : goal.returns-then-number-clause-takes
returns-then-number-clause-takes g c = λ event is.
    let contents = g.W.Write.contents in
    let files = c.loop-file.files in
    let i = c.loop-file.file-index in
    let (none, same, faults) = c.loop-file.invariant in
    let below : i < length files = omega arith in
    let lost = lost_at c.add.result in
    let takes = one_at contents c.args.number (event ∷ []) files i c.file-item.result c.add.new.self lost below none
    (sym c.number.ensures ∙ c.if-number.true) (c.add.ensures.takes event is) in (
      lost,
      subst (λ l. OneTakes contents c.args.number (event ∷ []) l (set files i c.add.new.self) lost) same takes,
      c.add.ensures.counted ∙ ap (λ (f : LogFaults). counted f.dropped lost) faults,
    )

pub returns-then-number-clause-out : goal.returns-then-number-clause-out
returns-then-number-clause-out g c = λ lost.
    let files = c.loop-file.files in
    let i = c.loop-file.file-index in
    let (none, same, faults) = c.loop-file.invariant in
    let below : i < length files = omega arith in
    out_at g.W.Write.contents c.args.number files i c.add.new.self below none
    (c.add.ensures.number ∙ sym c.number.ensures ∙ c.if-number.true) (c.add.ensures.ends lost)

pub returns-clause-takes : goal.returns-clause-takes
returns-clause-takes g c = λ event is.
    let contents = g.W.Write.contents in
    let files = c.loop-file.files in
    let (none, same, faults) = c.loop-file.invariant in
    let over : length files ≤ c.loop-file.file-index = omega arith in
    let all = none_of_all contents c.args.number c.loop-file.file-index files over none in (
      0,
      subst (λ l. OneTakes contents c.args.number (event ∷ []) l files 0) same
          (one_none contents c.args.number (event ∷ []) files all),
      ap (λ (f : LogFaults). f.dropped) faults,
    )

pub returns-clause-out : goal.returns-clause-out
returns-clause-out g c = λ lost.
    let files = c.loop-file.files in
    let (none, same, faults) = c.loop-file.invariant in
    let over : length files ≤ c.loop-file.file-index = omega arith in
    out_none g.W.Write.contents c.args.number files
    (none_of_all g.W.Write.contents c.args.number c.loop-file.file-index files over none)
