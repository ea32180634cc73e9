use Rattle.std.proofs.Common.{◌≡◌, ◌≢◌, [], ◌++◌, length, sym, ap, ◌∙◌, arith, refl, length-append, true≢false}
use Rattle.std.proofs.lemmas.List.Elements.{All-append, All-nil}
use Rattle.std.specs.Io.Iter.{u64_saturate}
use Rattle.std.proofs.KnownBytes.{Consumes-nil, Consumes-trans}
use Rattle.std.proofs.BufReadLemmas.{Consumes_through}
use Rattle.std.specs.IoError.{error_kind}
use Rattle.rbac_judge.proofs.HeadLines.{some_head_line}
use Rattle.program_texts.proofs.LineLemmas.{not_memory}
use Rattle.rbac_judge.proofs.head_lines.read_head_line.Goals as goal

pub loop-init : goal.loop-init
loop-init g c = ([], refl, All-nil (λ x. x ≢ 10), Consumes-nil _, λ _. c.new-line.ensures.items)

pub loop-preserved : goal.loop-preserved
loop-preserved g c =
    let (done, count, none, read, kept) = c.loop.invariant in
    let (part, long, stops, read', none', ends, end, fits) = c.in_ok-part.ensures.taken in (
      done ++ part,
      omega (arith, length-append done part, c.saturating_add-count.ensures),
      All-append (λ x. x ≢ 10) done part none (none' (λ e. true≢false (sym e ∙ c.if-is_done.false))),
      Consumes-trans _ _ _ _ _ read read',
      λ short. fits (omega (arith, short, count, length-append done part))
          ∙ ap (λ l. l ++ part) (kept (omega (arith, short, length-append done part))),
    )

pub returns-then-is_done-clause-found : goal.returns-then-is_done-clause-found
returns-then-is_done-clause-found g c =
    let (done, count, none, read, kept) = c.loop.invariant in
    let (part, long, stops, read', none', ends, end, fits) = c.in_ok-part.ensures.taken in
    let all = Consumes_through 10 _ _ _ done part read none read' stops (ends c.if-is_done.true) (end c.if-is_done.true) in
    let total = c.saturating_add-count.result in
    let counted : total ≡ u64_saturate (length (done ++ part)) =
    omega (arith, length-append done part, c.saturating_add-count.ensures) in
    some_head_line c.line_of.result _ _ _ total (done ++ part) counted
    (λ short. fits (omega (arith, short, count, length-append done part))
    ∙ ap (λ l. l ++ part) (kept (omega (arith, short, length-append done part)))) all.0 all.1 c.line_of.ensures

pub returns-clause-fault : goal.returns-clause-fault
returns-clause-fault g c = not_memory (error_kind c.from.result) c.from.ensures
