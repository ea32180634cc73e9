use Rattle.std.proofs.Common.{◌∙◌, ◌++◌, append-nil, append_assoc, ap₂, arith, sym}
use Rattle.std.proofs.lemmas.Str.{IsUtf8-past_char, chars_past_char}
use Rattle.std.proofs.StrCases.{chars_of_empty}
use Rattle.rbac_judge.proofs.explain.quoted.Goals as goal

pub loop-c-preserved : goal.loop-c-preserved
loop-c-preserved c =
    let held = c.loop-c.invariant in
    let parts = c.in-Some.ensures.steps.0 in
    let step = chars_past_char _ _ c.in-Some.c held.0 parts in (
      IsUtf8-past_char _ _ c.in-Some.c held.0 parts,
      rw (c.in_ok-push_escaped.ensures, append_assoc) (rw step at held.1),
    )

pub returns : goal.returns
returns c =
    let left = chars_of_empty _ c.in-None.ensures.steps.0.0 in
    let written = sym (append-nil _) ∙ rw left at c.loop-c.invariant.1 in
    c.in_ok-push-2.ensures.bytes ∙ ap₂ (λ a b. a ++ b) written (c.in_ok-push-2.ensures.ascii (omega arith))
