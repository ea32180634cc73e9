use Rattle.std.proofs.Common.{◌≡◌, ◌==◌, false}
use Rattle.std.proofs.lemmas.Bool.{ne_eqb}
use Rattle.std.proofs.lemmas.Result.{MatchResult-weaker}
use Rattle.check_request.specs.Answers.{code_of}
use Rattle.check_request.proofs.answer.write_answer.Goals as goal

pub returns : goal.returns
returns c =
    let other : (code_of c.args.outcome == 0) ≡ false =
    ne_eqb (code_of c.args.outcome) 0 (rw c.code-code.ensures at c.if-code-eq0.false) in
    rw other
    (MatchResult-weaker c.response_bytes-2.result c.response_bytes-2.ensures
    (λ v written. (
      c.in_ok-denied.denied.items,
      c.in_ok-denied.ensures,
      rw (c.deref-2.ensures.value, c.code-code.ensures) at written,
    ))
    (λ e h. h))
