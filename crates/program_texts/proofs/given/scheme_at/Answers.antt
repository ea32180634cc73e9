-- The scheme is the text of its name, or `http`.
use Rattle.std.proofs.Common.{refl}
use Rattle.std.proofs.lemmas.Result.{err_from_is_err_and}
use Rattle.program_texts.proofs.given.scheme_at.Goals as goal

pub returns-in_err-scheme-clause-fault : goal.returns-in_err-scheme-clause-fault
returns-in_err-scheme-clause-fault c =
    let p = err_from_is_err_and c.from_residual.result c.from_residual.ensures.1 in
    rw (p.1, p.2) (
      c.in_err-scheme.ensures.fault.0,
      λ scheme reported. c.in_err-scheme.ensures.fault.1 reported.0 reported.1,
    )

pub returns-in-Some-clause-found : goal.returns-in-Some-clause-found
returns-in-Some-clause-found c =
    (_, rw c.in-Some.is at c.in_ok-scheme.ensures.found, refl)
