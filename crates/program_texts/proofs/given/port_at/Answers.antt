-- A port is a number below 65,536.
use Rattle.std.proofs.Common.{ℕ, Option, None, Some}
use Rattle.std.proofs.lemmas.Result.{err_from_is_err_and}
use Rattle.serde_json.specs.Data.{Data}
use Rattle.program_texts.specs.Facts.{IsNumber, IsPortNumber, BothOrNone}
use Rattle.program_texts.proofs.given.port_at.Goals as goal

-- a port is a number
number_of_port : (d : Option Data) (n : Option ℕ) → BothOrNone IsPortNumber d n → BothOrNone IsNumber d n
number_of_port None None reported = reported
number_of_port None (Some n) reported = reported
number_of_port (Some d) None reported = reported
number_of_port (Some d) (Some n) reported = reported.0

pub returns-in_err-number_at-clause-fault : goal.returns-in_err-number_at-clause-fault
returns-in_err-number_at-clause-fault c =
    let p = err_from_is_err_and c.from_residual.result c.from_residual.ensures.1 in
    rw (p.1, p.2) (c.in_err-number_at.ensures.fault.0, λ n reported. c.in_err-number_at.ensures.fault.1 n (number_of_port _ n reported))
