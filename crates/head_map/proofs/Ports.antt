-- A port is read from its digits alone.
use Rattle.std.proofs.Common.{◌≡◌, ◌≢◌, ℕ, List, MatchOption, Result, Ok, Err, get_or, arith}
use Rattle.std.specs.Result.{result_ok}
use Rattle.std.specs.Str.Parse.{AllDigits, ParsesUnsigned, digits_value}
use Rattle.std.proofs.lemmas.Str.Parse.{IsNumeralModel, digit_at, numerals_by_value, parse_plain, tells_digits}
use Rattle.head_map.specs.Claims.{IsPortText}

own : IsNumeralModel (AllDigits 10) (digits_value 10)
own = numerals_by_value (AllDigits 10) tells_digits

-- no port begins with a plus
pub no_plus : (text : List ℕ) (port : ℕ) → get_or text 0 0 ≡ 43 → ¬ (IsPortText text port)
no_plus text port plus ((some, digits), below, is) =
    let digit = digit_at text 0 digits some in absurd (omega (arith, digit, plus))

pub port_of : {E : Type 0} (text : List ℕ) (r : Result ℕ E) → ParsesUnsigned 16 10 text r → get_or text 0 0 ≢ 43
    → MatchOption (result_ok r) ((port : ℕ) → ¬ (IsPortText text port)) (λ port. IsPortText text port)
port_of {E = E} text (Ok n) parses plain =
    let read = parse_plain own {E = E} 16 text (Ok n) parses plain in
    ((read.0.1, read.0.0), read.0.2, read.1)
port_of {E = E} text (Err e) parses plain =
    let read = parse_plain own {E = E} 16 text (Err e) parses plain in
    λ port ((some, digits), below, is). read (digits, some, below)
