-- Reading from left to right: a value, or the first fault.
use Rattle.std.specs.Prelude.{◌≡◌, Result, Ok, Err}
use Rattle.hpack.specs.declared.fault.Fault.{Fault}
use Rattle.hpack.specs.declared.fault.HpackError.{HpackError}
use Rattle.hpack.specs.declared.fault.HpackError.TheVariants as errors

infixl 10 ◌>>=◌
-- what is read next, by the value before it; the first fault stays
abbrev pub ◌>>=◌ : {A B : Type 0} → Result A Fault → (A → Result B Fault) → Result B Fault
(Ok x) >>= f = f x
(Err e) >>= f = Err e

-- the error is the fault of what was to be read, or memory ran out
abbrev pub Fails : {Y : Type 0} → HpackError → Result Y Fault → Type 0
Fails errors.Memory read = Unit {0}
Fails errors.Closed read = ⊥
Fails (errors.Compression f) read = read ≡ Err f

-- what was returned, seen by view, is what was to be read, unless memory ran out
abbrev pub Gives : {X Y : Type 0} → (X → Y) → Result X HpackError → Result Y Fault → Type 0
Gives view (Ok x) read = read ≡ Ok (view x)
Gives view (Err e) read = Fails e read
