use Rattle.std.proofs.Common.{◌≡◌, ℕ, List, sym, ap, take, rules}
use Rattle.std.proofs.lemmas.List.{take-append-drop}
use Rattle.http2.proofs.Calls.{found_bytes}
use Rattle.http2.proofs.wire.Wire.next.Goals as goal

pub returns-clause-frame : goal.returns-clause-frame
returns-clause-frame c = λ f is.
    let n : ℕ = c.in-Some.size in
    let rest : List ℕ = c.args.self.now.rest in
    let same : c.in_ok-from_slice.field-0.items ≡ f.bytes.items = ap (λ r. found_bytes r) is in
    let first : c.in_ok-from_slice.field-0.items ≡ take n rest = search rules in
    rw (← same, first, c.skip.ensures) (sym (take-append-drop n rest))
