use Rattle.std.proofs.Common.{◌≡◌, ℕ, List, ◌++◌, inl, inr, sym, ap, take, drop, Ok, rules}
use Rattle.std.proofs.lemmas.List.{take-append-drop}
use Rattle.std.proofs.lemmas.Result.{err_from_is_err_and}
use Rattle.http2.specs.Lines.{unread}
use Rattle.http2.specs.Call.{memory, beyond}
use Rattle.http2.proofs.Calls.{found_bytes}
use Rattle.http2.proofs.pipe.Pipe.next.Goals as goal

pub returns-in_err-account-clause-fault : goal.returns-in_err-account-clause-fault
returns-in_err-account-clause-fault c =
    let p = err_from_is_err_and c.from_residual-in_err-account.result c.from_residual-in_err-account.ensures.1 in
    let fault = c.in_err-account.ensures.fault in
    let n : ℕ = c.in-Some.size in
    let rest : List ℕ = c.args.self.now.rest in
    let frame : List ℕ = c.in_ok-from_slice.field-0.items in
    let first : frame ≡ take n rest = search rules in
    let is = rw c.as_slice.ensures at (c.in_ok-size.ensures.frame n (ap (λ o. Ok o) c.in-Some.is)).1 in
    let whole : rest ≡ frame ++ drop n rest = rw first (sym (take-append-drop n rest)) in
    rw (p.1, p.2) (
      elim fault.0 [ inl m ↦ memory m | inr b ↦ beyond frame (drop n rest) whole (rw first is) b.1 b.0 ],
      ap (λ q. unread q) fault.1,
      rw fault.1 (λ trail came sent took gave law. law),
    )

pub returns-clause-law : goal.returns-clause-law
returns-clause-law c = λ f is.
    let same : c.in_ok-from_slice.field-0.items ≡ f.bytes.items = ap (λ r. found_bytes r) is in
    rw (← same) c.in_ok-account.ensures.law
