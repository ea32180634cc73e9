use Rattle.std.proofs.Common.{◌≡◌, ℕ, Option, true, sym, ap₂}
use Rattle.http2.specs.Answer.{is_whole}
use Rattle.http2.specs.Control.{ends}
use Rattle.http2.specs.Controls.{control_view}
use Rattle.http2.specs.Message.{Told}
use Rattle.http2.specs.declared.end.End.TheVariants.{Status}
use Rattle.http2.proofs.control.Control.status_came.Goals as goal

pub returns-clause-next : goal.returns-clause-next
returns-clause-next c =
    let whole : is_whole c.args.self.now.left ≡ true = sym c.if-not-is_whole.ensures in
    rw whole (ap₂ (λ (n : Option ℕ) (t : Told). ends (Status n) (record (control_view c.args.self.now) { told = t }))
    (rw c.as_slice.ensures at c.number_of.ensures) c.in_ok-self.ensures)
