use Rattle.std.proofs.Common.{◌≡◌, ℕ, List, drop, sym, ap, arith}
use Rattle.rbac_serve.proofs.outbox.Outbox.drop_first.Goals as goal

pub returns-else-count-gt0 : goal.returns-else-count-gt0
returns-else-count-gt0 c =
    let none : c.args.count ≡ 0 = omega (arith, c.if-count-gt0.false) in
    sym (ap (λ (n : ℕ). drop n c.args.self.now) none)
