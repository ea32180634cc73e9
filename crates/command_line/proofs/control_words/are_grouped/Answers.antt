use Rattle.std.proofs.Common.{◌≡◌, ◌≤◌, ◌↔◌, ◌+◌, ◌*◌, ◌/◌, ◌%◌, ℕ, IsTrue, arith, nat_eq, refl}
use Rattle.std.proofs.Math.Nat.{mul-mod_left}
use Rattle.std.proofs.lemmas.Bool.Decides.{Decides-eqb}
use Rattle.std.proofs.lemmas.Nat.{div-add-mod'}
use Rattle.command_line.specs.Words.{AreGrouped}
use Rattle.command_line.proofs.control_words.are_grouped.Goals as goal

-- no file is left over exactly if the files are some snapshots
none_over : (names files : ℕ) → 1 ≤ names → IsTrue (nat_eq (files % names) 0) ↔ AreGrouped names files
none_over names files some = (
  λ yes.
      let none : files % names ≡ 0 = (Decides-eqb (files % names) 0).0 yes in
      let whole : files / names * names + files % names ≡ files = div-add-mod' files names in
      (some, (files / names, omega (arith, whole, none))),
  λ grouped. rw (grouped.1.1, mul-mod_left grouped.1.0 names) refl,
)

pub returns : goal.returns
returns c = none_over c.args.names c.args.files (omega (arith, c.if-names-eq0.false))
