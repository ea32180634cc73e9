use Rattle.std.proofs.Common.{◌≡◌, ◌∙◌, Option, Some, None, ℕ, codes, refl, sym}
use Rattle.clap.specs.Words.{Text, found_of, one_text, rows_of}
use Rattle.clap.proofs.WalkLemmas.{first_value-rows, one_text-rows}
use Rattle.command_line.specs.Words.{IsConnectionOf}
use Rattle.command_line.proofs.words.connection_of.Goals as goal

pub returns-in_default-clause-connection : goal.returns-in_default-clause-connection
returns-in_default-clause-connection c =
    sym (first_value-rows (found_of c.args.matches.now) (codes "connection")) ∙ sym c.in_default.ensures

pub returns-clause-connection : goal.returns-clause-connection
returns-clause-connection c = by_text (one_text (found_of c.args.matches.now) (codes "connection")) refl
  where
    by_text : (o : Option Text) → one_text (found_of c.args.matches.now) (codes "connection") ≡ o
        → IsConnectionOf (rows_of (found_of c.args.matches.now)) (Some c.in_ok-k.k)
    by_text None e = let none = c.get_one.ensures.none e in let was = c.in_ok-k.was in cc
    by_text (Some t) e =
        let read = rw c.in_ok-k.was at (c.get_one.ensures.value t e) in
        (t, sym (one_text-rows (found_of c.args.matches.now) (codes "connection")) ∙ e, read.0)

pub returns-in_err-k-clause-none : goal.returns-in_err-k-clause-none
returns-in_err-k-clause-none c = rw c.from_residual.ensures none_of
  where
    none_of : (connection : Option ℕ) → ¬ (IsConnectionOf (rows_of (found_of c.args.matches.now)) connection)
    none_of None held =
        let first = first_value-rows (found_of c.args.matches.now) (codes "connection") ∙ held in
        let some = c.in-Some.ensures in cc
    none_of (Some k) (text, given, number) =
        let one = one_text-rows (found_of c.args.matches.now) (codes "connection") ∙ given in
        let read = rw c.in_err-k.was at (c.get_one.ensures.value text one) in
        read.1.0 number.0
