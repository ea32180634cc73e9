use Rattle.std.proofs.Common.{◌≡◌, Option, Some, None, refl, sym, ◌∙◌, arith, codes}
use Rattle.clap.specs.Words.{Text, found_of, one_text, rows_of}
use Rattle.clap.proofs.WalkLemmas.{one_text-rows}
use Rattle.command_line.specs.Words.{AreRoundsOf}
use Rattle.command_line.proofs.words.rounds_of.Goals as goal

pub returns-clause-rounds : goal.returns-clause-rounds
returns-clause-rounds c = by_text (one_text (found_of c.args.matches.now) (codes "rounds")) refl
  where
    by_text : (o : Option Text) → one_text (found_of c.args.matches.now) (codes "rounds") ≡ o
        → AreRoundsOf (rows_of (found_of c.args.matches.now)) c.in_ok-rounds.rounds
    by_text None e = let none = c.get_one.ensures.none e in let was = c.in_ok-rounds.was in cc
    by_text (Some t) e =
        let read = rw c.in_ok-rounds.was at (c.get_one.ensures.value t e) in
        record {
          text = t;
          given = sym (one_text-rows (found_of c.args.matches.now) (codes "rounds")) ∙ e;
          number = read.0;
          allowed = omega arith;
        }

pub returns-in_err-rounds-clause-none : goal.returns-in_err-rounds-clause-none
returns-in_err-rounds-clause-none c =
    rw c.from_residual.ensures (λ rounds r.
    let text = one_text-rows (found_of c.args.matches.now) (codes "rounds") ∙ r.given in
    let read = rw c.in_err-rounds.was at (c.get_one.ensures.value r.text text) in
    read.1.0 r.number.0)

pub returns-then-rounds-gt-MOST_ROUNDS-clause-none : goal.returns-then-rounds-gt-MOST_ROUNDS-clause-none
returns-then-rounds-gt-MOST_ROUNDS-clause-none c rounds r =
    let text = one_text-rows (found_of c.args.matches.now) (codes "rounds") ∙ r.given in
    let read = rw c.in_ok-rounds.was at (c.get_one.ensures.value r.text text) in
    let same : rounds ≡ c.in_ok-rounds.rounds = r.number.1 ∙ sym read.0.1 in
    omega (arith, same, r.allowed, c.if-rounds-gt-MOST_ROUNDS.true)
