use Rattle.std.proofs.Common.{◌≡◌, ◌∙◌, ◌⊎◌, List, true, [], refl, sym, ap, subst, map, inl, inr}
use Rattle.std.proofs.lemmas.Result.{err_from_is_err_and}
use Rattle.clap.specs.Words.{App, IsAmong, Text, is_simple, is_simple_and_free, fault_of, subcommand_of}
use Rattle.clap.specs.declared.error.kind.ErrorKind.{ErrorKind}
use Rattle.clap.specs.declared.error.kind.ErrorKind.TheVariants.{OutOfMemory}
use Rattle.clap.proofs.OnLiterals.{clap_on_literals}
use Rattle.command_line.specs.Words.{AreMistaken, AreTaken, rbacd_app}
use Rattle.command_line.proofs.words.read_words.Goals as goal

is_simple_app : is_simple rbacd_app ≡ true
unfolding clap_on_literals
is_simple_app = refl

is_free_app : is_simple_and_free rbacd_app ≡ true
unfolding clap_on_literals
is_free_app = refl

-- what is so of the program's command, by whatever name it goes
module _ (app : App) (is : app ≡ rbacd_app) (words : List Text) where
  free : is_simple_and_free app ≡ true
  free = ap is_simple_and_free is ∙ is_free_app

  taken : (is_simple_and_free app ≡ true → fault_of app words ≡ []) → AreTaken words
  taken fails = ap (λ (a : App). fault_of a words) (sym is) ∙ fails free

  mistaken : (kind : ErrorKind) → (is_simple_and_free app ≡ true → (kind ≡ OutOfMemory) ⊎ IsAmong kind (fault_of app words))
      → (kind ≡ OutOfMemory) ⊎ AreMistaken words kind
  mistaken kind fails = elim (fails free) [
    | inl memory ↦ inl memory
    | inr among ↦ inr (inl (let P : App → Type 0 = λ a. IsAmong kind (fault_of a words) in subst P is among))
  ]

pub returns-in_err-matches-clause-mistaken : goal.returns-in_err-matches-clause-mistaken
returns-in_err-matches-clause-mistaken g c =
    let p = err_from_is_err_and c.from_residual-in_err-matches.result
    c.from_residual-in_err-matches.ensures.1 in
    let words : List Text = map g.S.AsStr.text c.args.words.now in
    rw (p.1, p.2) (mistaken _ c.in_ok-command.ensures words _ c.in_err-matches.ensures.kinds)

pub returns-in-Some-clause-job : goal.returns-in-Some-clause-job
returns-in-Some-clause-job g c =
    let app = c.in_ok-command.ensures in
    let words : List Text = map g.S.AsStr.text c.args.words.now in
    let parsed = (c.in_ok-matches.ensures.matches (ap is_simple app ∙ is_simple_app)).1
    ∙ ap (λ (a : App). subcommand_of a words) app in
    let job = rw c.in-Some.is at c.in_ok-job.ensures.job in
    (taken _ app words c.in_ok-matches.ensures.kinds, rw parsed at job)

pub returns-clause-mistaken : goal.returns-clause-mistaken
returns-clause-mistaken g c =
    let app = c.in_ok-command.ensures in
    let words : List Text = map g.S.AsStr.text c.args.words.now in
    let parsed = (c.in_ok-matches.ensures.matches (ap is_simple app ∙ is_simple_app)).1
    ∙ ap (λ (a : App). subcommand_of a words) app in
    let none = rw c.in-None.is at c.in_ok-job.ensures.none in
    inr (inr (c.in_ok-value_fault-in-None.ensures, taken _ app words c.in_ok-matches.ensures.kinds, rw parsed at none))
