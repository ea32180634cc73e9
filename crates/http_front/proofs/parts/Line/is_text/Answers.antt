use Rattle.std.proofs.Common.{refl, true≢false, sym}
use Rattle.std.proofs.lemmas.Str.{IsUtf8-from_ascii}
use Rattle.std.specs.Prelude.{◌↔◌, IsTrue, MatchResult, Result, Ok, Err, is_ok}
use Rattle.http_front.proofs.HeadTexts.{raw_of_text, text_of_raw}
use Rattle.http_front.proofs.parts.Line.is_text.Goals as goal

-- what the test of the bytes says of what they mean
decided : {A E : Type 0} (r : Result A E) (P Q : Type 0) (P' : A → Type 0) (Q' : E → Type 0)
    → MatchResult r (λ a. P' a × P) (λ e. ¬ P × Q' e) → (P → Q) → (Q → P) → IsTrue (is_ok r) ↔ Q
decided (Ok a) P Q P' Q' h to from = (λ yes. to h.1, λ q. refl)
decided (Err e) P Q P' Q' h to from = (λ yes. absurd (true≢false (sym yes)), λ q. absurd (h.0 (from q)))

pub returns-then-is_ascii : goal.returns-then-is_ascii
returns-then-is_ascii c = (
  λ yes. text_of_raw c.args.self.now.value.now
      (IsUtf8-from_ascii c.args.self.now.value.now c.if-is_ascii.ensures.cases),
  λ text. refl,
)

pub returns : goal.returns
returns c =
    rw c.is_ok.ensures.value
    (decided c.from_utf8.result _ _ _ _ c.from_utf8.ensures.cases (text_of_raw c.args.self.now.value.now)
    (raw_of_text c.args.self.now.value.now))
