-- A served call whose peer has sent no whole frame.
use Rattle.std.proofs.Common.{◌≡◌, ℕ, ◌+◌, ◌-◌, min, Bool, true, false, not, List, [], ◌∷◌, ◌++◌, length, take, drop, refl, sym, ap, ◌∙◌, subst, true≢false, arith, length-append}
use Rattle.std.specs.Str.{bytes_eq}
use Rattle.std.proofs.lemmas.List.{length-drop, length-take-le, take_all, take_rest}
use Rattle.std.proofs.lemmas.Slice.Eq.{bytes_eq-Decides}
use Rattle.http2.specs.Frame.{Parts, size_of}
use Rattle.http2.specs.Trail.{Step, got, put, AreFrames, bytes_got, preface}
use Rattle.http2.specs.Serving.{ServingValue, Turn, on, over, first_serving}
use Rattle.http2.specs.Served.{Serves}
use Rattle.http2.specs.Exchanged.{IsWrong}

abbrev is_some_list : List ℕ → Bool
is_some_list [] = false
is_some_list (x ∷ xs) = true

-- texts that are empty together are empty
pub first_empty : (xs ys : List ℕ) → xs ++ ys ≡ [] → xs ≡ []
first_empty [] ys none = refl
first_empty (x ∷ xs) ys none = absurd (true≢false (ap (λ (l : List ℕ). is_some_list l) none))

-- a frame has octets
some_octets : (before frame : List ℕ) → length frame ≡ 9 + size_of frame → before ++ frame ≡ [] → ⊥
some_octets before frame whole none =
    let sum = ap (λ (l : List ℕ). length l) none in
    let both = length-append before frame in
    absurd (omega (arith, sum, both, whole))

-- where no octet came, no frame did
pub none_came : (trail : List Step) → AreFrames trail → bytes_got trail ≡ [] → Serves trail (on first_serving) []
none_came [] frames none = (refl, refl)
none_came (got frame ∷ trail) (is, frames) none = absurd (some_octets (bytes_got trail) frame is.whole none)
none_came (put frame ∷ trail) (is, frames) none = none_came trail frames none

abbrev value_of : Turn → ServingValue
value_of (on c) = c
value_of (over o r) = first_serving

-- and the call is as it began
pub as_begun : (trail : List Step) (c : ServingValue) (owed : List Parts) → AreFrames trail → bytes_got trail ≡ [] → Serves trail (on c) owed
    → c ≡ first_serving
as_begun [] c owed frames none serves = ap (λ (t : Turn). value_of t) serves.0
as_begun (got frame ∷ trail) c owed (is, frames) none serves = absurd (some_octets (bytes_got trail) frame is.whole none)
as_begun (put frame ∷ trail) c owed (is, frames) none serves = as_begun trail c owed frames none serves

-- ---- the octets of the preface

not_false : (b : Bool) → false ≡ not b → b ≡ true
not_false true is = refl
not_false false is = absurd (true≢false (sym is))

-- octets that do not differ from the rest of the preface are its next ones
pub next_of_preface : (n greeted : ℕ) (said bytes : List ℕ) → said ≡ preface
    → false ≡ not (bytes_eq (take n bytes) (take n (take (length said - greeted) (drop greeted said))))
    → take n bytes ≡ take n (drop greeted preface)
next_of_preface n greeted said bytes is test =
    (bytes_eq-Decides (take n bytes) (take n (take (length said - greeted) (drop greeted said)))).0 (not_false _ test)
    ∙ ap (λ (t : List ℕ). take n t) (take_rest said greeted)
    ∙ ap (λ (t : List ℕ). take n (drop greeted t)) is

not_true : (b : Bool) → true ≡ not b → b ≡ false
not_true true is = absurd (true≢false is)
not_true false is = refl

-- octets that differ from them are not
pub other_than_preface : (n greeted : ℕ) (said bytes : List ℕ) → said ≡ preface
    → true ≡ not (bytes_eq (take n bytes) (take n (take (length said - greeted) (drop greeted said))))
    → take n bytes ≡ take n (drop greeted preface) → ⊥
other_than_preface n greeted said bytes is test same =
    let rest : take n (take (length said - greeted) (drop greeted said)) ≡ take n (drop greeted preface) =
    ap (λ (t : List ℕ). take n t) (take_rest said greeted) ∙ ap (λ (t : List ℕ). take n (drop greeted t)) is in
    true≢false (sym ((bytes_eq-Decides (take n bytes) (take n (take (length said - greeted) (drop greeted said)))).1 (same ∙ sym rest))
    ∙ not_true _ test)

-- as many of the octets that are compared as are kept, if none were before
module _ (n m greeted : ℕ) (bytes rest : List ℕ) (count : n ≡ min (length bytes) (24 - greeted))
    (kept : m ≡ min (length (take n bytes)) (16393 - length rest)) (none : rest ≡ []) where
  compared : length (take n bytes) ≡ n
  compared = length-take-le n bytes (omega (arith, count))

  all_kept : m ≡ n
  all_kept =
      let empty : length rest ≡ 0 = ap (λ (t : List ℕ). length t) none in
      omega (arith, count, kept, compared, empty)

  pub kept_octets : take m (take n bytes) ≡ take m bytes
  kept_octets =
      subst (λ (k : ℕ). take k (take n bytes) ≡ take k bytes) (sym all_kept) (take_all n (take n bytes) (omega (arith, compared)))

  -- others than the preface's are wrong
  pub wrong_octets : (take n bytes ≡ take n (drop greeted preface) → ⊥) → IsWrong greeted (take m bytes)
  wrong_octets other =
      subst (λ (k : ℕ). IsWrong greeted (take k bytes)) (sym all_kept) (λ same. other
      (sym (take_all (24 - greeted) (take n bytes) (omega (arith, count, compared))) ∙ same
      ∙ ap (λ (k : ℕ). take k (drop greeted preface)) compared))

-- how many of them are compared
pub count_of_preface : (n greeted : ℕ) (said bytes : List ℕ) → said ≡ preface
    → n ≡ min (length (take (length said - greeted) (drop greeted said))) (length bytes)
    → n ≡ min (length bytes) (24 - greeted)
count_of_preface n greeted said bytes is count =
    let whole : length said ≡ 24 = ap (λ (t : List ℕ). length t) is in
    let rest : length (take (length said - greeted) (drop greeted said)) ≡ length said - greeted =
    ap (λ (t : List ℕ). length t) (take_rest said greeted) ∙ length-drop greeted said in
    omega (arith, count, rest, whole)
