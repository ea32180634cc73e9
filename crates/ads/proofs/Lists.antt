-- Lists: one of the elements, and what holds of each of them.
use Rattle.std.proofs.Common.{◌≡◌, ℕ, zero, suc, ◌+◌, ◌<◌, ◌⊎◌, inl, inr, List, [], ◌∷◌, ◌++◌, length, map, take, get_or, arith}
use Rattle.std.specs.List.{AllZip, AllByRecursion}
use Rattle.std.proofs.lemmas.List.{map_more, map-append}
use Rattle.std.proofs.lemmas.Result.{err_from_is_err_and}
use Rattle.std.specs.Prelude.{Result, IfErr, IsErrAnd}
use Rattle.proto_wire.specs.declared.refusal.Refusal.{Refusal}
use Rattle.proto_wire.specs.Merge.{SomeOf}
use Rattle.ads.specs.Answer.{FirstOf}
use Rattle.ads.specs.Judgements.{FirstAt}
pub use Rattle.xds_wire.proofs.Each.{zip_push}

-- the element at a place is one of the elements
pub some_at : {A B : Type 0} (P : B → Type 0) (view : A → B) (xs : List A) (i : ℕ) (d : A)
    → i < length xs → P (view (get_or xs i d)) → SomeOf P (map view xs)
some_at P view [] i d within p = absurd (omega arith)
some_at P view (x ∷ xs) zero d within p = inl p
some_at P view (x ∷ xs) (suc i) d within p = inr (some_at P view xs i d (omega arith) p)

-- one of two lists
pub some_append : {A : Type 0} (P : A → Type 0) (xs ys : List A) → SomeOf P (xs ++ ys)
    → SomeOf P xs ⊎ SomeOf P ys
some_append P [] ys p = inr p
some_append P (x ∷ xs) ys (inl p) = inl (inl p)
some_append P (x ∷ xs) ys (inr p) = elim (some_append P xs ys p) [
  | inl here ↦ inl (inr here)
  | inr there ↦ inr there
]

-- one of the elements, by a weaker property
pub some_weaker : {A : Type 0} (P Q : A → Type 0) → ((x : A) → P x → Q x) → (xs : List A)
    → SomeOf P xs → SomeOf Q xs
some_weaker P Q weaker [] p = absurd p
some_weaker P Q weaker (x ∷ xs) (inl p) = inl (weaker x p)
some_weaker P Q weaker (x ∷ xs) (inr p) = inr (some_weaker P Q weaker xs p)

-- none of the elements so far, nor the next
pub none_more : {A B : Type 0} (P : B → Type 0) (view : A → B) (xs : List A) (i : ℕ) (d : A)
    → i < length xs → (SomeOf P (map view (take i xs)) → ⊥) → (P (view (get_or xs i d)) → ⊥)
    → SomeOf P (map view (take (i + 1) xs)) → ⊥
none_more P view xs i d within none not some =
    elim (some_append P (map view (take i xs)) (view (get_or xs i d) ∷ [])
    (rw (map_more view xs i d within) at some)) [
      | inl before ↦ none before
      | inr (inl last) ↦ not last
      | inr (inr bad) ↦ absurd bad
    ]

-- one element more
pub all_push : {A : Type 0} (P : A → Type 0) (xs : List A) (x : A)
    → AllByRecursion P xs → P x → AllByRecursion P (xs ++ x ∷ [])
all_push P [] x all more = (more, tt)
all_push P (y ∷ xs) x (first, all) more = (first, all_push P xs x all more)

-- one element more, seen by a view
pub all_more : {A B : Type 0} (P : B → Type 0) (view : A → B) (xs : List A) (i : ℕ) (d : A)
    → i < length xs → AllByRecursion P (map view (take i xs)) → P (view (get_or xs i d))
    → AllByRecursion P (map view (take (i + 1) xs))
all_more P view xs i d within all more =
    rw (map_more view xs i d within) (all_push P (map view (take i xs)) (view (get_or xs i d)) all more)

-- one pair more, both seen by views
pub zip_more : {A B C D : Type 0} (R : B → D → Type 0) (seen : A → B) (view : C → D) (xs : List A)
    (i : ℕ) (d : A) (items now : List C) (x : C)
    → i < length xs → AllZip R (map seen (take i xs)) (map view items)
    → R (seen (get_or xs i d)) (view x) → now ≡ items ++ x ∷ []
    → AllZip R (map seen (take (i + 1) xs)) (map view now)
zip_more R seen view xs i d items now x within so_far is pushed =
    rw (pushed, map-append view items (x ∷ []), map_more seen xs i d within)
    (zip_push R (map seen (take i xs)) (map view items) (seen (get_or xs i d)) (view x) so_far is)

-- one of two properties holds of the first element, or the one of some element
pub first_or : {A : Type 0} (Q P R : A → Type 0) (xs : List A) → FirstOf Q (λ x. P x ⊎ R x) xs
    → SomeOf P xs ⊎ FirstOf Q R xs
first_or Q P R [] first = absurd first
first_or Q P R (x ∷ xs) (inl (inl p)) = inl (inl p)
first_or Q P R (x ∷ xs) (inl (inr r)) = inr (inl r)
first_or Q P R (x ∷ xs) (inr (q, more)) = elim (first_or Q P R xs more) [
  | inl p ↦ inl (inr p)
  | inr r ↦ inr (inr (q, r))
]

-- the first element, by a weaker property
pub first_weaker : {A : Type 0} (Q P R : A → Type 0) → ((x : A) → P x → R x) → (xs : List A)
    → FirstOf Q P xs → FirstOf Q R xs
first_weaker Q P R weaker [] first = absurd first
first_weaker Q P R weaker (x ∷ xs) (inl p) = inl (weaker x p)
first_weaker Q P R weaker (x ∷ xs) (inr (q, more)) = inr (q, first_weaker Q P R weaker xs more)

-- the first element is one of them
pub first_some : {A : Type 0} (Q P : A → Type 0) (xs : List A) → FirstOf Q P xs → SomeOf P xs
first_some Q P [] first = absurd first
first_some Q P (x ∷ xs) (inl p) = inl p
first_some Q P (x ∷ xs) (inr (q, more)) = inr (first_some Q P xs more)

-- what does not speak of the first element holds by itself
pub first_with : {A : Type 0} (Q P : A → Type 0) (C : Type 0) (xs : List A) → FirstOf Q (λ x. P x × C) xs
    → FirstOf Q P xs × C
first_with Q P C [] first = absurd first
first_with Q P C (x ∷ xs) (inl (p, is)) = (inl p, is)
first_with Q P C (x ∷ xs) (inr (q, more)) =
    let reported = first_with Q P C xs more in (inr (q, reported.0), reported.1)

-- the first element, between others
pub first_middle : {A B : Type 0} (Q P : A → Type 0) (R : A → B → Type 0) → ((x : A) (y : B) → R x y → Q x)
    → (xs : List A) (ys : List B) (x : A) (behind : List A) → AllZip R xs ys → P x
    → FirstOf Q P (xs ++ x ∷ behind)
first_middle Q P R reports [] ys x behind all p = inl p
first_middle Q P R reports (other ∷ xs) [] x behind all p = absurd all
first_middle Q P R reports (other ∷ xs) (y ∷ ys) x behind (is, all) p =
    inr (reports other y is, first_middle Q P R reports xs ys x behind all p)

-- the element after others
pub first_place : {A B : Type 0} (Q P : A → Type 0) (R : A → B → Type 0) → ((x : A) (y : B) → R x y → Q x)
    → (xs : List A) (ys : List B) (x : A) (behind : List A) → AllZip R xs ys → P x
    → FirstAt Q P (length ys) (xs ++ x ∷ behind)
first_place Q P R reports [] [] x behind all p = p
first_place Q P R reports [] (y ∷ ys) x behind all p = absurd all
first_place Q P R reports (other ∷ xs) [] x behind all p = absurd all
first_place Q P R reports (other ∷ xs) (y ∷ ys) x behind (is, all) p =
    (reports other y is, first_place Q P R reports xs ys x behind all p)

-- the element at a place is the first
pub first_of_at : {A : Type 0} (Q P : A → Type 0) (place : ℕ) (xs : List A) → FirstAt Q P place xs → FirstOf Q P xs
first_of_at Q P place [] first = absurd first
first_of_at Q P zero (x ∷ xs) p = inl p
first_of_at Q P (suc place) (x ∷ xs) (q, more) = inr (q, first_of_at Q P place xs more)

-- the element at a place, where those before it were read
first_at : {A B C D : Type 0} (R : B → D → Type 0) (P : B → Type 0) (seen : A → B) (view : C → D) (xs : List A)
    (i : ℕ) (d : A) (items : List C)
    → i < length xs → AllZip R (map seen (take i xs)) (map view items) → P (seen (get_or xs i d))
    → FirstOf (λ x. (y : D) × R x y) P (map seen xs)
first_at R P seen view [] i d items within all p = absurd (omega arith)
first_at R P seen view (x ∷ xs) zero d items within all p = inl p
first_at R P seen view (x ∷ xs) (suc i) d [] within all p = absurd all
first_at R P seen view (x ∷ xs) (suc i) d (y ∷ ys) within (is, all) p =
    inr ((view y, is), first_at R P seen view xs i d ys (omega arith) all p)

-- at a `?` on the reader of one element, where those before it were read
pub exit_first : {A B C D : Type 0} (R : B → D → Type 0) (F : B → Refusal → Type 0) (seen : A → B) (view : C → D)
    (xs : List A) (i : ℕ) (d : A) (items : List C)
    → i < length xs → AllZip R (map seen (take i xs)) (map view items)
    → {T : Type 0} (r : Result T Refusal) (e : Refusal) → IsErrAnd r (λ y. y ≡ e) → F (seen (get_or xs i d)) e
    → IfErr r (λ b. FirstOf (λ x. (y : D) × R x y) (λ x. F x b) (map seen xs))
exit_first R F seen view xs i d items within all r e left fault =
    let p = err_from_is_err_and r left in
    rw (p.1, p.2) (first_at R (λ x. F x e) seen view xs i d items within all fault)

-- what does not speak of the element holds by itself
pub some_with : {A : Type 0} (P : A → Type 0) (Q : Type 0) (xs : List A) → SomeOf (λ x. P x × Q) xs
    → SomeOf P xs × Q
some_with P Q [] p = absurd p
some_with P Q (x ∷ xs) (inl (p, q)) = (inl p, q)
some_with P Q (x ∷ xs) (inr more) = let reported = some_with P Q xs more in (inr reported.0, reported.1)
