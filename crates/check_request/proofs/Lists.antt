-- Lists in the code and in the definitions.
use Rattle.std.proofs.Common.{◌≡◌, ◌≢◌, ℕ, zero, suc, ◌-◌, Some, Bool, true, false, cond, List, [], ◌∷◌, length, map, filter, ap, refl, sym, ◌∙◌, arith}
use Rattle.std.specs.Borrow.{Bor}
use Rattle.std.specs.List.{slice_get}
use Rattle.proto_wire.specs.Merge.{parts_view}
use Rattle.check_request.specs.Lines.{last_payload}

-- a test of the views keeps the same elements
pub filter_view : {A M : Type 0} (view : A → M) (test : M → Bool) (xs : List A)
    → map view (filter (λ x. test (view x)) xs) ≡ filter test (map view xs)
filter_view view test [] = refl
filter_view {A} {M} view test (x ∷ xs) = elim (test (view x)) as (λ t.
    map view (cond t (x ∷ filter (λ y. test (view y)) xs) (filter (λ y. test (view y)) xs))
    ≡ cond t (view x ∷ filter test (map view xs)) (filter test (map view xs))) [
      | true ↦ ap (λ (more : List M). view x ∷ more) (filter_view view test xs)
      | false ↦ filter_view view test xs
    ]

-- payloads in the code are none where there are none, and else some
pub parts_some : (slices : List (Bor (List ℕ))) (parts : List (List ℕ)) → parts_view slices ≡ parts
    → slices ≢ [] → parts ≢ []
parts_some [] parts is some = absurd (some refl)
parts_some (s ∷ slices) [] is some = λ none. cc is
parts_some (s ∷ slices) (p ∷ parts) is some = λ none. cc none

pub parts_none : (slices : List (Bor (List ℕ))) (parts : List (List ℕ)) → parts_view slices ≡ parts
    → slices ≡ [] → parts ≡ []
parts_none slices parts is none = sym is ∙ ap parts_view none

-- the last payload is that at the last place
last_from : (slices : List (Bor (List ℕ))) (n : ℕ) (s : Bor (List ℕ)) → length slices ≡ suc n
    → Some s ≡ slice_get slices n → s.now ≡ last_payload (parts_view slices)
last_from [] n s long is = absurd (omega arith)
last_from (x ∷ []) zero s long is =
    let same : s ≡ x = cc in
    ap (λ (t : Bor (List ℕ)). t.now) same
last_from (x ∷ []) (suc n) s long is = absurd (omega arith)
last_from (x ∷ y ∷ slices) zero s long is = absurd (omega arith)
last_from (x ∷ y ∷ slices) (suc n) s long is = last_from (y ∷ slices) n s (omega arith) is

pub last_at : (slices : List (Bor (List ℕ))) (s : Bor (List ℕ))
    → Some s ≡ slice_get slices (length slices - 1) → s.now ≡ last_payload (parts_view slices)
last_at [] s is = absurd cc
last_at (x ∷ slices) s is =
    let place : length (x ∷ slices) - 1 ≡ length slices = omega arith in
    last_from (x ∷ slices) (length slices) s refl (rw place at is)
