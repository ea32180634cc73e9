-- The places of filters, with one filter more.
use Rattle.std.proofs.Common.{◌≡◌, ◌∙◌, ℕ, suc, ◌+◌, ◌<◌, ◌++◌, List, [], ◌∷◌, Bool, true, false, ap, get_or, refl, length, take, arith}
use Rattle.std.proofs.lemmas.List.{length-take-le, take_more}
use Rattle.serve_observe.specs.Places.{places_from}

-- which is given policies
pub given_more : (k : ℕ) (given : List Bool)
    → places_from k (given ++ true ∷ []) ≡ places_from k given ++ (k + length given) ∷ []
given_more k [] =
    let at : k ≡ k + 0 = omega arith in
    ap (λ n. n ∷ []) at
given_more k (true ∷ given) =
    let at : suc k + length given ≡ k + suc (length given) = omega arith in
    ap (λ ns. k ∷ ns) (given_more (suc k) given ∙ ap (λ n. places_from (suc k) given ++ n ∷ []) at)
given_more k (false ∷ given) =
    let at : suc k + length given ≡ k + suc (length given) = omega arith in
    given_more (suc k) given ∙ ap (λ n. places_from (suc k) given ++ n ∷ []) at

-- or is not
pub none_more : (k : ℕ) (given : List Bool) → places_from k (given ++ false ∷ []) ≡ places_from k given
none_more k [] = refl
none_more k (true ∷ given) = ap (λ ns. k ∷ ns) (none_more (suc k) given)
none_more k (false ∷ given) = none_more (suc k) given

module _ (given : List Bool) (i : ℕ) (d : Bool) (within : i < length given) where
  -- so the places so far have one more, which is the filter's own
  pub given_next : get_or given i d ≡ true → (places : List ℕ) → places ≡ places_from 0 (take i given)
      → places ++ i ∷ [] ≡ places_from 0 (take (i + 1) given)
  given_next is places so_far =
      let at : 0 + length (take i given) ≡ i = omega (arith, length-take-le i given (omega arith)) in
      rw (so_far, take_more given i d within, is, given_more 0 (take i given), at) refl

  -- or none
  pub none_next : get_or given i d ≡ false → (places : List ℕ) → places ≡ places_from 0 (take i given)
      → places ≡ places_from 0 (take (i + 1) given)
  none_next is places so_far = rw (so_far, take_more given i d within, is, none_more 0 (take i given)) refl
