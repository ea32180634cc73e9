-- The filters to which a response gives policies (this project's own).
use Rattle.std.specs.Prelude.{ℕ, suc, List, [], ◌∷◌, Bool, true, false}

-- the places of those that are given policies, ascending; the first filter has place `k`
abbrev pub places_from : ℕ → List Bool → List ℕ
places_from k [] = []
places_from k (true ∷ given) = k ∷ places_from (suc k) given
places_from k (false ∷ given) = places_from (suc k) given
