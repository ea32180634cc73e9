-- The numbers of connections: with one place more, and with another connection in a place.
use Rattle.std.proofs.Common.{◌≡◌, ◌∙◌, ℕ, zero, suc, ◌++◌, List, [], ◌∷◌, Option, None, ap, option_map, refl, set}
use Rattle.std.proofs.lemmas.List.{map-set}
use Rattle.serve_observe.specs.Numbers.{AreEmpty, numbers}
use Rattle.serve_observe.specs.declared.connections.Connection.{Connection}

-- the place is empty, as those before it
pub empty_more : (places : List (Option Connection)) → AreEmpty (numbers places) → AreEmpty (numbers (places ++ None ∷ []))
empty_more [] are zero = refl
empty_more [] are (suc k) = refl
empty_more (place ∷ places) are zero = are 0
empty_more (place ∷ places) are (suc k) = empty_more places (λ j. are (suc j)) k

-- a connection, or none, is put into a place
pub numbers_set : (before after : List (Option Connection)) (k : ℕ) (place : Option Connection) (number : Option ℕ) → after ≡ before
    → option_map (λ (c : Connection). c.number) place ≡ number → numbers (set after k place) ≡ set (numbers before) k number
numbers_set before after k place number is has =
    rw is (map-set (option_map (λ (c : Connection). c.number)) before k place ∙ ap (λ n. set (numbers before) k n) has)
