-- Which payloads of a policy are its condition's.
use Rattle.std.specs.Prelude.{MatchBool}
use Rattle.std.proofs.Common.{◌≡◌, ◌≢◌, ℕ, Bool, true, false, List, [], ◌∷◌, refl}
use Rattle.cel_tree.specs.Message.{ArePresent, checked_parts, unchecked_parts}
use Rattle.rbac_policy.specs.Message.{checked_or}

pub checked_first : (checked unchecked : List (List ℕ)) → checked ≢ []
    → checked_or checked unchecked ≡ checked_parts checked
checked_first [] unchecked some = absurd (some refl)
checked_first (part ∷ parts) unchecked some = refl

pub unchecked_then : (checked unchecked : List (List ℕ)) → checked ≡ []
    → checked_or checked unchecked ≡ unchecked_parts unchecked
unchecked_then checked unchecked none = rw none refl

pub checked_present : (checked unchecked : List (List ℕ)) → checked ≢ []
    → ArePresent (checked_or checked unchecked)
checked_present [] unchecked some = absurd (some refl)
checked_present (part ∷ parts) unchecked some = some

pub present_where : (b : Bool) (checked unchecked : List (List ℕ)) → checked ≡ []
    → MatchBool b (unchecked ≢ []) (unchecked ≡ [])
    → MatchBool b (ArePresent (checked_or checked unchecked)) (ArePresent (checked_or checked unchecked) → ⊥)
present_where true checked unchecked none some = rw none some
present_where false checked unchecked none empty = rw none (λ some. some empty)
