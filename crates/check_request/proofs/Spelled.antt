-- Groups of fields that are appended to no bytes.
use Rattle.std.proofs.Common.{◌≡◌, ℕ, List, [], ◌∷◌, ◌++◌, sym, subst, ◌∙◌, ap}
use Rattle.proto_wire.specs.Fields.{Wire}
use Rattle.xds_wire.specs.Written.{SpellsGroups}
use Rattle.xds_wire.specs.private.Writing.{Adds}
use Rattle.xds_wire.proofs.WriteLemmas.{adds_last, adds_more}
use Rattle.proto_wire.specs.Shortest.{Shortest}

-- what is appended to no bytes is all
all_of : (start end : List ℕ) (fs : List Wire) → start ≡ [] → Adds start fs end → Shortest fs end
all_of start end fs none (bytes, spells, whole) =
    let is : end ≡ bytes = whole ∙ ap (λ (t : List ℕ). t ++ bytes) none in
    subst (Shortest fs) (sym is) spells

-- two groups
pub spelled_two : (a b c : List ℕ) (fs gs : List Wire) → a ≡ [] → Adds a fs b → Adds b gs c
    → SpellsGroups (fs ∷ gs ∷ []) c
spelled_two a b c fs gs none first second =
    all_of a c (fs ++ (gs ++ [])) none (adds_more a b c fs (gs ++ []) first (adds_last b c gs second))

-- three groups
pub spelled_three : (a b c d : List ℕ) (fs gs hs : List Wire) → a ≡ [] → Adds a fs b → Adds b gs c
    → Adds c hs d → SpellsGroups (fs ∷ gs ∷ hs ∷ []) d
spelled_three a b c d fs gs hs none first second third =
    all_of a d (fs ++ (gs ++ (hs ++ []))) none
    (adds_more a b d fs (gs ++ (hs ++ [])) first (adds_more b c d gs (hs ++ []) second (adds_last c d hs third)))
