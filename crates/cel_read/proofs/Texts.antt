-- Texts among payloads: each is UTF-8, or one is not; and texts that are empty.
use Rattle.std.proofs.Common.{◌≡◌, ◌==◌, ◌++◌, ℕ, Bool, true, List, [], ◌∷◌, Bor, length, arith}
use Rattle.std.specs.List.{AllByRecursion}
use Rattle.std.specs.Str.{IsUtf8}
use Rattle.proto_wire.specs.Merge.{parts_view}
use Rattle.cel_value.specs.Texts.{points_of}
use Rattle.std.proofs.lemmas.Bool.Decides.{nat_tests}
use Rattle.std.proofs.lemmas.Str.{chars-nil}

-- one text more
pub texts_push : (slices : List (Bor (List ℕ))) (slice : Bor (List ℕ))
    → AllByRecursion IsUtf8 (parts_view slices) → IsUtf8 slice.now
    → AllByRecursion IsUtf8 (parts_view (slices ++ slice ∷ []))
texts_push [] slice all is = (is, tt)
texts_push (s ∷ slices) slice all is = (all.0, texts_push slices slice all.1 is)

-- an empty text has no points
pub no_points : (bs : List ℕ) (b : Bool) → b ≡ (length bs == 0) → b ≡ true → points_of bs ≡ []
no_points [] b empty is = chars-nil
no_points (x ∷ bs) b empty is =
    absurd (let none : length (x ∷ bs) ≡ 0 = grind (arith, nat_tests) in omega (arith, none))
