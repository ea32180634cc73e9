-- Small facts on lists and slices: empty or not.
use Rattle.std.proofs.Common.{◌≡◌, ◌≢◌, ℕ, ◌<◌, List, [], ◌∷◌, length, Bor, arith, ◌∙◌}
use Rattle.proto_wire.specs.Merge.{parts_view}
pub use Rattle.std.proofs.lemmas.Bool.{cases_eq as same_or_not}
pub use Rattle.proto_wire.proofs.Basics.{nil_or_not, utf8_total, contains_first, contains_later, contains_cases}

-- payloads that the code has as some slices are some
pub payloads_some : (slices : List (Bor (List ℕ))) (payloads : List (List ℕ))
    → parts_view slices ≡ payloads → 0 < length slices → payloads ≢ []
payloads_some [] payloads is some none = absurd (omega arith)
payloads_some (s ∷ slices) payloads is some none =
    let clash : s.now ∷ parts_view slices ≡ [] = is ∙ none in absurd cc
