-- Small facts on lists: empty or not, and their last elements.
use Rattle.std.proofs.Common.{◌≡◌, ℕ, List, [], sym, subst}
use Rattle.std.specs.Str.{IsUtf8}
use Rattle.std.proofs.lemmas.Str.{IsUtf8-nil}
pub use Rattle.std.proofs.lemmas.Bool.{cases_eq as same_or_not}
pub use Rattle.proto_wire.proofs.Basics.{nil_or_not, utf8_total, contains_first, contains_later, contains_cases, part_in}

-- nothing is a text
pub empty_text : (bytes : List ℕ) → bytes ≡ [] → IsUtf8 bytes
empty_text bytes none = subst IsUtf8 (sym none) IsUtf8-nil
