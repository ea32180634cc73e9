-- Texts of resources, one by one.
use Rattle.std.proofs.Common.{◌<◌, inl, inr, ℕ, zero, suc, List, [], ◌∷◌, length, get_or, arith}
use Rattle.std.specs.Str.{IsUtf8}
use Rattle.vupresal_c.specs.Settings.{AreTexts, TextFails}
use Rattle.vupresal_c.specs.declared.fault.Fault.{Fault}
use Rattle.vupresal_c.specs.declared.settings.Resource.{Resource}

text_at : (xs : List Resource) (i : ℕ) (d : Resource) → i < length xs → AreTexts xs → IsUtf8 (get_or xs i d).name.now
text_at [] i d within all = absurd (omega arith)
text_at (x ∷ xs) zero d within (one, all) = one
text_at (x ∷ xs) (suc i) d within (one, all) = text_at xs i d (omega arith) all

-- one name that is no text
pub no_texts : (xs : List Resource) (i : ℕ) (d : Resource) (e : Fault) → i < length xs
    → TextFails (IsUtf8 (get_or xs i d).name.now) e → TextFails (AreTexts xs) e
no_texts xs i d e within reported = elim reported [
  | inl memory ↦ inl memory
  | inr (is, none) ↦ inr (is, λ all. none (text_at xs i d within all))
]
