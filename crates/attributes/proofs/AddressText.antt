-- Four numbers with dots between them hold a dot.
use Rattle.std.proofs.Common.{◌≡◌, ℕ, true, false, ◌||◌, List, [], ◌∷◌, ◌++◌, nat_eq, refl, ◌∙◌, append_assoc, codes}
use Rattle.std.specs.Prelude.{decimal}
use Rattle.std.specs.Net.Grammar.{IsDotted}
use Rattle.attributes.specs.Address.{has_dot}

has_dot_mid : (xs ys : List ℕ) → has_dot (xs ++ 46 ∷ ys) ≡ true
has_dot_mid [] ys = refl
has_dot_mid (x ∷ xs) ys = elim (nat_eq x 46) as (λ b. (b || has_dot (xs ++ 46 ∷ ys)) ≡ true) [
  | true ↦ refl
  | false ↦ has_dot_mid xs ys
]

pub has_dot_dotted : (text octets : List ℕ) → IsDotted text octets → has_dot text ≡ true
has_dot_dotted text octets h =
    let whole : text
    ≡ decimal h.a ++ 46 ∷
    (decimal h.b ++ codes "." ++ decimal h.c ++ codes "." ++ decimal h.d) =
    h.spelled ∙ simp append_assoc in
    rw whole (has_dot_mid (decimal h.a) _)
