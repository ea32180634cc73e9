-- Names of functions are ASCII, so their bytes are their code points.
use Rattle.std.proofs.Common.{arith, ◌≡◌, ◌&&◌, ℕ, zero, suc, nat_lt, Bool, true, cond, List, [], ◌∷◌, Some, refl, sym, ap, ap₂, ◌∙◌}
use Rattle.std.specs.Prelude.{IsUtf8}
use Rattle.std.specs.Str.{IsAscii, bytes_eq}
use Rattle.std.specs.Cmp.Lexicographic.{bytes_decides}
use Rattle.std.proofs.lemmas.Bool.Decides.{nat_tests, same_from_decides}
use Rattle.std.proofs.lemmas.Str.{chars-IsAscii, encodes-IsAscii, encodes-chars}
use Rattle.std.proofs.lemmas.Str.Ascii.{IsAscii-nil}
use Rattle.std.proofs.lemmas.Bool.{and_parts}
use Rattle.cel_value.specs.Texts.{points_of, utf8_of}
use Rattle.cel_overload.specs.Functions.{function_at, function_named, names}
use Rattle.cel_overload.specs.declared.function.Function.{Function}

-- each is below 128
abbrev is_low : List ℕ → Bool
is_low [] = true
is_low (b ∷ bs) = nat_lt b 128 && is_low bs

low_ascii : (bs : List ℕ) → is_low bs ≡ true → IsAscii bs
low_ascii [] e i = IsAscii-nil i
low_ascii (b ∷ bs) e zero =
    let low = (and_parts (nat_lt b 128) (is_low bs) e).0 in grind (arith, nat_tests)
low_ascii (b ∷ bs) e (suc i) = low_ascii bs (and_parts (nat_lt b 128) (is_low bs) e).1 i

-- all names are
abbrev are_low : List (List ℕ × Function) → Bool
are_low [] = true
are_low (e ∷ es) = is_low e.0 && are_low es

-- a name in ASCII is that of bytes where it is that of their code points
same_name : (own name : List ℕ) → IsUtf8 name → points_of own ≡ own → utf8_of own ≡ own
    → bytes_eq own name ≡ bytes_eq own (points_of name)
same_name own name u points bytes =
    let d = bytes_decides own name in
    let e = bytes_decides own (points_of name) in
    same_from_decides _ _ d (
      λ t. sym bytes ∙ ap utf8_of (e.0 t) ∙ encodes-chars name u,
      λ k. e.1 (sym points ∙ ap points_of k),
    )

at_points : (es : List (List ℕ × Function)) (name : List ℕ) → IsUtf8 name → are_low es ≡ true
    → function_at name es ≡ function_at (points_of name) es
at_points [] name u a = refl
at_points (e ∷ es) name u a =
    let parts = and_parts (is_low e.0) (are_low es) a in
    let low = low_ascii e.0 parts.0 in
    ap₂ (λ b f. cond b (Some e.1) f)
    (same_name e.0 name u (chars-IsAscii e.0 low) (encodes-IsAscii e.0 low))
    (at_points es name u parts.1)

-- a function is found by bytes as by code points
pub named_points : (name : List ℕ) → IsUtf8 name
    → function_at name names ≡ function_named (points_of name)
named_points name u = at_points names name u refl
