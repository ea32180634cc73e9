-- How many bytes show another protocol.
use Rattle.std.proofs.Common.{◌≡◌, ◌≤◌, ℕ, zero, suc, List, [], ◌∷◌, ◌++◌, drop, take, length, Option, refl, ap, arith}
use Rattle.serve_core.specs.OtherProtocols.{IsOfStreamZero, Shown, Speaks, http2, neither, tls, updates_then}
use Rattle.serve_loop.specs.declared.stream.Stream.{Stream}
use Rattle.serve_loop.specs.declared.stream.Stream.TheVariants.{Updates}
use Rattle.serve_loop.specs.History.{received}
use Rattle.serve_core.specs.declared.other_protocol.OtherProtocol.{OtherProtocol}

pub stream_zero_long : (bytes : List ℕ) → IsOfStreamZero (drop 4 bytes) → 9 ≤ length bytes
stream_zero_long [] is = absurd is
stream_zero_long (a ∷ []) is = absurd is
stream_zero_long (a ∷ b ∷ []) is = absurd is
stream_zero_long (a ∷ b ∷ c ∷ []) is = absurd is
stream_zero_long (a ∷ b ∷ c ∷ d ∷ []) is = absurd is
stream_zero_long (a ∷ b ∷ c ∷ d ∷ e ∷ []) is = absurd is
stream_zero_long (a ∷ b ∷ c ∷ d ∷ e ∷ f ∷ []) is = absurd is
stream_zero_long (a ∷ b ∷ c ∷ d ∷ e ∷ f ∷ g ∷ []) is = absurd is
stream_zero_long (a ∷ b ∷ c ∷ d ∷ e ∷ f ∷ g ∷ h ∷ []) is = absurd is
stream_zero_long (a ∷ b ∷ c ∷ d ∷ e ∷ f ∷ g ∷ h ∷ i ∷ more) is = omega arith

-- the first bytes of what came, and of more, are those of both
pub take_again : (n : ℕ) (xs ys : List ℕ) → take n (take n xs ++ ys) ≡ take n (xs ++ ys)
take_again zero xs ys = refl
take_again (suc n) [] ys = refl
take_again (suc n) (x ∷ xs) ys = ap (λ (l : List ℕ). x ∷ l) (take_again n xs ys)

nine_speak : (a b c d e f g h i : ℕ) (more : List ℕ) (found : Option OtherProtocol)
    → Speaks (a ∷ b ∷ c ∷ d ∷ e ∷ f ∷ g ∷ h ∷ i ∷ []) found
    → Speaks (a ∷ b ∷ c ∷ d ∷ e ∷ f ∷ g ∷ h ∷ i ∷ more) found
nine_speak a b c d e f g h i more found (http2 is same) = http2 is same
nine_speak a b c d e f g h i more found (tls other is same) = tls other is same
nine_speak a b c d e f g h i more found (neither other another same) = neither other another same

-- nine bytes show the protocol
pub first_speak : (bytes : List ℕ) (found : Option OtherProtocol) → Speaks (take 9 bytes) found → Speaks bytes found
first_speak [] found is = is
first_speak (a ∷ []) found is = is
first_speak (a ∷ b ∷ []) found is = is
first_speak (a ∷ b ∷ c ∷ []) found is = is
first_speak (a ∷ b ∷ c ∷ d ∷ []) found is = is
first_speak (a ∷ b ∷ c ∷ d ∷ e ∷ []) found is = is
first_speak (a ∷ b ∷ c ∷ d ∷ e ∷ f ∷ []) found is = is
first_speak (a ∷ b ∷ c ∷ d ∷ e ∷ f ∷ g ∷ []) found is = is
first_speak (a ∷ b ∷ c ∷ d ∷ e ∷ f ∷ g ∷ h ∷ []) found is = is
first_speak (a ∷ b ∷ c ∷ d ∷ e ∷ f ∷ g ∷ h ∷ i ∷ more) found is = nine_speak a b c d e f g h i more found is

-- what bytes of the update stream show
pub updates_show : (s : Stream) (bytes past : List ℕ) (found : Option OtherProtocol) → s ≡ Updates
    → Speaks (past ++ bytes) found → Shown (received s bytes) (updates_then (received s bytes) past) found
updates_show s bytes past found is speak = rw is speak
