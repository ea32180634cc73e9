-- The address of a list at a place from the right is one.
use Rattle.std.proofs.Common.{◌≡◌, ℕ, List, Option, Some, None, MatchOption}
use Rattle.attributes.specs.declared.address.Ip.{Ip}
use Rattle.head_map.specs.Claims.{IsClientIp, IsForwarded, IsFromRight, parts_of, without_back_blanks, without_front_blanks}

-- there is one part at a place
pub one_part : (place : ℕ) (parts : List (List ℕ)) (part other : List ℕ) → IsFromRight place parts part
    → IsFromRight place parts other → other ≡ part
one_part place parts part other (a, b, is) (d, e, was) = cc

pub forwarded_of : (place : ℕ) (value part text : List ℕ) (found : Option Ip) → IsFromRight place (parts_of value) part
    → text ≡ without_back_blanks (without_front_blanks part) → MatchOption found ((ip : Ip) → ¬ (IsClientIp text ip)) (IsClientIp text)
    → MatchOption found ((ip : Ip) → ¬ (IsForwarded place value ip)) (IsForwarded place value)
forwarded_of place value part text (Some ip) at trimmed reads =
    (part, at, rw trimmed at reads)
forwarded_of place value part text None at trimmed reads =
    λ ip (other, there, spells).
    let same : other ≡ part = one_part place (parts_of value) part other at there in
    let text_spells : IsClientIp text ip = rw trimmed (rw same at spells) in reads ip text_spells
