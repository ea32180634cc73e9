-- What fields say, from one to the next.
use Rattle.std.proofs.Common.{◌≡◌, ◌∙◌, ℕ, ◌+◌, ◌<◌, List, [], ◌∷◌, ◌++◌, length, get_or, take, ap, refl, sym}
use Rattle.std.proofs.lemmas.List.{take_more}
use Rattle.std.specs.List.{AllZip}
use Rattle.attributes.specs.Headers.{Entry}
use Rattle.head_map.specs.declared.fact.NamedFact.{NamedFact}
use Rattle.head_map.specs.Claims.{Claim}
use Rattle.head_map.specs.Mapped.{ClientValue, Says, put, put_all}
use Rattle.head_map.specs.private.Client.{IsClaimedBy}

-- one more pair
zip_push : {A B : Type 0} (R : A → B → Type 0) (xs : List A) (ys : List B) (x : A) (y : B)
    → AllZip R xs ys → R x y → AllZip R (xs ++ x ∷ []) (ys ++ y ∷ [])
zip_push R [] [] x y all one = (one, tt)
zip_push R [] (b ∷ ys) x y all one = absurd all
zip_push R (a ∷ xs) [] x y all one = absurd all
zip_push R (a ∷ xs) (b ∷ ys) x y (first, others) one = (first, zip_push R xs ys x y others one)

-- one more claim
put_push : (claims : List Claim) (claim : Claim) (client : ClientValue)
    → put_all (claims ++ claim ∷ []) client ≡ put claim (put_all claims client)
put_push [] claim client = refl
put_push (first ∷ claims) claim client = put_push claims claim (put first client)

-- before any field said anything
pub claimed_none : (lines : List Entry) (client : ClientValue) → IsClaimedBy lines [] client client
claimed_none lines client = record { claims = []; say = tt; value = refl }

-- one more field
pub claimed_more : (lines : List Entry) (named : List NamedFact) (i : ℕ) (old now new : ClientValue) (one : NamedFact) (claim : Claim)
    → i < length named → one ≡ get_or named i one → IsClaimedBy lines (take i named) old now → Says lines one claim
    → new ≡ put claim now → IsClaimedBy lines (take (i + 1) named) old new
claimed_more lines named i old now new one claim inside is before says stepped =
    let more : take (i + 1) named ≡ take i named ++ get_or named i one ∷ [] = take_more named i one inside in
    let pushed : take (i + 1) named ≡ take i named ++ one ∷ [] = rw (← is) at more in
    record {
      claims = before.claims ++ claim ∷ [];
      say = rw pushed (zip_push (Says lines) (take i named) before.claims one claim before.say says);
      value = stepped ∙ ap (put claim) before.value ∙ sym (put_push before.claims claim old);
    }
