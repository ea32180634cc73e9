-- A line is the text of one event at most.
use Rattle.std.proofs.Common.{◌≡◌, ℕ, List, [], ◌∷◌, Option, Some, refl, sym, ap, ap₂, ◌∙◌, codes}
use Rattle.attributes.specs.Conn.{Facts}
use Rattle.hex.proofs.HexLemmas.{decode_of-same}
use Rattle.proxy_core.specs.Events.{EventValue, ads_up, ads_bytes, ads_lost, http_open, http_bytes, http_closed}
use Rattle.serde_json.specs.Data.{Data, number, string, unsigned}
use Rattle.program_texts.proofs.OneFacts.{one_facts}
use Rattle.proxy_replay.specs.Lines.{HasFacts, HasHex, HasNumber, HasParts, IsEvent, IsLine, kind_of, name_of}
use Rattle.proxy_replay.specs.Replays.{IsLineText}
use Rattle.proxy_replay.proofs.KindNames.{one_kind}

module _ (d : Data) where
  one_hex : (a b : List ℕ) → HasHex d a → HasHex d b → a ≡ b
  one_hex a b (s, s_is, s_has) (t, t_is, t_has) =
      let same : s ≡ t = (let e : Some (string s) ≡ Some (string t) = sym s_is ∙ t_is in cc) in
      decode_of-same t a b (rw same at s_has) t_has

  one_number : (a b : ℕ) → HasNumber d a → HasNumber d b → a ≡ b
  one_number a b h k = let e : Some (number (unsigned a)) ≡ Some (number (unsigned b)) = sym h ∙ k in cc

  one_of_facts : (a b : Facts) → HasFacts d a → HasFacts d b → a ≡ b
  one_of_facts a b (v, v_is, v_means) (w, w_is, w_means) =
      let same : v ≡ w = (let e : Some v ≡ Some w = sym v_is ∙ w_is in cc) in
      one_facts w a b (rw same at v_means) w_means

one_parts : (d : Data) (a b : EventValue) → kind_of a ≡ kind_of b → HasParts d a → HasParts d b → a ≡ b
one_parts d ads_up ads_up same h k = refl
one_parts d ads_up (ads_bytes bytes_b) same h k = absurd (let clash = same in cc)
one_parts d ads_up ads_lost same h k = absurd (let clash = same in cc)
one_parts d ads_up (http_open k_b facts_b) same h k = absurd (let clash = same in cc)
one_parts d ads_up (http_bytes k_b bytes_b) same h k = absurd (let clash = same in cc)
one_parts d ads_up (http_closed k_b) same h k = absurd (let clash = same in cc)
one_parts d (ads_bytes bytes_a) ads_up same h k = absurd (let clash = same in cc)
one_parts d (ads_bytes bytes_a) (ads_bytes bytes_b) same h k = ap ads_bytes (one_hex d bytes_a bytes_b h k)
one_parts d (ads_bytes bytes_a) ads_lost same h k = absurd (let clash = same in cc)
one_parts d (ads_bytes bytes_a) (http_open k_b facts_b) same h k = absurd (let clash = same in cc)
one_parts d (ads_bytes bytes_a) (http_bytes k_b bytes_b) same h k = absurd (let clash = same in cc)
one_parts d (ads_bytes bytes_a) (http_closed k_b) same h k = absurd (let clash = same in cc)
one_parts d ads_lost ads_up same h k = absurd (let clash = same in cc)
one_parts d ads_lost (ads_bytes bytes_b) same h k = absurd (let clash = same in cc)
one_parts d ads_lost ads_lost same h k = refl
one_parts d ads_lost (http_open k_b facts_b) same h k = absurd (let clash = same in cc)
one_parts d ads_lost (http_bytes k_b bytes_b) same h k = absurd (let clash = same in cc)
one_parts d ads_lost (http_closed k_b) same h k = absurd (let clash = same in cc)
one_parts d (http_open k_a facts_a) ads_up same h k = absurd (let clash = same in cc)
one_parts d (http_open k_a facts_a) (ads_bytes bytes_b) same h k = absurd (let clash = same in cc)
one_parts d (http_open k_a facts_a) ads_lost same h k = absurd (let clash = same in cc)
one_parts d (http_open k_a facts_a) (http_open k_b facts_b) same h k = ap₂ http_open (one_number d k_a k_b h.0 k.0) (one_of_facts d facts_a facts_b h.1 k.1)
one_parts d (http_open k_a facts_a) (http_bytes k_b bytes_b) same h k = absurd (let clash = same in cc)
one_parts d (http_open k_a facts_a) (http_closed k_b) same h k = absurd (let clash = same in cc)
one_parts d (http_bytes k_a bytes_a) ads_up same h k = absurd (let clash = same in cc)
one_parts d (http_bytes k_a bytes_a) (ads_bytes bytes_b) same h k = absurd (let clash = same in cc)
one_parts d (http_bytes k_a bytes_a) ads_lost same h k = absurd (let clash = same in cc)
one_parts d (http_bytes k_a bytes_a) (http_open k_b facts_b) same h k = absurd (let clash = same in cc)
one_parts d (http_bytes k_a bytes_a) (http_bytes k_b bytes_b) same h k = ap₂ http_bytes (one_number d k_a k_b h.0 k.0) (one_hex d bytes_a bytes_b h.1 k.1)
one_parts d (http_bytes k_a bytes_a) (http_closed k_b) same h k = absurd (let clash = same in cc)
one_parts d (http_closed k_a) ads_up same h k = absurd (let clash = same in cc)
one_parts d (http_closed k_a) (ads_bytes bytes_b) same h k = absurd (let clash = same in cc)
one_parts d (http_closed k_a) ads_lost same h k = absurd (let clash = same in cc)
one_parts d (http_closed k_a) (http_open k_b facts_b) same h k = absurd (let clash = same in cc)
one_parts d (http_closed k_a) (http_bytes k_b bytes_b) same h k = absurd (let clash = same in cc)
one_parts d (http_closed k_a) (http_closed k_b) same h k = ap http_closed (one_number d k_a k_b h k)

-- a value is one event
one_event : (d : Data) (a b : EventValue) → IsEvent d a → IsEvent d b → a ≡ b
one_event d a b h k =
    let names : name_of (kind_of a) ≡ name_of (kind_of b) =
    (let e : Some (string (name_of (kind_of a))) ≡ Some (string (name_of (kind_of b))) = sym h.name ∙ k.name in cc) in
    one_parts d a b (one_kind (kind_of a) (kind_of b) names) h.parts k.parts

-- a line is the text of one event
pub one_line : (text : List ℕ) (a b : EventValue) → IsLine text a → IsLine text b → a ≡ b
one_line text a b (d, d_read, d_is) (e, e_read, e_is) =
    let same : d ≡ e = (let f : Some d ≡ Some e = sym d_read ∙ e_read in cc) in
    one_event e a b (rw same at d_is) e_is
