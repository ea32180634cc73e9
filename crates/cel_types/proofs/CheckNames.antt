-- Names of the code are bytes, those of the definitions code points; names of attributes and of roots
-- are ASCII.
use Rattle.std.proofs.Common.{arith, ◌≡◌, ◌≢◌, ◌↔◌, ℕ, Bool, true, false, List, [], ◌∷◌, ◌++◌, length, Option, Some, None, refl, sym, ap, ◌∙◌, append_assoc}
use Rattle.std.specs.Prelude.{IsTrue, IsUtf8, codes, ◌==◌}
use Rattle.std.proofs.lemmas.Bool.Decides.{nat_tests}
use Rattle.std.specs.Str.{bytes_eq}
use Rattle.std.specs.Cmp.Lexicographic.{bytes_decides}
use Rattle.std.proofs.lemmas.Str.{chars-append, chars-IsAscii, chars_from_encodes, chars-nil, encodes-chars, IsUtf8-append, IsUtf8-from_ascii}
use Rattle.std.proofs.lemmas.Str.Ascii.{IsAscii-nil, IsAscii-cons}
use Rattle.attributes.specs.Attributes.{attr_name}
use Rattle.attributes.specs.declared.attribute.AttrId.{AttrId}
use Rattle.attributes.proofs.Names.{named_exactly}
use Rattle.cel_value.specs.Texts.{points_of, utf8_of}
use Rattle.cel_types.specs.Attributes.{attribute_named}
use Rattle.cel_types.specs.Names.{is_root, joined_name}

utf8_own : (id : AttrId) → utf8_of (attr_name id) ≡ attr_name id
unfolding lib.Utf8.encode
utf8_own AttrId.RequestPath = refl
utf8_own AttrId.RequestUrlPath = refl
utf8_own AttrId.RequestHost = refl
utf8_own AttrId.RequestScheme = refl
utf8_own AttrId.RequestMethod = refl
utf8_own AttrId.RequestHeaders = refl
utf8_own AttrId.RequestReferer = refl
utf8_own AttrId.RequestUseragent = refl
utf8_own AttrId.RequestId = refl
utf8_own AttrId.RequestProtocol = refl
utf8_own AttrId.RequestQuery = refl
utf8_own AttrId.SourceAddress = refl
utf8_own AttrId.SourcePort = refl
utf8_own AttrId.DestinationAddress = refl
utf8_own AttrId.DestinationPort = refl
utf8_own AttrId.ConnectionMtls = refl
utf8_own AttrId.ConnectionId = refl
utf8_own AttrId.ConnectionRequestedServerName = refl
utf8_own AttrId.ConnectionTlsVersion = refl
utf8_own AttrId.ConnectionSubjectPeerCertificate = refl
utf8_own AttrId.ConnectionDnsSanPeerCertificate = refl
utf8_own AttrId.ConnectionUriSanPeerCertificate = refl

-- bytes that are ASCII are their code points
pub same_points : (own name : List ℕ) → IsUtf8 name → utf8_of own ≡ own → name ≡ own
    → points_of name ≡ own
same_points own name u same e = sym (chars_from_encodes own name u (same ∙ sym e))

same_bytes : (own name : List ℕ) → IsUtf8 name → utf8_of own ≡ own → points_of name ≡ own
    → name ≡ own
same_bytes own name u same e = sym (encodes-chars name u) ∙ ap utf8_of e ∙ same

-- what is found by bytes is found by code points
pub attribute_points : (name : List ℕ) → IsUtf8 name → (o : Option AttrId)
    → ((id : AttrId) → (o ≡ Some id) ↔ (name ≡ attr_name id))
    → o ≡ attribute_named (points_of name)
attribute_points name u o by_bytes = at o refl (attribute_named (points_of name)) refl
  where
    by_points : (id : AttrId) → (attribute_named (points_of name) ≡ Some id)
        ↔ (points_of name ≡ attr_name id)
    by_points = named_exactly (points_of name) (attribute_named (points_of name)) refl

    at : (p : Option AttrId) → o ≡ p → (q : Option AttrId) → attribute_named (points_of name) ≡ q
        → o ≡ attribute_named (points_of name)
    at None d None e = d ∙ sym e
    at (Some id) d q e =
        d ∙ sym ((by_points id).1 (same_points (attr_name id) name u (utf8_own id) ((by_bytes id).0 d)))
    at None d (Some id) e =
        (by_bytes id).1 (same_bytes (attr_name id) name u (utf8_own id) ((by_points id).0 e)) ∙ sym e

utf8_request : utf8_of (codes "request") ≡ codes "request"
unfolding lib.Utf8.encode
utf8_request = refl

utf8_source : utf8_of (codes "source") ≡ codes "source"
unfolding lib.Utf8.encode
utf8_source = refl

utf8_destination : utf8_of (codes "destination") ≡ codes "destination"
unfolding lib.Utf8.encode
utf8_destination = refl

utf8_connection : utf8_of (codes "connection") ≡ codes "connection"
unfolding lib.Utf8.encode
utf8_connection = refl

module _ (name : List ℕ) (u : IsUtf8 name) where
  pub root_request : name ≡ codes "request" → true ≡ is_root (points_of name)
  root_request e = rw (same_points (codes "request") name u utf8_request e) refl

  pub root_source : name ≡ codes "source" → true ≡ is_root (points_of name)
  root_source e = rw (same_points (codes "source") name u utf8_source e) refl

  pub root_destination : name ≡ codes "destination" → true ≡ is_root (points_of name)
  root_destination e = rw (same_points (codes "destination") name u utf8_destination e) refl

  pub root_connection : name ≡ codes "connection" → true ≡ is_root (points_of name)
  root_connection e = rw (same_points (codes "connection") name u utf8_connection e) refl

  -- another name in bytes is another one in code points
  other_name : (own : List ℕ) → utf8_of own ≡ own → name ≢ own → bytes_eq (points_of name) own ≡ false
  other_name own same differs = at (bytes_eq (points_of name) own) refl
    where
      at : (b : Bool) → bytes_eq (points_of name) own ≡ b → b ≡ false
      at false e = refl
      at true e = absurd (differs (same_bytes own name u same ((bytes_decides (points_of name) own).0 e)))

  pub no_root : name ≢ codes "request" → name ≢ codes "source" → name ≢ codes "destination"
      → name ≢ codes "connection" → false ≡ is_root (points_of name)
  no_root a b c d =
      rw (
        other_name (codes "request") utf8_request a,
        other_name (codes "source") utf8_source b,
        other_name (codes "destination") utf8_destination c,
        other_name (codes "connection") utf8_connection d,
      ) refl

  pub nameless : (name ≡ []) ↔ (points_of name ≡ [])
  nameless = (λ e. ap points_of e ∙ chars-nil, λ e. same_bytes [] name u refl e)

pub joined_points : (root field : List ℕ) → IsUtf8 root
    → points_of ((root ++ (46 ∷ [])) ++ field) ≡ joined_name (points_of root) (points_of field)
joined_points root field u =
    let dot = IsAscii-cons 46 [] (omega arith) IsAscii-nil in
    chars-append (root ++ (46 ∷ [])) field (IsUtf8-append root (46 ∷ []) u (IsUtf8-from_ascii (46 ∷ []) dot))
    ∙ ap (λ l. l ++ points_of field)
    (chars-append root (46 ∷ []) u ∙ ap (λ l. points_of root ++ l) (chars-IsAscii (46 ∷ []) dot))
    ∙ append_assoc (points_of root) (46 ∷ []) (points_of field)

-- a name is empty where it has no bytes
pub empty_name : (bs : List ℕ) → IsUtf8 bs → (b : Bool) → b ≡ (length bs == 0)
    → (IsTrue b → points_of bs ≡ []) × (points_of bs ≡ [] → IsTrue b)
empty_name [] u b e = rw e (λ t. (nameless [] u).0 refl, λ k. refl)
empty_name (x ∷ bs) u b e = rw e (λ t. absurd (let none : length (x ∷ bs) ≡ 0 = grind (arith, nat_tests) in omega (arith, none)), λ k. absurd (other ((nameless (x ∷ bs) u).1 k)))
  where
    other : x ∷ bs ≡ [] → ⊥
    other k = cc
