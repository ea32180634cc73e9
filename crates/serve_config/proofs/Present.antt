-- The fields of the members so far, with one member more.
use Rattle.std.proofs.Common.{◌≡◌, ◌∙◌, ℕ, ◌+◌, ◌<◌, ◌++◌, ◌∷◌, Option, Some, None, List, [], ap, append-nil, filter_map, get_or, length, map, option_map, refl, string_bytes, take}
use Rattle.std.proofs.lemmas.List.{take_more}
use Rattle.std.proofs.lemmas.List.Elements.{filter_map-append}
use Rattle.std.specs.List.{AllZip}
use Rattle.std.specs.declared.alloc.Global.{Global}
use Rattle.std.specs.declared.string.String.{String}
use Rattle.serde_json.specs.Data.{Data, array, string}
use Rattle.serde_json.specs.View.{items_of, view}
use Rattle.serde_json.specs.declared.value.Value.{Value}
use Rattle.head_map.specs.declared.fact.Fact.{Fact}
use Rattle.head_map.specs.declared.fact.Fact.TheVariants as facts
use Rattle.head_map.specs.declared.fact.NamedFact.{NamedFact}
use Rattle.serve_config.specs.Maps.{AreRequired, IsNamedBy, NamesField, member_name, present, valued}
use Rattle.serve_config.specs.Members.{member_of}
use Rattle.serve_config.specs.declared.map.Member.{Member}
use Rattle.serve_config.specs.private.Plain.{IsPlain}

-- one pair more
pub zip_push : {A B : Type 0} (R : A → B → Type 0) (xs : List A) (ys : List B) (x : A) (y : B)
    → AllZip R xs ys → R x y → AllZip R (xs ++ x ∷ []) (ys ++ y ∷ [])
zip_push R [] [] x y all more = (more, tt)
zip_push R [] (b ∷ ys) x y all more = absurd all
zip_push R (a ∷ xs) [] x y all more = absurd all
zip_push R (a ∷ xs) (b ∷ ys) x y all more = (all.0, zip_push R xs ys x y all.1 more)

module _ (d : Option Data) (ms : List Member) (i : ℕ) (m : Member) (within : i < length ms) where
  -- the members with one more
  with_next : (next : List (Member × Data)) → filter_map (valued d) (get_or ms i m ∷ []) ≡ next
      → present d (take (i + 1) ms) ≡ present d (take i ms) ++ next
  with_next next is =
      ap (present d) (take_more ms i m within)
      ∙ filter_map-append (valued d) (take i ms) (get_or ms i m ∷ [])
      ∙ ap (λ more. present d (take i ms) ++ more) is

  -- which is absent
  pub absent_more : (named : List NamedFact) → member_of (member_name (get_or ms i m)) d ≡ None
      → AllZip IsNamedBy (present d (take i ms)) named → AllZip IsNamedBy (present d (take (i + 1) ms)) named
  absent_more named none so_far =
      let last : filter_map (valued d) (get_or ms i m ∷ []) ≡ [] = rw none refl in
      rw (with_next [] last, append-nil (present d (take i ms))) so_far

  -- or present
  pub present_more : (value : Data) (named now : List NamedFact) (one : NamedFact)
      → member_of (member_name (get_or ms i m)) d ≡ Some value
      → AllZip IsNamedBy (present d (take i ms)) named → IsNamedBy (get_or ms i m, value) one → now ≡ named ++ one ∷ []
      → AllZip IsNamedBy (present d (take (i + 1) ms)) now
  present_more value named now one some so_far is pushed =
      let last : filter_map (valued d) (get_or ms i m ∷ []) ≡ (get_or ms i m, value) ∷ [] = rw some refl in
      rw (with_next ((get_or ms i m, value) ∷ []) last, pushed)
      (zip_push IsNamedBy (present d (take i ms)) named (get_or ms i m, value) one so_far is)

-- the text of a member names the field of a plain fact
pub plain_names : (d : Data) (field : String Global) (fact : Fact) → IsPlain fact → d ≡ string (string_bytes field)
    → NamesField d field fact
plain_names d field facts.Method plain is = is
plain_names d field facts.Target plain is = is
plain_names d field facts.Host plain is = is
plain_names d field facts.Scheme plain is = is
plain_names d field facts.RemoteIp plain is = is
plain_names d field (facts.ForwardedFor place) plain is = absurd plain
plain_names d field facts.DirectRemoteIp plain is = is
plain_names d field facts.SourcePort plain is = is
plain_names d field (facts.Mtls text) plain is = absurd plain
plain_names d field facts.RequestedServerName plain is = is
plain_names d field facts.SubjectPeerCertificate plain is = is
plain_names d field facts.DnsSanPeerCertificate plain is = is
plain_names d field facts.UriSanPeerCertificate plain is = is

-- the values of names are texts of their bytes
pub texts_of : (names : List (String Global))
    → map (λ name. string (string_bytes name)) names ≡ map string (map string_bytes names)
texts_of [] = refl
texts_of (name ∷ names) = ap (λ more. string (string_bytes name) ∷ more) (texts_of names)

-- so an array of them declares what is required
pub required_names : (member : Option Data) (items : List Value) (names : List (String Global))
    → member ≡ Some (array (items_of (map view items)))
    → map view items ≡ map (λ name. string (string_bytes name)) names → AreRequired member (map string_bytes names)
required_names member items names there is = rw there (ap (λ ds. array (items_of ds)) (is ∙ texts_of names))
