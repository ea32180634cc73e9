-- The parts of a request make the request of its head and its facts.
use Rattle.std.proofs.Common.{◌≡◌, ℕ, ◌+◌, ◌<◌, ◌≤◌, ◌^◌, All, List, ◌++◌, length, map, sym, ap, ap₂, ◌∙◌, arith, length-append}
use Rattle.std.specs.FinMap.{entries, from_sorted, len}
use Rattle.std.specs.Str.{IsUtf8}
use Rattle.std.proofs.lemmas.List.{length-map}
use Rattle.std.proofs.lemmas.List.Elements.{All-map, All-weaker}
use Rattle.attributes.specs.Attributes.{query_of, url_path_of}
use Rattle.attributes.specs.Conn.{AreFacts, Facts}
use Rattle.attributes.specs.Headers.{Entry, HeaderMap, headers_of, line_entry, name_cmp}
use Rattle.attributes.specs.Request.{IsRequest, IsTextEntry, RequestValue, request_of}
use Rattle.attributes.specs.declared.headers.Field.{Field}
use Rattle.attributes.specs.declared.part.Spot.{Spot}
use Rattle.attributes.specs.declared.protocol.Protocol.{Protocol}
use Rattle.attributes.specs.private.Drafts.{own_entries}
use Rattle.attributes.specs.private.Parts.{AreFields, IsField, IsSpotOf, entries_in, entry_in, spot_of}
use Rattle.attributes.specs.private.Request.{IsKept, of_parts}
use Rattle.attributes.proofs.HeaderMaps.{from_sorted_entries}
use Rattle.attributes.proofs.Joining.{len_headers_of}

-- headers as they are kept are texts
pub text_fields : (t : List ℕ) (fs : List Field) → AreFields t fs
    → All IsTextEntry (entries_in t fs)
text_fields t fs h = All-map IsTextEntry (entry_in t) fs
    (All-weaker (IsField t) (λ f. IsTextEntry (entry_in t f))
    (λ f held. (held.name.utf8, held.value.utf8)) fs h)

module _ (method target : List ℕ) (protocol : Protocol) (es kept : List Entry) (facts : Facts) (n : ℕ)
    (count : n ≡ length es)
    (joined : kept ≡ entries (headers_of (es ++ own_entries method target facts.scheme))) where
  abbrev all : List Entry
  all = es ++ own_entries method target facts.scheme

  same_map_kept : from_sorted kept ≡ headers_of all
  same_map_kept = ap from_sorted joined ∙ from_sorted_entries (headers_of all)

  -- they make the request of lines that are these entries
  same_request : (lines : List Entry) → es ≡ map line_entry lines
      → of_parts method target protocol n kept facts ≡ request_of method target protocol lines facts
  same_request lines named =
      let make : ℕ → HeaderMap → RequestValue = λ m headers. record {
        method = method;
        target = target;
        protocol = protocol;
        lines = m;
        headers = headers;
        facts = facts;
      } in
      let lines_count : n ≡ length lines =
      count ∙ ap length named ∙ length-map lines line_entry in
      ap₂ make lines_count (same_map_kept
      ∙ ap (λ ds. headers_of (ds ++ own_entries method target facts.scheme)) named)

  few : len (from_sorted {R = name_cmp} kept) ≤ n + 3
  few =
      let most = len_headers_of all in
      let long = length-append es (own_entries method target facts.scheme) in
      rw same_map_kept (omega (arith, most, long, count))

  in_order : entries (from_sorted {R = name_cmp} kept) ≡ kept
  in_order = ap entries same_map_kept ∙ sym joined

  -- and it is a request
  sound_request : IsUtf8 method → IsUtf8 target → All IsTextEntry kept → AreFacts facts → n < 2 ^ 64
      → IsRequest (of_parts method target protocol n kept facts)
  sound_request method_text target_text texts sound fits = record {
    method = method_text;
    target = target_text;
    lines = fits;
    headers = rw in_order texts;
    few = few;
    facts = sound;
  }

  -- with the spots of its texts, they are what a request keeps
  module _ (m t path_spot query_spot : Spot) (method_at : IsSpotOf kept m method)
      (target_at : IsSpotOf kept t target) where
    pub request_kept : IsSpotOf kept path_spot (url_path_of target)
        → IsSpotOf kept query_spot (query_of target) → All IsTextEntry kept → AreFacts facts
        → n < 2 ^ 64
        → IsKept (of_parts (spot_of kept m) (spot_of kept t) protocol n kept facts)
        kept m t path_spot query_spot
    request_kept path query texts sound fits =
        let method_text : IsUtf8 method = rw method_at.same at method_at.spot.utf8 in
        let target_text : IsUtf8 target = rw target_at.same at target_at.spot.utf8 in
        rw (method_at.same, target_at.same) (record {
          request = sound_request method_text target_text texts sound fits;
          headers = in_order;
          method = method_at.spot;
          target = target_at.spot;
          url_path = path;
          query = query;
        })

    pub request_same : (lines : List Entry) → es ≡ map line_entry lines
        → of_parts (spot_of kept m) (spot_of kept t) protocol n kept facts
        ≡ request_of method target protocol lines facts
    request_same lines named = rw (method_at.same, target_at.same) (same_request lines named)
