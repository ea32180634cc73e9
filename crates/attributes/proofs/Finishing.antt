-- A draft's entries, with the pseudo-headers and joined, are the headers of its request.
use Rattle.std.proofs.Common.{◌≡◌, ℕ, ◌+◌, ◌<◌, ◌^◌, All, List, ◌++◌, Option, Some, IsSome, codes, length, map, refl, ap, ◌∙◌, arith}
use Rattle.std.specs.FinMap.{entries, find}
use Rattle.std.specs.Str.{IsUtf8}
use Rattle.attributes.specs.Attributes.{query_of, url_path_of}
use Rattle.attributes.specs.Conn.{AreFacts, Facts}
use Rattle.attributes.specs.Headers.{Entry, headers_of, line_entry, name_cmp}
use Rattle.attributes.specs.Request.{IsTextEntry, request_of}
use Rattle.attributes.specs.declared.part.Spot.{Spot}
use Rattle.attributes.specs.declared.protocol.Protocol.{Protocol}
use Rattle.attributes.specs.declared.request.CutPlaces.{CutPlaces}
use Rattle.attributes.specs.private.Drafts.{own_entries}
use Rattle.attributes.specs.private.Parts.{IsSpotOf, spot_of}
use Rattle.attributes.specs.private.Request.{IsCut, IsKept, of_parts}
use Rattle.attributes.proofs.OwnHeaders.{method_last, target_last}
use Rattle.attributes.proofs.Requests.{request_kept, request_same}
use Rattle.attributes.proofs.Spots.{spot_inside}
use Rattle.attributes.proofs.TypedAttributes.{path_text, query_text}

is_some_of : {X : Type 0} (o : Option X) (x : X) → o ≡ Some x → IsSome o
is_some_of o x e = rw e refl

module _ (es : List Entry) (method target : List ℕ) (protocol : Protocol) (facts : Facts)
    (kept : List Entry)
    (joined : kept ≡ entries (headers_of (es ++ own_entries method target facts.scheme))) where
  method_split : (front : List ℕ) × (find name_cmp (codes ":method") kept ≡ Some (front ++ method))
  method_split =
      let last = method_last es method target facts.scheme in
      (last.0, ap (find name_cmp (codes ":method")) joined ∙ last.1)

  target_split : (front : List ℕ) × (find name_cmp (codes ":path") kept ≡ Some (front ++ target))
  target_split =
      let last = target_last es method target facts.scheme in
      (last.0, ap (find name_cmp (codes ":path")) joined ∙ last.1)

  -- the headers have both names
  pub method_there : IsSome (find name_cmp (codes ":method") kept)
  method_there = is_some_of _ _ method_split.1

  pub target_there : IsSome (find name_cmp (codes ":path") kept)
  target_there = is_some_of _ _ target_split.1

  -- so the method is the end of one value, and the target of the other
  pub method_at : (n : ℕ) (s : Spot) → ((front end : List ℕ)
      → find name_cmp (codes ":method") kept ≡ Some (front ++ end) → n ≡ length end → IsUtf8 end
      → IsSpotOf kept s end) → n ≡ length method → IsUtf8 method → IsSpotOf kept s method
  method_at n s ends count text = ends method_split.0 method method_split.1 count text

  pub target_at : (n : ℕ) (s : Spot) → ((front end : List ℕ)
      → find name_cmp (codes ":path") kept ≡ Some (front ++ end) → n ≡ length end → IsUtf8 end
      → IsSpotOf kept s end) → n ≡ length target → IsUtf8 target → IsSpotOf kept s target
  target_at n s ends count text = ends target_split.0 target target_split.1 count text

  module _ (n : ℕ) (count : n ≡ length es) (m t : Spot) (method_is : IsSpotOf kept m method)
      (target_is : IsSpotOf kept t target) where
    -- the parts make the request
    pub made : (lines : List Entry) → es ≡ map line_entry lines
        → of_parts (spot_of kept m) (spot_of kept t) protocol n kept facts
        ≡ request_of method target protocol lines facts
    made = request_same method target protocol es kept facts n count joined m t m t method_is
        target_is

    -- and are what it keeps
    pub made_kept : (text : List ℕ) (c : CutPlaces) → text ≡ spot_of kept t → IsCut text c
        → All IsTextEntry kept → AreFacts facts → n < 2 ^ 64
        → IsKept (of_parts (spot_of kept m) (spot_of kept t) protocol n kept facts) kept m t
        (record { index = t.index; from = t.from; to = t.from + c.path_end })
        (record { index = t.index; from = t.from + c.query_from; to = t.from + c.query_to })
    made_kept text c shown cut texts sound fits =
        let same : text ≡ target = shown ∙ target_is.same in
        let places : IsCut target c = rw same at cut in
        let target_text : IsUtf8 target = rw target_is.same at target_is.spot.utf8 in
        let zero_more : t.from ≡ t.from + 0 = omega arith in
        request_kept method target protocol es kept facts n count joined m t _ _ method_is target_is
        (spot_inside kept t target (url_path_of target) t.from 0 c.path_end target_is zero_more
        (omega arith) places.path_within places.path (path_text target target_text))
        (spot_inside kept t target (query_of target) (t.from + c.query_from) c.query_from c.query_to
        target_is (omega arith) places.ordered places.within places.query
        (query_text target target_text))
        texts sound fits
