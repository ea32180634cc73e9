-- What the lines of a spelled head say of the head, and what the parts ask for.
use Rattle.std.proofs.Common.{◌≡◌, ◌∙◌, ℕ, zero, suc, append_assoc, ◌+◌, ◌<◌, ◌≤◌, Bool, List, [], ◌∷◌, ◌++◌, All, Any, ap, ap₂, arith, get_or, length, map, refl, sym, take, append-nil}
use Rattle.std.specs.Prelude.{IfNone, IfSome, Option, Some, None}
use Rattle.std.proofs.lemmas.List.{get_or_append_left, length-append, length-map, map-append}
use Rattle.std.proofs.lemmas.List.Elements.{All-append, All-push, All-weaker}
use Rattle.std.proofs.Math.Seq.{take-append_seam, drop-append_seam}
use Rattle.std.proofs.lemmas.List.Elements as elements
use Rattle.attributes.specs.Conn.{Facts}
use Rattle.attributes.specs.Draft.{DraftValue, first_draft, with_entries}
use Rattle.attributes.specs.Headers.{Entry, line_entry}
use Rattle.attributes.specs.Limits.{InLimits, LimitsValue}
use Rattle.attributes.specs.Request.{RequestValue, head_protocol, in_protocol, request_of}
use Rattle.httparse.specs.Grammar.{IsRequestHead, RequestHead, print_request, trim_ows}
use Rattle.httparse.specs.Spans.{name_and_value}
use Rattle.http_front.specs.declared.fault.HeadFault.{HeadFault}
use Rattle.http_front.specs.declared.fault.HeadFault.TheVariants.{BadText, OutsideLimits}
use Rattle.http_front.specs.declared.framing.Framing.{Framing}
use Rattle.http_front.specs.declared.parts.Line.{Line}
use Rattle.http_front.specs.Asks.{AskFault, HasFault, request_of_head}
use Rattle.http_front.specs.Head.{StartsHead, head_of, head_room}
use Rattle.http_front.specs.Parts.{PartsAsk, PartsFault, PartsValue, field_view, head_with, line_name, line_of, parts_text, spelled_head}
use Rattle.http_front.specs.Rules.{IsBadText, IsOriginForm, LinesFault, RuleFault, lines_of, lowered}
use Rattle.http_front.specs.private.Parsed.{AreTexts, IsFraming}
use Rattle.http_front.specs.private.Parts.{HasTextValue, head_fields}
use Rattle.http_front.proofs.FieldLists.{map_take_more, none_has}
use Rattle.http_front.proofs.FieldNames.{lines_in_head}
use Rattle.http_front.proofs.HeadTexts.{kept_texts}
use Rattle.http_front.proofs.Requests.{few_fields}
use Rattle.http_front.proofs.RuleLemmas.{sound_fault}
use Rattle.http_front.proofs.Spelling.{any_back, version_is}

-- ---- lines

-- the field of a head that a line spells
abbrev pub head_field : Line → Entry
head_field line = name_and_value (line_of (field_view line))

-- the fields of two lists of lines
pub fields_append : (front back : List Entry) → head_fields (front ++ back) ≡ head_fields front ++ head_fields back
fields_append front back =
    ap (map name_and_value) (map-append line_of front back)
    ∙ map-append name_and_value (map line_of front) (map line_of back)

-- one line more
pub fields_take_more : (lines : List Line) (i : ℕ) (d : Line) → i < length lines
    → head_fields (map field_view (take (i + 1) lines))
    ≡ head_fields (map field_view (take i lines)) ++ head_field (get_or lines i d) ∷ []
fields_take_more lines i d inside =
    ap head_fields (map_take_more field_view lines i d inside)
    ∙ fields_append (map field_view (take i lines)) (field_view (get_or lines i d) ∷ [])

-- they are as many
pub count_fields : (fields : List Entry) → length (head_fields fields) ≡ length fields
count_fields fields = length-map (map line_of fields) name_and_value ∙ length-map fields line_of

-- what holds of the lines so far and of one more
pub fields_all_more : (P : Entry → Type 0) (lines : List Line) (i : ℕ) (d : Line) → i < length lines
    → All P (head_fields (map field_view (take i lines))) → P (head_field (get_or lines i d))
    → All P (head_fields (map field_view (take (i + 1) lines)))
fields_all_more P lines i d inside all one =
    rw (fields_take_more lines i d inside)
    (All-push P (head_fields (map field_view (take i lines))) (head_field (get_or lines i d)) all one)

-- what holds of a line holds of some
pub fields_any : (P : Entry → Type 0) (lines : List Line) (i : ℕ) (d : Line) → i < length lines
    → P (head_field (get_or lines i d)) → Any P (head_fields (map field_view lines))
fields_any P [] i d inside p = absurd (omega arith)
fields_any P (line ∷ lines) zero d inside p = (0, head_field line, omega arith, refl, p)
fields_any P (line ∷ lines) (suc i) d inside p =
    let later = fields_any P lines i d (omega arith) p in
    any_back P (head_field line ∷ []) (head_fields (map field_view lines)) later

-- what holds of all holds of each
pub fields_at : (P : Entry → Type 0) (lines : List Line) (i : ℕ) (d : Line) → i < length lines
    → All P (head_fields (map field_view lines)) → P (head_field (get_or lines i d))
fields_at P [] i d inside all = absurd (omega arith)
fields_at P (line ∷ lines) zero d inside all =
    elements.All-head P (head_field line) (head_fields (map field_view lines)) all
fields_at P (line ∷ lines) (suc i) d inside all =
    fields_at P lines i d (omega arith)
    (elements.All-tail P (head_field line) (head_fields (map field_view lines)) all)

-- one line more among those of a head
lines_take_more : (before : List Entry) (lines : List Line) (i : ℕ) (d : Line) (name value : List ℕ) → i < length lines
    → name ≡ line_name (get_or lines i d).name.now → value ≡ trim_ows (get_or lines i d).value.now
    → (before ++ map lowered (head_fields (map field_view (take i lines)))) ++ lowered (name, value) ∷ []
    ≡ before ++ map lowered (head_fields (map field_view (take (i + 1) lines)))
lines_take_more before lines i d name value inside named valued =
    let so_far : List Entry = head_fields (map field_view (take i lines)) in
    let make : List ℕ → List ℕ → List Entry = λ n v. map lowered so_far ++ lowered (n, v) ∷ [] in
    append_assoc before (map lowered so_far) (lowered (name, value) ∷ [])
    ∙ ap (λ (es : List Entry). before ++ es) (ap₂ make named valued
    ∙ sym (ap (map lowered) (fields_take_more lines i d inside)
    ∙ map-append lowered so_far (head_field (get_or lines i d) ∷ [])))

pub framed_more : (before : List Entry) (lines : List Line) (i : ℕ) (d : Line) (name value : List ℕ) (f : Framing)
    → i < length lines → name ≡ line_name (get_or lines i d).name.now → value ≡ trim_ows (get_or lines i d).value.now
    → IsFraming ((before ++ map lowered (head_fields (map field_view (take i lines)))) ++ lowered (name, value) ∷ []) f
    → IsFraming (before ++ map lowered (head_fields (map field_view (take (i + 1) lines)))) f
framed_more before lines i d name value f inside named valued is =
    rw (← lines_take_more before lines i d name value inside named valued) is

-- ---- two lists

-- some of the front is some of both
pub any_front : {X : Type 0} (P : X → Type 0) (xs ys : List X) → Any P xs → Any P (xs ++ ys)
any_front P xs ys (k, x, inside, at, p) = (
  k,
  x,
  omega (arith, length-append xs ys),
  get_or_append_left xs ys x k inside ∙ at,
  p,
)

-- what holds of both holds of the front
pub all_front : {X : Type 0} (P : X → Type 0) (xs ys : List X) → All P (xs ++ ys) → All P xs
all_front P xs ys all = rw take-append_seam at (elements.All-take P (length xs) (xs ++ ys) all)

-- and of the back
pub all_back : {X : Type 0} (P : X → Type 0) (xs ys : List X) → All P (xs ++ ys) → All P ys
all_back P xs ys all = rw drop-append_seam at (elements.All-drop P (length xs) (xs ++ ys) all)

-- entries added twice are added at once
pub drafted : (d : DraftValue) (fs gs : List Entry)
    → with_entries (with_entries d (map line_entry (map lowered fs))) (map line_entry (map lowered gs))
    ≡ with_entries d (map line_entry (map lowered (fs ++ gs)))
drafted d fs gs =
    let make : List Entry → DraftValue = λ all. record { method = d.method; target = d.target; entries = all } in
    ap make (append_assoc d.entries (map line_entry (map lowered fs)) (map line_entry (map lowered gs))
    ∙ ap (λ (es : List Entry). d.entries ++ es)
    (sym (ap (map line_entry) (map-append lowered fs gs) ∙ map-append line_entry (map lowered fs) (map lowered gs))))

-- ---- rules

moved_sound : (b d : Bool) (xs ys : List Entry) (found : Option HeadFault) → b ≡ d → xs ≡ ys
    → IfNone found ((fault : HeadFault) → ¬ (LinesFault d ys fault))
    → IfNone found ((fault : HeadFault) → ¬ (LinesFault b xs fault))
moved_sound b d xs ys found version lines is = rw (version, lines) is

moved_fault : (b d : Bool) (xs ys : List Entry) (fault : HeadFault) → b ≡ d → xs ≡ ys → LinesFault d ys fault
    → LinesFault b xs fault
moved_fault b d xs ys fault version lines is = rw (version, lines) is

moved_any : (xs ys : List Entry) → xs ≡ ys → Any IsBadText ys → Any IsBadText xs
moved_any xs ys same is = rw same is

moved_all : (P : Entry → Type 0) (xs ys : List Entry) → xs ≡ ys → All P ys → All P xs
moved_all P xs ys same is = rw same is

module _ (method target : List ℕ) (http11 : Bool) (front back : List Entry) where
  abbrev tree : RequestHead
  tree = head_with method target http11 (front ++ back)

  abbrev front_lines : List Entry
  front_lines = map lowered (head_fields front)

  abbrev back_lines : List Entry
  back_lines = map lowered (head_fields back)

  own_fields : (head_of tree).fields ≡ head_fields front ++ head_fields back
  own_fields = fields_append front back

  own_lines : lines_of (head_of tree) ≡ front_lines ++ back_lines
  own_lines = ap (map lowered) own_fields ∙ map-append lowered (head_fields front) (head_fields back)

  -- there are few of them
  pub spelled_few : length (print_request tree) ≤ head_room → length front + length back ≤ 65536
  spelled_few room =
      let inside = lines_in_head tree in
      let few = few_fields tree.fields in
      let count = length-map (front ++ back) line_of in
      let sum = length-append front back in
      omega (arith, room, inside, few, count, sum)

  pub spelled_count : length (head_of tree).fields ≡ length front + length back
  spelled_count = count_fields (front ++ back) ∙ length-append front back

  -- the texts of the head, if the values are
  pub spelled_texts : IsRequestHead tree → All HasTextValue (head_fields front) → All HasTextValue (head_fields back)
      → AreTexts (head_of tree)
  spelled_texts shape fs gs =
      kept_texts tree shape (none_has IsBadText (head_of tree).fields
      (moved_all (λ f. ¬ (IsBadText f)) (head_of tree).fields (head_fields front ++ head_fields back) own_fields
      (All-weaker HasTextValue (λ f. ¬ (IsBadText f)) (λ f text bad. bad text) (head_fields front ++ head_fields back)
      (All-append HasTextValue (head_fields front) (head_fields back) fs gs))))

  -- a value that is none
  pub spelled_bad_front : Any IsBadText (head_fields front) → RuleFault (head_of tree) BadText
  spelled_bad_front bad =
      RuleFault.bad_text (moved_any (head_of tree).fields (head_fields front ++ head_fields back) own_fields
      (any_front IsBadText (head_fields front) (head_fields back) bad)) refl

  pub spelled_bad_back : Any IsBadText (head_fields back) → RuleFault (head_of tree) BadText
  spelled_bad_back bad =
      RuleFault.bad_text (moved_any (head_of tree).fields (head_fields front ++ head_fields back) own_fields
      (any_back IsBadText (head_fields front) (head_fields back) bad)) refl

  -- no test finds a fault
  pub spelled_sound : (found : Option HeadFault) → AreTexts (head_of tree) → IsOriginForm target
      → IfNone found ((fault : HeadFault) → ¬ (LinesFault http11 (front_lines ++ back_lines) fault))
      → IfNone found ((fault : HeadFault) → ¬ (RuleFault (head_of tree) fault))
  spelled_sound found texts form lines =
      sound_fault (head_of tree) found texts form
      (moved_sound (head_of tree).http11 http11 (lines_of (head_of tree)) (front_lines ++ back_lines) found
      (version_is http11) own_lines lines)

  -- or that of the lines does
  pub spelled_broken : (found : Option HeadFault) → IfSome found (LinesFault http11 (front_lines ++ back_lines))
      → IfSome found (RuleFault (head_of tree))
  spelled_broken None is = tt
  spelled_broken (Some fault) is =
      RuleFault.lines (moved_fault (head_of tree).http11 http11 (lines_of (head_of tree)) (front_lines ++ back_lines) fault
      (version_is http11) own_lines is)

  -- if all is text there is only one fault left to name
  pub spelled_texts_or : (found : Option HeadFault) → AreTexts (head_of tree) → IfNone found (AreTexts (head_of tree))
  spelled_texts_or None texts = texts
  spelled_texts_or (Some fault) texts = tt

  -- ---- the request

  pub front_has : (P : Entry → Type 0) → All P (head_of tree).fields → All P (head_fields front)
  front_has P all =
      all_front P (head_fields front) (head_fields back)
      (moved_all P (head_fields front ++ head_fields back) (head_of tree).fields (sym own_fields) all)

  pub back_has : (P : Entry → Type 0) → All P (head_of tree).fields → All P (head_fields back)
  back_has P all =
      all_back P (head_fields front) (head_fields back)
      (moved_all P (head_fields front ++ head_fields back) (head_of tree).fields (sym own_fields) all)

  -- the draft with all lines makes the request of the head
  pub spelled_request : (d e f : DraftValue) (r : RequestValue) (facts : Facts) → d ≡ first_draft method target
      → e ≡ with_entries d (map line_entry front_lines) → f ≡ with_entries e (map line_entry back_lines)
      → ((lines : List Entry) → f.entries ≡ map line_entry lines
      → r ≡ request_of f.method f.target (head_protocol http11) lines facts)
      → r ≡ request_of_head (head_of tree) facts
  spelled_request d e f r facts first second third made =
      let lines : List Entry = lines_of (head_of tree) in
      let begun : DraftValue = first_draft method target in
      let whole : f ≡ with_entries begun (map line_entry lines) =
      third ∙ ap (λ (x : DraftValue). with_entries x (map line_entry back_lines))
      (second ∙ ap (λ (x : DraftValue). with_entries x (map line_entry front_lines)) first)
      ∙ drafted begun (head_fields front) (head_fields back)
      ∙ ap (λ (fs : List Entry). with_entries begun (map line_entry (map lowered fs))) (sym own_fields) in
      made lines (ap (λ (x : DraftValue). x.entries) whole)
      ∙ ap (λ (x : DraftValue). request_of x.method x.target (head_protocol http11) lines facts) whole
      ∙ ap (λ (b : Bool). request_of method target (head_protocol b) lines facts) (sym (version_is http11))

-- ---- parts

module _ (p : PartsValue) (limits : LimitsValue) (facts : Facts) (h : RequestHead) (same : h ≡ spelled_head p)
    (shape : IsRequestHead h) (room : length (print_request h) ≤ head_room) where
  own_shape : IsRequestHead (spelled_head p)
  own_shape = rw same at shape

  own_room : length (print_request (spelled_head p)) ≤ head_room
  own_room = rw same at room

  starts : StartsHead (parts_text p) (head_of (spelled_head p)) []
  starts = record {
    tree = spelled_head p;
    reads = (own_shape, sym (append-nil (parts_text p)));
    in_room = own_room;
    value = refl;
  }

  -- the fault of the head is that of the parts
  pub parts_refused : (fault : HeadFault) → AskFault limits facts (head_of h) fault → PartsFault p limits facts fault
  parts_refused fault is =
      PartsFault.spelled own_shape (HasFault.broken (head_of (spelled_head p)) [] starts (rw same at is))

  module _ (q : RequestValue) (made : q ≡ request_of_head (head_of h) facts) where
    -- a request that is outside the limits
    pub parts_outside : (fault : HeadFault) → (fault ≡ OutsideLimits) × ¬ (InLimits q limits)
        → PartsFault p limits facts fault
    parts_outside fault (named, over) = parts_refused fault (AskFault.outside (rw made at over) named)

    -- the request of the head is asked for
    pub parts_asked : (r : RequestValue) → ((fault : HeadFault) → ¬ (RuleFault (head_of h) fault))
        → (r ≡ in_protocol p.protocol q) × InLimits q limits → PartsAsk p limits facts r
    parts_asked r sound (is, within) = record {
      shape = own_shape;
      spelled = q;
      asks = record {
        head = head_of (spelled_head p);
        rest = [];
        starts = starts;
        request = rw same at made;
        keeps_rules = rw same at sound;
        in_limits = within;
      };
      request = is;
    }
