-- A request that was made once: what follows for other limits than those that it was made for.
use Rattle.std.proofs.Common.{◌≡◌, ◌∙◌, ◌≤◌, ◌<◌, ℕ, Bool, true, false, List, [], ◌∷◌, Option, Some, None, IsTrue, ap, arith, inl, inr, length, nat_lt, refl, subst, sym, ◌||◌}
use Rattle.std.proofs.lemmas.Bool.{lt-ltb, ltb-true, or_cases, or_left, or_right}
use Rattle.std.proofs.lemmas.List.Elements.{All-weaker}
use Rattle.std.specs.FinMap.{entries}
use Rattle.std.specs.List.{AllByRecursion}
use Rattle.attributes.specs.Conn.{Facts, texts_of}
use Rattle.attributes.specs.Headers.{Entry}
use Rattle.attributes.specs.Limits.{AreLimits, EntryInLimits, InLimits, IsWithin, LimitsValue, largest}
use Rattle.attributes.specs.Request.{RequestValue, head_protocol, in_protocol, protocol_of}
use Rattle.attributes.specs.declared.limits.Limit.TheVariants as limit
use Rattle.attributes.specs.declared.protocol.Protocol.{Protocol}
use Rattle.attributes.specs.declared.protocol.Protocol.TheVariants.{Http10, Http11, Http2, Http3}
use Rattle.c_inputs.specs.Requests.{are_too_long, has_long_line, is_long_line}
use Rattle.http_front.specs.Asks.{AskFault, HasFault, HeadAsks, request_of_head}
use Rattle.http_front.specs.Head.{HeadValue, head_room}
use Rattle.http_front.specs.Parts.{PartsAsk, PartsFault, PartsValue, parts_text}
use Rattle.http_front.specs.declared.fault.HeadFault.{HeadFault}
use Rattle.http_front.specs.declared.fault.HeadFault.TheVariants.{OutsideLimits}
use Rattle.vupresal_c.specs.Decisions.{GivenFault}
use Rattle.vupresal_c.specs.Kept.{FitsAsHead}

-- ---- the text of a protocol

version_length : (http11 : Bool) → length (protocol_of (head_protocol http11)) ≡ 8
version_length true = refl
version_length false = refl

protocol_short : (protocol : Protocol) → length (protocol_of protocol) ≤ 8
protocol_short Http10 = omega arith
protocol_short Http11 = omega arith
protocol_short Http2 = omega arith
protocol_short Http3 = omega arith

-- ---- one request, other limits

module _ (head : List ℕ) (from to : LimitsValue) (facts : Facts) (r : RequestValue) (asks : HeadAsks head from facts r) where
  -- the request of a head has a version of 8 bytes
  pub version_is : length (protocol_of r.protocol) ≡ 8
  version_is = ap (λ (q : RequestValue). length (protocol_of q.protocol)) asks.request ∙ version_length asks.head.http11

  -- the head asks for it within other limits, if it is within them
  pub head_within : InLimits r to → HeadAsks head to facts r
  head_within within = record {
    head = asks.head;
    rest = asks.rest;
    starts = asks.starts;
    request = asks.request;
    keeps_rules = asks.keeps_rules;
    in_limits = within;
  }

  -- and has a fault there, if it is not
  pub head_outside : (InLimits r to → ⊥) → HasFault head to facts OutsideLimits
  head_outside out = HasFault.broken asks.head asks.rest asks.starts
      (AskFault.outside (λ within. out (subst (λ (q : RequestValue). InLimits q to) (sym asks.request) within)) refl)

  -- the request is within the limits as its head is
  pub fits_head : InLimits r to → FitsAsHead r to
  fits_head within =
      let known : length (protocol_of r.protocol) ≡ 8 = version_is in
      let enough : length (protocol_of r.protocol) ≤ to.text = within.protocol in
      (within, omega (arith, known, enough))

-- a request and that of its head are within the same limits
module _ (protocol : Protocol) (spelled : RequestValue) (to : LimitsValue) (known : length (protocol_of spelled.protocol) ≡ 8) where
  pub spelled_within : FitsAsHead (in_protocol protocol spelled) to → InLimits spelled to
  spelled_within fits =
      let within = fits.0 in
      let enough : 8 ≤ to.text = fits.1 in
      record {
        count = within.count;
        headers = within.headers;
        method = within.method;
        target = within.target;
        protocol = omega (arith, known, enough);
        facts = within.facts;
      }

  pub within_spelled : InLimits spelled to → FitsAsHead (in_protocol protocol spelled) to
  within_spelled within =
      let enough : length (protocol_of spelled.protocol) ≤ to.text = within.protocol in
      let short : length (protocol_of protocol) ≤ 8 = protocol_short protocol in
      let inside : InLimits (in_protocol protocol spelled) to = record {
        count = within.count;
        headers = within.headers;
        method = within.method;
        target = within.target;
        protocol = omega (arith, known, enough, short);
        facts = within.facts;
      } in
      (inside, omega (arith, known, enough))

module _ (p : PartsValue) (from to : LimitsValue) (facts : Facts) (r : RequestValue) (asks : PartsAsk p from facts r) where
  version_of_parts : length (protocol_of asks.spelled.protocol) ≡ 8
  version_of_parts = version_is (parts_text p) from to facts asks.spelled asks.asks

  -- the parts ask for it within other limits, if it is within them
  pub parts_within : FitsAsHead r to → PartsAsk p to facts r
  parts_within fits =
      let same : FitsAsHead (in_protocol p.protocol asks.spelled) to = subst (λ (q : RequestValue). FitsAsHead q to) asks.request fits in
      record {
        shape = asks.shape;
        spelled = asks.spelled;
        asks = head_within (parts_text p) from to facts asks.spelled asks.asks
            (spelled_within p.protocol asks.spelled to version_of_parts same);
        request = asks.request;
      }

  -- and have a fault there, if it is not
  pub parts_outside : (FitsAsHead r to → ⊥) → PartsFault p to facts OutsideLimits
  parts_outside out = PartsFault.spelled asks.shape (head_outside (parts_text p) from to facts asks.spelled asks.asks
      (λ within. out (subst (λ (q : RequestValue). FitsAsHead q to) (sym asks.request)
      (within_spelled p.protocol asks.spelled to version_of_parts within))))

-- ---- smaller limits than the greatest

text_within : (most more : ℕ) → most ≤ more → (text : Option (List ℕ)) → IsWithin most text → IsWithin more text
text_within most more le None within = tt
text_within most more le (Some bytes) within = omega (arith, le, within)

texts_within : (most more : ℕ) → most ≤ more → (texts : List (Option (List ℕ)))
    → AllByRecursion (IsWithin most) texts → AllByRecursion (IsWithin more) texts
texts_within most more le [] all = tt
texts_within most more le (text ∷ texts) (one, all) = (text_within most more le text one, texts_within most more le texts all)

-- one of four holds, since one of four others does
either_longer : (a b c d a' b' c' d' : Bool) → (a ≡ true → a' ≡ true) → (b ≡ true → b' ≡ true) → (c ≡ true → c' ≡ true)
    → (d ≡ true → d' ≡ true) → (a || b || c || d) ≡ true → (a' || b' || c' || d') ≡ true
either_longer a b c d true b' c' d' f g h i is = refl
either_longer a b c d false true c' d' f g h i is = refl
either_longer a b c d false false true d' f g h i is = refl
either_longer a b c d false false false true f g h i is = refl
either_longer true b c d false false false false f g h i is = f refl
either_longer false true c d false false false false f g h i is = g refl
either_longer false false true d false false false false f g h i is = h refl
either_longer false false false d false false false false f g h i is = i is

module _ (l : LimitsValue) (are : AreLimits l) where
  few : l.fields ≤ 64
  few = (are limit.Fields).1

  short_name : l.name ≤ 128
  short_name = (are limit.Name).1

  short_value : l.value ≤ 4096
  short_value = (are limit.Value).1

  short_method : l.method ≤ 32
  short_method = (are limit.Method).1

  short_target : l.target ≤ 4096
  short_target = (are limit.Target).1

  short_text : l.text ≤ 1024
  short_text = (are limit.Text).1

  entry_within : (e : Entry) → EntryInLimits l e → EntryInLimits largest e
  entry_within e within =
      let name : length e.0 ≤ l.name = within.0 in
      let value : length e.1 ≤ l.value = within.1 in
      (omega (arith, name, short_name), omega (arith, value, short_value))

  -- what is within the limits is within the greatest
  pub within_largest : (r : RequestValue) → InLimits r l → InLimits r largest
  within_largest r within = record {
    count = omega (arith, within.count, few);
    headers = All-weaker (EntryInLimits l) (EntryInLimits largest) entry_within (entries r.headers) within.headers;
    method = omega (arith, within.method, short_method);
    target = omega (arith, within.target, short_target);
    protocol = omega (arith, within.protocol, short_text);
    facts = texts_within l.text 1024 short_text (texts_of r.facts) within.facts;
  }

  ask_fault_within : (facts : Facts) (h : HeadValue) (fault : HeadFault) → AskFault largest facts h fault → AskFault l facts h fault
  ask_fault_within facts h fault (AskFault.breaks breaks) = AskFault.breaks breaks
  ask_fault_within facts h fault (AskFault.outside out is) = AskFault.outside (λ within. out (within_largest (request_of_head h facts) within)) is

  -- a fault within the greatest limits is one within these
  pub head_fault_within : (head : List ℕ) (facts : Facts) (fault : HeadFault) → HasFault head largest facts fault → HasFault head l facts fault
  head_fault_within head facts fault (HasFault.hopeless part never is) = HasFault.hopeless part never is
  head_fault_within head facts fault (HasFault.endless none long is) = HasFault.endless none long is
  head_fault_within head facts fault (HasFault.broken h rest starts why) =
      HasFault.broken h rest starts (ask_fault_within facts h fault why)

  pub parts_fault_within : (p : PartsValue) (facts : Facts) (fault : HeadFault) → PartsFault p largest facts fault → PartsFault p l facts fault
  parts_fault_within p facts fault (PartsFault.malformed part bad is) = PartsFault.malformed part bad is
  parts_fault_within p facts fault (PartsFault.spelled shape why) = PartsFault.spelled shape (head_fault_within (parts_text p) facts fault why)

  longer : (least most n : ℕ) → least ≤ most → nat_lt most n ≡ true → nat_lt least n ≡ true
  longer least most n le is =
      let more : most < n = ltb-true most n is in
      lt-ltb least n (omega (arith, le, more))

  line_longer : (e : Entry) → is_long_line 128 e ≡ true → is_long_line l.name e ≡ true
  line_longer e is = elim (or_cases (nat_lt 128 (length e.0)) (nat_lt head_room (length e.1)) is) [
    | inl name ↦ or_left (nat_lt l.name (length e.0)) (nat_lt head_room (length e.1)) (longer l.name 128 (length e.0) short_name name)
    | inr value ↦ or_right (nat_lt l.name (length e.0)) (nat_lt head_room (length e.1)) value
  ]

  lines_longer : (fields : List Entry) → has_long_line 128 fields ≡ true → has_long_line l.name fields ≡ true
  lines_longer [] is = is
  lines_longer (f ∷ fields) is = elim (or_cases (is_long_line 128 f) (has_long_line 128 fields) is) [
    | inl one ↦ or_left (is_long_line l.name f) (has_long_line l.name fields) (line_longer f one)
    | inr other ↦ or_right (is_long_line l.name f) (has_long_line l.name fields) (lines_longer fields other)
  ]

  -- so are lengths that put the parts outside of them
  pub too_long_within : (p : PartsValue) → IsTrue (are_too_long largest p) → IsTrue (are_too_long l p)
  too_long_within p is =
      either_longer (nat_lt 32 (length p.method)) (nat_lt 4096 (length p.target)) (nat_lt 64 (length p.fields)) (has_long_line 128 p.fields)
      (nat_lt l.method (length p.method)) (nat_lt l.target (length p.target)) (nat_lt l.fields (length p.fields)) (has_long_line l.name p.fields)
      (longer l.method 32 (length p.method) short_method) (longer l.target 4096 (length p.target) short_target)
      (longer l.fields 64 (length p.fields) few) (lines_longer p.fields) is

  pub given_fault_within : (p : PartsValue) (facts : Facts) (fault : HeadFault) → GivenFault p facts largest fault → GivenFault p facts l fault
  given_fault_within p facts fault (inl long) = inl (too_long_within p long.0, long.1)
  given_fault_within p facts fault (inr why) = inr (parts_fault_within p facts fault why)
