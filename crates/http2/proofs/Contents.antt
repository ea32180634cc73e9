-- The content of a call is what the DATA frames of its stream brought.
use Rattle.std.proofs.Common.{◌≡◌, ◌≢◌, ◌≤◌, ◌<◌, ◌⊎◌, inl, inr, ℕ, ◌+◌, ◌-◌, ◌%◌, ◌==◌, Bool, true, false, not, if◌then◌else◌, Option, Some, None, List, [], ◌∷◌, ◌++◌, length, refl, sym, ap, ◌∙◌, true≢false, subst, arith, nat_lt, append_assoc, append-nil}
use Rattle.std.specs.List.{AllByRecursion}
use Rattle.std.proofs.lemmas.Bool.{eqb-true, eqb-false, ne_eqb, eq-eqb, ltb-true, lt-ltb, cases_lt}
use Rattle.hpack.specs.Field.{Line}
use Rattle.http2.specs.Frame.{Parts, kind_of, stream_of, content_of, ends_stream, is_acknowledgement, flow_of, increment_of, window_after, data_on}
use Rattle.http2.specs.Trail.{Step, got, put, data_got}
use Rattle.http2.specs.Answer.{length_from, without, is_whole}
use Rattle.http2.specs.Control.{is_settings}
use Rattle.http2.specs.Fields.{are_plain}
use Rattle.http2.specs.Request.{is_request}
use Rattle.http2.specs.Gathering.{Gathered, heavy, part, garbled, whole}
use Rattle.http2.specs.Served.{answered}
use Rattle.http2.specs.Streams.{RequestValue, CallValue, StreamValue, fresh, find, others, is_beyond, are_within}
use Rattle.http2.specs.Exchange.{ExchangeValue, first_exchange, Event, quiet, resets, asks, Turn, on, over, breaks, gone, fails, stays, beside, is_idle, is_astray, is_misplaced, ended, opened, request_came, stream_came, trailers_in, trailers_of, trailers_came, fields_came, gathered, content_taken, content_in, content_of_stream, content_came, data_came, reset_came, connection_raised, stream_raised, update_came, stream_failed, failed, begun, settled, most_streams, most_resets, Says, content, begins, continues, reset, settings, update, nothing, Takes, spent, faulty, failing, misplaced, placed}
use Rattle.http2.specs.Exchanged.{calls_in, welcomed, changed, headed, charged, closed, Puts, Comes, Goes, IsOver}
use Rattle.http2.specs.Exchanged as puts
use Rattle.http2.specs.Separate.{IsOf}
use Rattle.http2.specs.Contents.{is_last, has_ended, HasItsData}
use Rattle.http2.specs.Unary.{UnaryValue, IsAt, UnaryLaw}
use Rattle.http2.specs.declared.fault.Code.{Code}
use Rattle.http2.specs.declared.fault.Fault.{Fault}
use Rattle.http2.proofs.Calls.{none_some}
use Rattle.http2.proofs.Ended.{Asked, came_whole, same_end}
use Rattle.http2.proofs.Frames.{other_data}
use Rattle.http2.proofs.Separate.{Beside, find_others, find_more, NumberIs, number_found, keeps_others}

-- ---- lists of streams

-- each stream has a number of its own
abbrev pub AreDistinct : List StreamValue → Type 0
AreDistinct [] = Unit {0}
AreDistinct (s ∷ ss) = (find s.number ss ≡ None) × AreDistinct ss

none_by : (b : Bool) (x : StreamValue) (o : Option StreamValue) → (if b then Some x else o) ≡ None → (b ≡ false) × (o ≡ None)
none_by true x o none = absurd (none_some (sym none))
none_by false x o none = (refl, none)

none_more : (n : ℕ) (x : StreamValue) (ss : List StreamValue) → find n (x ∷ ss) ≡ None → ((x.number == n) ≡ false) × (find n ss ≡ None)
none_more n x ss none = none_by (x.number == n) x (find n ss) none

distinct_by : (n : ℕ) (s : StreamValue) (ss : List StreamValue) (b : Bool) → (s.number == n) ≡ b → find s.number ss ≡ None
    → AreDistinct ss → AreDistinct (others n ss) → AreDistinct (if b then ss else s ∷ others n ss)
distinct_by n s ss true is first are rest = are
distinct_by n s ss false is first are rest = (find_others s.number n ss (eqb-false s.number n is) ∙ first, rest)

distinct_others : (n : ℕ) (ss : List StreamValue) → AreDistinct ss → AreDistinct (others n ss)
distinct_others n [] are = tt
distinct_others n (s ∷ ss) (first, are) = distinct_by n s ss (s.number == n) refl first are (distinct_others n ss are)

gone_by : (n : ℕ) (s : StreamValue) (ss : List StreamValue) (b : Bool) → (s.number == n) ≡ b → find s.number ss ≡ None
    → find n (others n ss) ≡ None → find n (if b then ss else s ∷ others n ss) ≡ None
gone_by n s ss true is first rest = subst (λ (k : ℕ). find k ss ≡ None) (eqb-true s.number n is) first
gone_by n s ss false is first rest = ap (λ (b : Bool). if b then Some s else find n (others n ss)) is ∙ rest

-- a stream that was taken out is not among the others
gone_is : (n : ℕ) (ss : List StreamValue) → AreDistinct ss → find n (others n ss) ≡ None
gone_is n [] are = refl
gone_is n (s ∷ ss) (first, are) = gone_by n s ss (s.number == n) refl first (gone_is n ss are)

distinct_more : (ss : List StreamValue) (s : StreamValue) → AreDistinct ss → find s.number ss ≡ None → AreDistinct (ss ++ s ∷ [])
distinct_more [] s are none = (refl, tt)
distinct_more (x ∷ ss) s (first, are) none =
    let rest = none_more s.number x ss none in
    (find_more x.number ss s (eqb-false x.number s.number rest.0) ∙ first, distinct_more ss s are rest.1)

find_last : (n : ℕ) (ss : List StreamValue) (s : StreamValue) → find n ss ≡ None → s.number ≡ n → find n (ss ++ s ∷ []) ≡ Some s
find_last n [] s none is = ap (λ (b : Bool). if b then Some s else None) (eq-eqb s.number n is)
find_last n (x ∷ ss) s none is =
    let rest = none_more n x ss none in
    ap (λ (b : Bool). if b then Some x else find n (ss ++ s ∷ [])) rest.0 ∙ find_last n ss s rest.1 is

-- ---- one stream, and the data that came on it

-- what came of a request is these data
abbrev pub RequestHas : List ℕ → Option RequestValue → Type 0
RequestHas data_in None = Unit {0}
RequestHas data_in (Some r) = r.content ≡ data_in

abbrev pub StreamHas : List ℕ → Option StreamValue → Type 0
StreamHas data_in None = Unit {0}
StreamHas data_in (Some s) = RequestHas data_in s.request

abbrev pub EventHas : List ℕ → Event → Type 0
EventHas data_in quiet = Unit {0}
EventHas data_in (resets stream code) = Unit {0}
EventHas data_in (asks call) = call.request.content ≡ data_in

-- a stream after a frame on it, with the data that came on it; the greatest stream was another before
pub record Own (n last : ℕ) (data_in : List ℕ) (c : ExchangeValue) : Type 0 where
  pub distinct : AreDistinct c.streams
  pub higher : last ≤ c.last
  pub below : c.last < n → find n c.streams ≡ None
  pub has : StreamHas data_in (find n c.streams)

abbrev pub OwnTurn : ℕ → ℕ → List ℕ → Turn → Type 0
OwnTurn n last data_in (over f) = Unit {0}
OwnTurn n last data_in (on c event) = Own n last data_in c × EventHas data_in event

-- the stream is not among the others
pub record Out (n last : ℕ) (c : ExchangeValue) : Type 0 where
  pub distinct : AreDistinct c.streams
  pub higher : last ≤ c.last
  pub none : find n c.streams ≡ None

-- a stream that was found
abbrev pub Found : ℕ → ℕ → List ℕ → Option StreamValue → Type 0
Found n last data_in None = Unit {0}
Found n last data_in (Some s) = (s.number ≡ n) × (n ≤ last) × RequestHas data_in s.request

at_most : (n last : ℕ) (s : StreamValue) → (last < n → Some s ≡ None) → n ≤ last
at_most n last s below = elim (cases_lt last n) [ inl less ↦ absurd (none_some (sym (below less))) | inr most ↦ most ]

found_by : (n last : ℕ) (data_in : List ℕ) (o : Option StreamValue) → (last < n → o ≡ None) → NumberIs n o → StreamHas data_in o
    → Found n last data_in o
found_by n last data_in None below number has = tt
found_by n last data_in (Some s) below number has = (number, at_most n last s below, has)

-- ---- the steps

module _ (n last : ℕ) (data_in : List ℕ) where
  either : (b : Bool) (x y : Turn) → OwnTurn n last data_in x → OwnTurn n last data_in y → OwnTurn n last data_in (if b then x else y)
  either true x y p q = p
  either false x y p q = q

  out_own : (c : ExchangeValue) → Out n last c → Own n last data_in c
  out_own c out = record {
    distinct = out.distinct;
    higher = out.higher;
    below = λ less. out.none;
    has = subst (λ (o : Option StreamValue). StreamHas data_in o) (sym out.none) tt;
  }

  out_beside : (c : ExchangeValue) → Own n last data_in c → Out n last (beside c n)
  out_beside c own = record {
    distinct = distinct_others n c.streams own.distinct;
    higher = own.higher;
    none = gone_is n c.streams own.distinct;
  }

  found_of : (c : ExchangeValue) → Own n last data_in c → Found n c.last data_in (find n c.streams)
  found_of c own = found_by n c.last data_in (find n c.streams) own.below (number_found n c.streams) own.has

  own_gone : (c : ExchangeValue) (event : Event) → Out n last c → EventHas data_in event → OwnTurn n last data_in (gone c event)
  own_gone c event out has =
      either (nat_lt c.resets most_resets) (on (record c { resets = c.resets + 1 }) event) (breaks Code.EnhanceYourCalm)
      (out_own (record c { resets = c.resets + 1 }) (record { distinct = out.distinct; higher = out.higher; none = out.none }), has) tt

  own_stays : (c : ExchangeValue) (s : StreamValue) (event : Event) → Out n last c → s.number ≡ n → n ≤ c.last
      → RequestHas data_in s.request → EventHas data_in event → OwnTurn n last data_in (stays c s event)
  own_stays c s event out number low has asked = (
    record {
      distinct = distinct_more c.streams s out.distinct (subst (λ (k : ℕ). find k c.streams ≡ None) (sym number) out.none);
      higher = out.higher;
      below = λ less. absurd (omega (arith, less, low));
      has = subst (λ (o : Option StreamValue). StreamHas data_in o) (sym (find_last n c.streams s out.none number)) has;
    },
    asked,
  )

  own_ended : (c : ExchangeValue) (left : Option ℕ) (r : RequestValue) (s : StreamValue) → Out n last c → s.number ≡ n → n ≤ c.last
      → s.request ≡ None → r.content ≡ data_in → OwnTurn n last data_in (ended c left r s)
  own_ended c left r s out number low none has =
      either (is_whole left) (stays c s (asks (record { stream = s.number; request = r }))) (fails Code.Protocol s.number c)
      (own_stays c s (asks (record { stream = s.number; request = r })) out number low
      (subst (λ (o : Option RequestValue). RequestHas data_in o) (sym none) tt) has)
      (own_gone c (resets s.number Code.Protocol) out tt)

  own_opened : (c : ExchangeValue) (fs : List Line) (o : Option (Option ℕ)) → Out n last c → n ≤ c.last → [] ≡ data_in
      → OwnTurn n last data_in (opened c n fs o)
  own_opened c fs None out low empty = own_gone c (resets n Code.Protocol) out tt
  own_opened c fs (Some left) out low empty =
      let r : RequestValue = record { fields = fs; content = [] } in
      either c.ends (ended c left r (fresh n None left)) (stays c (fresh n (Some r) left) quiet)
      (own_ended c left r (fresh n None left) out refl low refl empty) (own_stays c (fresh n (Some r) left) quiet out refl low empty tt)

  own_request : (c : ExchangeValue) (fs : Option (List Line)) → Out n last c → n ≤ c.last → [] ≡ data_in
      → OwnTurn n last data_in (request_came c n fs)
  own_request c None out low empty = own_gone c (resets n Code.EnhanceYourCalm) out tt
  own_request c (Some fs) out low empty =
      either (is_request fs) (opened c n fs (length_from None fs)) (fails Code.Protocol n c)
      (own_opened c fs (length_from None fs) out low empty) (own_gone c (resets n Code.Protocol) out tt)

  own_stream : (c : ExchangeValue) (fs : Option (List Line)) → Out n last c → n ≤ c.last → [] ≡ data_in
      → OwnTurn n last data_in (stream_came c n fs)
  own_stream c fs out low empty =
      either (nat_lt (length c.streams) most_streams) (request_came c n fs) (on c (resets n Code.RefusedStream))
      (own_request c fs out low empty) (out_own c out, tt)

  own_trailers_in : (c : ExchangeValue) (s : StreamValue) (r : RequestValue) (fs : Option (List Line)) → Out n last c → s.number ≡ n
      → n ≤ c.last → r.content ≡ data_in → OwnTurn n last data_in (trailers_in c s r fs)
  own_trailers_in c s r None out number low has = own_gone c (resets s.number Code.EnhanceYourCalm) out tt
  own_trailers_in c s r (Some fs) out number low has =
      let bad : OwnTurn n last data_in (fails Code.Protocol s.number c) = own_gone c (resets s.number Code.Protocol) out tt in
      let at_last : Turn = if are_plain fs then ended c s.left r (record s { request = None }) else fails Code.Protocol s.number c in
      let last_is : OwnTurn n last data_in at_last =
      either (are_plain fs) (ended c s.left r (record s { request = None })) (fails Code.Protocol s.number c)
      (own_ended c s.left r (record s { request = None }) out number low refl has) bad in
      either (not c.ends) (fails Code.Protocol s.number c) at_last bad last_is

  own_trailers_of : (c : ExchangeValue) (s : StreamValue) (o : Option RequestValue) (fs : Option (List Line)) → Out n last c
      → s.number ≡ n → n ≤ c.last → RequestHas data_in o → OwnTurn n last data_in (trailers_of c s o fs)
  own_trailers_of c s None fs out number low has = own_gone c (resets s.number Code.StreamClosed) out tt
  own_trailers_of c s (Some r) fs out number low has = own_trailers_in c s r fs out number low has

  own_trailers : (c : ExchangeValue) (o : Option StreamValue) (fs : Option (List Line)) → Out n last c → Found n c.last data_in o
      → OwnTurn n last data_in (trailers_came c o fs)
  own_trailers c None fs out is = (out_own c out, tt)
  own_trailers c (Some s) fs out (number, low, has) = own_trailers_of c s s.request fs out number low has

  own_taken : (c : ExchangeValue) (s : StreamValue) (r : RequestValue) (ends : Bool) (left : Option ℕ) → Out n last c → s.number ≡ n
      → n ≤ c.last → r.content ≡ data_in → OwnTurn n last data_in (content_taken c s r ends left)
  own_taken c s r ends left out number low has =
      either ends (ended c left r (record s { request = None; left = left })) (stays c (record s { request = Some r; left = left }) quiet)
      (own_ended c left r (record s { request = None; left = left }) out number low refl has)
      (own_stays c (record s { request = Some r; left = left }) quiet out number low has tt)

  own_reset : (c : ExchangeValue) (o : Option StreamValue) → Out n last c → OwnTurn n last data_in (reset_came c o)
  own_reset c None out = (out_own c out, tt)
  own_reset c (Some s) out = own_gone c quiet out tt

  own_raised : (c : ExchangeValue) (o : Option StreamValue) (more : ℕ) → Out n last c → Found n c.last data_in o
      → OwnTurn n last data_in (stream_raised c o more)
  own_raised c None more out is = (out_own c out, tt)
  own_raised c (Some s) more out (number, low, has) =
      either (is_beyond c.window (s.raised + more) s.used) (fails Code.FlowControl s.number c) (stays c (record s { raised = s.raised + more }) quiet)
      (own_gone c (resets s.number Code.FlowControl) out tt)
      (own_stays c (record s { raised = s.raised + more }) quiet out number low has tt)

  own_stream_failed : (c : ExchangeValue) (o : Option StreamValue) (code : Code) → Out n last c
      → OwnTurn n last data_in (stream_failed c o code)
  own_stream_failed c None code out = (out_own c out, tt)
  own_stream_failed c (Some s) code out = own_gone c (resets s.number code) out tt

-- ---- whole frames

-- more content, after what came before
own_content_in : (n last : ℕ) (before : List ℕ) (c : ExchangeValue) (s : StreamValue) (r : RequestValue) (ends : Bool) (octets : List ℕ)
    (o : Option (Option ℕ)) → Out n last c → s.number ≡ n → n ≤ c.last → r.content ≡ before
    → OwnTurn n last (before ++ octets) (content_in c s r ends octets o)
own_content_in n last before c s r ends octets None out number low has =
    own_gone n last (before ++ octets) c (resets s.number Code.Protocol) out tt
own_content_in n last before c s r ends octets (Some left) out number low has =
    let more : RequestValue = record r { content = r.content ++ octets } in
    either n last (before ++ octets) (nat_lt c.most (length r.content + length octets)) (fails Code.EnhanceYourCalm s.number c)
    (content_taken c s more ends left)
    (own_gone n last (before ++ octets) c (resets s.number Code.EnhanceYourCalm) out tt)
    (own_taken n last (before ++ octets) c s more ends left out number low (ap (λ (l : List ℕ). l ++ octets) has))

own_content_of : (n last : ℕ) (before : List ℕ) (c : ExchangeValue) (s : StreamValue) (o : Option RequestValue) (ends : Bool) (octets : List ℕ)
    → Out n last c → s.number ≡ n → n ≤ c.last → RequestHas before o
    → OwnTurn n last (before ++ octets) (content_of_stream c s o ends octets)
own_content_of n last before c s None ends octets out number low has =
    own_gone n last (before ++ octets) c (resets s.number Code.StreamClosed) out tt
own_content_of n last before c s (Some r) ends octets out number low has =
    own_content_in n last before c s r ends octets (without s.left (length octets)) out number low has

own_content : (n last : ℕ) (before : List ℕ) (c : ExchangeValue) (o : Option StreamValue) (ends : Bool) (octets : List ℕ)
    → Out n last c → Found n c.last before o → OwnTurn n last (before ++ octets) (content_came c o ends octets)
own_content n last before c None ends octets out is = (out_own n last (before ++ octets) c out, tt)
own_content n last before c (Some s) ends octets out (number, low, has) =
    own_content_of n last before c s s.request ends octets out number low has

own_data : (last : ℕ) (before : List ℕ) (c : ExchangeValue) (frame : List ℕ) → Own (stream_of frame) last before c
    → OwnTurn (stream_of frame) last (before ++ content_of frame) (data_came c frame)
own_data last before c frame own =
    let n : ℕ = stream_of frame in
    let out = out_beside n last before c own in
    let less : ExchangeValue = beside (record c { credit = c.credit - flow_of frame }) n in
    either n last (before ++ content_of frame) (nat_lt c.credit (flow_of frame)) (breaks Code.FlowControl)
    (content_came less (find n c.streams) (ends_stream frame) (content_of frame)) tt
    (own_content n last before less (find n c.streams) (ends_stream frame) (content_of frame)
    (record { distinct = out.distinct; higher = out.higher; none = out.none }) (found_of n last before c own))

-- the exchange changed in nothing that counts for the stream
own_same : (n last : ℕ) (data_in : List ℕ) (c after : ExchangeValue) → after.streams ≡ c.streams → after.last ≡ c.last
    → Own n last data_in c → Own n last data_in after
own_same n last data_in c after streams greatest own = record {
  distinct = subst (λ (ss : List StreamValue). AreDistinct ss) (sym streams) own.distinct;
  higher = omega (arith, greatest, own.higher);
  below = λ less. ap (λ (ss : List StreamValue). find n ss) streams ∙ own.below (omega (arith, greatest, less));
  has = subst (λ (ss : List StreamValue). StreamHas data_in (find n ss)) (sym streams) own.has;
}

fields_by : (n last : ℕ) (data_in : List ℕ) (c : ExchangeValue) (fs : Option (List Line)) (b : Bool) → nat_lt c.last n ≡ b
    → Own n last data_in c → (c.last < n → data_in ≡ [])
    → OwnTurn n last data_in (if b then stream_came (record c { last = n }) n fs else trailers_came (beside c n) (find n c.streams) fs)
fields_by n last data_in c fs true is own empty =
    let less : c.last < n = ltb-true c.last n is in
    let higher = own.higher in
    own_stream n last data_in (record c { last = n }) fs
    (record { distinct = own.distinct; higher = omega (arith, less, higher); none = own.below less }) (omega arith) (sym (empty less))
fields_by n last data_in c fs false is own empty =
    own_trailers n last data_in (beside c n) (find n c.streams) fs (out_beside n last data_in c own) (found_of n last data_in c own)

own_fields : (n last : ℕ) (data_in : List ℕ) (c : ExchangeValue) (fs : Option (List Line)) → Own n last data_in c
    → (c.last < n → data_in ≡ []) → OwnTurn n last data_in (fields_came c n fs)
own_fields n last data_in c fs own empty = fields_by n last data_in c fs (nat_lt c.last n) refl own empty

own_gathered : (n last : ℕ) (data_in : List ℕ) (c : ExchangeValue) (g : Gathered) → Own n last data_in c
    → (c.last < n → data_in ≡ []) → OwnTurn n last data_in (gathered c n g)
own_gathered n last data_in c heavy own empty = tt
own_gathered n last data_in c part own empty = (own, tt)
own_gathered n last data_in c garbled own empty = tt
own_gathered n last data_in c (whole fs) own empty =
    own_fields n last data_in (record c { unfinished = 0 }) fs (own_same n last data_in c (record c { unfinished = 0 }) refl refl own) empty

own_update : (last : ℕ) (data_in : List ℕ) (c : ExchangeValue) (frame : List ℕ) → Own (stream_of frame) last data_in c
    → OwnTurn (stream_of frame) last data_in (update_came c frame)
own_update last data_in c frame own =
    let n : ℕ = stream_of frame in
    let wide : ℕ = c.raised + increment_of 0 frame in
    either n last data_in (n == 0) (connection_raised c (increment_of 0 frame)) (stream_raised (beside c n) (find n c.streams) (increment_of n frame))
    (either n last data_in (is_beyond 65535 wide c.used) (breaks Code.FlowControl) (on (record c { raised = wide }) quiet) tt
    (own_same n last data_in c (record c { raised = wide }) refl refl own, tt))
    (own_raised n last data_in (beside c n) (find n c.streams) (increment_of n frame) (out_beside n last data_in c own) (found_of n last data_in c own))

own_failed : (n last : ℕ) (data_in after : List ℕ) (c : ExchangeValue) (code : Code) → Own n last data_in c
    → OwnTurn n last after (failed c n code)
own_failed n last data_in after c code own =
    let out = out_beside n last data_in c own in
    either n last after (is_idle c n) (breaks code) (stream_failed (beside c n) (find n c.streams) code) tt
    (own_stream_failed n last after (beside c n) (find n c.streams) code out)

-- the data of a frame
this_data : (frame : List ℕ) → kind_of frame ≡ 0 → data_on (stream_of frame) frame ≡ content_of frame
this_data frame kind =
    ap (λ (b : Bool). if b then (if stream_of frame == stream_of frame then content_of frame else []) else []) (eq-eqb (kind_of frame) 0 kind)
    ∙ ap (λ (b : Bool). if b then content_of frame else []) (eq-eqb (stream_of frame) (stream_of frame) refl)

same_if : (b : Bool) (xs : List ℕ) → (if b then xs else xs) ≡ xs
same_if true xs = refl
same_if false xs = refl

elsewhere : (m : ℕ) (frame : List ℕ) → stream_of frame ≢ m → data_on m frame ≡ []
elsewhere m frame ne =
    ap (λ (b : Bool). if kind_of frame == 0 then (if b then content_of frame else []) else []) (ne_eqb (stream_of frame) m ne)
    ∙ same_if (kind_of frame == 0) []

-- a frame of another type leaves the data as they are
module _ (n last : ℕ) (before : List ℕ) (frame : List ℕ) (kind : ℕ) (is : kind_of frame ≡ kind) (other : kind ≢ 0) (turn : Turn) where
  no_data : OwnTurn n last before turn → OwnTurn n last (before ++ data_on n frame) turn
  no_data own =
      subst (λ (d : List ℕ). OwnTurn n last d turn)
      (sym (append-nil before) ∙ ap (λ (d : List ℕ). before ++ d) (sym (other_data n frame kind is other))) own

own_says : (last : ℕ) (before : List ℕ) (c : ExchangeValue) (frame : List ℕ) (turn : Turn) → Own (stream_of frame) last before c
    → (c.last < stream_of frame → before ≡ []) → Says c frame turn
    → OwnTurn (stream_of frame) last (before ++ data_on (stream_of frame) frame) turn
own_says last before c frame turn own empty (content kind is) =
    let n : ℕ = stream_of frame in
    subst (λ (t : Turn). OwnTurn n last (before ++ data_on n frame) t) (sym is)
    (subst (λ (d : List ℕ). OwnTurn n last (before ++ d) (data_came c frame)) (sym (this_data frame kind)) (own_data last before c frame own))
own_says last before c frame turn own empty (begins kind came) =
    let n : ℕ = stream_of frame in
    let next : ExchangeValue = record (begun c frame) { block = came.1 } in
    subst (λ (t : Turn). OwnTurn n last (before ++ data_on n frame) t) (sym came.3)
    (no_data n last before frame 1 kind (λ e. absurd (omega (arith, e))) (gathered next n came.0)
    (own_gathered n last before next came.0 (own_same n last before c next refl refl own) empty))
own_says last before c frame turn own empty (continues kind came) =
    let n : ℕ = stream_of frame in
    let next : ExchangeValue = record c { block = came.1 } in
    subst (λ (t : Turn). OwnTurn n last (before ++ data_on n frame) t) (sym came.3)
    (no_data n last before frame 9 kind (λ e. absurd (omega (arith, e))) (gathered next n came.0)
    (own_gathered n last before next came.0 (own_same n last before c next refl refl own) empty))
own_says last before c frame turn own empty (reset kind is) =
    let n : ℕ = stream_of frame in
    no_data n last before frame 3 kind (λ e. absurd (omega (arith, e))) turn
    (subst (λ (t : Turn). OwnTurn n last before t) (sym is)
    (own_reset n last before (beside c n) (find n c.streams) (out_beside n last before c own)))
own_says last before c frame turn own empty (settings kind is) =
    let n : ℕ = stream_of frame in
    let next : ExchangeValue = record c { window = window_after c.window frame } in
    no_data n last before frame 4 kind (λ e. absurd (omega (arith, e))) turn
    (subst (λ (t : Turn). OwnTurn n last before t) (sym is)
    (either n last before (are_within (window_after c.window frame) c.streams) (on next quiet) (breaks Code.FlowControl)
    (own_same n last before c next refl refl own, tt) tt))
own_says last before c frame turn own empty (update kind is) =
    let n : ℕ = stream_of frame in
    no_data n last before frame 8 kind (λ e. absurd (omega (arith, e))) turn
    (subst (λ (t : Turn). OwnTurn n last before t) (sym is) (own_update last before c frame own))
own_says last before c frame turn own empty (nothing other a b d e f is) =
    let n : ℕ = stream_of frame in
    no_data n last before frame (kind_of frame) refl other turn
    (subst (λ (t : Turn). OwnTurn n last before t) (sym is) (own, tt))

own_takes : (before : List ℕ) (c : ExchangeValue) (frame : List ℕ) (turn : Turn) → Own (stream_of frame) c.last before c
    → (c.last < stream_of frame → before ≡ []) → Takes c frame turn
    → OwnTurn (stream_of frame) c.last (before ++ data_on (stream_of frame) frame) turn
own_takes before c frame turn own empty (spent fault is) =
    subst (λ (t : Turn). OwnTurn (stream_of frame) c.last (before ++ data_on (stream_of frame) frame) t) (sym is) tt
own_takes before c frame turn own empty (faulty code fault is) =
    subst (λ (t : Turn). OwnTurn (stream_of frame) c.last (before ++ data_on (stream_of frame) frame) t) (sym is) tt
own_takes before c frame turn own empty (failing code fault is) =
    let n : ℕ = stream_of frame in
    subst (λ (t : Turn). OwnTurn n c.last (before ++ data_on n frame) t) (sym is)
    (either n c.last (before ++ data_on n frame) (is_misplaced c frame) (breaks Code.Protocol) (failed (settled c) n code) tt
    (own_failed n c.last before (before ++ data_on n frame) (settled c) code (own_same n c.last before c (settled c) refl refl own)))
own_takes before c frame turn own empty (misplaced fault place is) =
    subst (λ (t : Turn). OwnTurn (stream_of frame) c.last (before ++ data_on (stream_of frame) frame) t) (sym is) tt
own_takes before c frame turn own empty (placed fault place says) =
    own_says c.last before (settled c) frame turn (own_same (stream_of frame) c.last before c (settled c) refl refl own) empty says

-- ---- where DATA may be

-- no stream is idle that has data: of a frame with which the connection goes on
abbrev pub IsPlaced : ExchangeValue → List ℕ → Turn → Type 0
IsPlaced c frame (over f) = Unit {0}
IsPlaced c frame (on after event) = kind_of frame ≡ 0 → is_idle c (stream_of frame) ≡ false

placed_any : (c : ExchangeValue) (frame : List ℕ) (turn : Turn) → (kind_of frame ≡ 0 → is_idle c (stream_of frame) ≡ false) → IsPlaced c frame turn
placed_any c frame (over f) is = tt
placed_any c frame (on after event) is = is

-- where a frame may be, by what is known of it
abbrev pub misplaced_by : Bool → Bool → Bool → Bool → Bool → Bool → Bool
misplaced_by settled unfinished nine sets on_it astray =
    if not settled then not sets
    else if unfinished then (if nine then true else astray)
    else if nine then not on_it else true

not_astray : (settled unfinished nine sets on_it astray : Bool) → nine ≡ false → sets ≡ false
    → misplaced_by settled unfinished nine sets on_it astray ≡ false → astray ≡ false
not_astray false unfinished nine true on_it astray differs other is = absurd (true≢false other)
not_astray false unfinished nine false on_it astray differs other is = absurd (true≢false is)
not_astray true true true sets on_it astray differs other is = absurd (true≢false differs)
not_astray true true false sets on_it astray differs other is = is
not_astray true false true sets on_it astray differs other is = absurd (true≢false differs)
not_astray true false false sets on_it astray differs other is = absurd (true≢false is)

data_placed : (c : ExchangeValue) (frame : List ℕ) → is_misplaced c frame ≡ false → kind_of frame ≡ 0 → is_idle c (stream_of frame) ≡ false
data_placed c frame is kind =
    let nine : (kind_of frame == 9) ≡ false = ap (λ (k : ℕ). k == 9) kind in
    let sets : is_settings frame ≡ false = ap (λ (k : ℕ). if k == 4 then not (is_acknowledgement frame) else false) kind in
    let astray : is_astray c frame ≡ is_idle c (stream_of frame) =
    ap (λ (k : ℕ). if k == 1 then (stream_of frame % 2) == 0 else if k == 0 then is_idle c (stream_of frame) else if k == 3 then is_idle c (stream_of frame) else if k == 8 then is_idle c (stream_of frame) else false) kind in
    sym astray
    ∙ not_astray c.settled (c.unfinished == 0) (kind_of frame == 9) (is_settings frame) (stream_of frame == c.unfinished) (is_astray c frame) nine sets is

failing_by : (c : ExchangeValue) (frame : List ℕ) (code : Code) (b : Bool) → is_misplaced c frame ≡ b
    → IsPlaced c frame (if b then breaks Code.Protocol else failed (settled c) (stream_of frame) code)
failing_by c frame code true is = tt
failing_by c frame code false is = placed_any c frame (failed (settled c) (stream_of frame) code) (data_placed c frame is)

takes_placed : (c : ExchangeValue) (frame : List ℕ) (turn : Turn) → Takes c frame turn → IsPlaced c frame turn
takes_placed c frame turn (spent fault is) = subst (λ (t : Turn). IsPlaced c frame t) (sym is) tt
takes_placed c frame turn (faulty code fault is) = subst (λ (t : Turn). IsPlaced c frame t) (sym is) tt
takes_placed c frame turn (failing code fault is) =
    subst (λ (t : Turn). IsPlaced c frame t) (sym is) (failing_by c frame code (is_misplaced c frame) refl)
takes_placed c frame turn (misplaced fault place is) = subst (λ (t : Turn). IsPlaced c frame t) (sym is) tt
takes_placed c frame turn (placed fault place says) = placed_any c frame turn (data_placed c frame place)

-- ---- idle streams

idle_by : (none even high : Bool) → none ≡ false → high ≡ true → (if none then false else if even then true else high) ≡ true
idle_by true even high differs is = absurd (true≢false differs)
idle_by false true high differs is = refl
idle_by false false high differs is = is

-- a stream above the greatest is
high_idle : (c : ExchangeValue) (n : ℕ) → c.last < n → is_idle c n ≡ true
high_idle c n less =
    idle_by (n == 0) ((n % 2) == 0) (nat_lt c.last n) (ne_eqb n 0 (λ e. absurd (omega (arith, e, less)))) (lt-ltb c.last n less)

idle_before : (none even high low : Bool) → (high ≡ true → low ≡ true) → (if none then false else if even then true else high) ≡ true
    → (if none then false else if even then true else low) ≡ true
idle_before true even high low more is = absurd (true≢false (sym is))
idle_before false true high low more is = refl
idle_before false false high low more is = more is

-- one that is now was before
still_idle : (b c : ExchangeValue) (n : ℕ) → b.last ≤ c.last → is_idle c n ≡ true → is_idle b n ≡ true
still_idle b c n less is =
    idle_before (n == 0) ((n % 2) == 0) (nat_lt c.last n) (nat_lt b.last n)
    (λ high. let above : c.last < n = ltb-true c.last n high in lt-ltb b.last n (omega (arith, above, less))) is

-- ---- all streams

-- after the frames of a trail: each stream has its number, none is above the greatest, idle ones have no data, and a request has
-- those of its stream
pub record Holds (trail : List Step) (c : ExchangeValue) : Type 0 where
  pub distinct : AreDistinct c.streams
  pub below : (n : ℕ) → c.last < n → find n c.streams ≡ None
  pub idle : (n : ℕ) → is_idle c n ≡ true → data_got n trail ≡ []
  pub has : (n : ℕ) → StreamHas (data_got n trail) (find n c.streams)

own_of : (trail : List Step) (c : ExchangeValue) (n : ℕ) → Holds trail c → Own n c.last (data_got n trail) c
own_of trail c n holds = record {
  distinct = holds.distinct;
  higher = omega arith;
  below = holds.below n;
  has = holds.has n;
}

empty_of : (trail : List Step) (c : ExchangeValue) (n : ℕ) → Holds trail c → c.last < n → data_got n trail ≡ []
empty_of trail c n holds less = holds.idle n (high_idle c n less)

same_by : (m n : ℕ) (b : Bool) → (m == n) ≡ b → (m ≡ n) ⊎ (m ≢ n)
same_by m n true is = inl (eqb-true m n is)
same_by m n false is = inr (eqb-false m n is)

same_or : (m n : ℕ) → (m ≡ n) ⊎ (m ≢ n)
same_or m n = same_by m n (m == n) refl

module _ (trail next : List Step) (b c : ExchangeValue) (n : ℕ) (holds : Holds trail b) (beside_it : Beside n b.streams c.streams)
    (own : Own n b.last (data_got n next) c) (elsewhere_same : (m : ℕ) → m ≢ n → data_got m next ≡ data_got m trail)
    (idle_same : (m : ℕ) → is_idle b m ≡ true → data_got m next ≡ data_got m trail) where
  below_by : (m : ℕ) → c.last < m → (m ≡ n) ⊎ (m ≢ n) → find m c.streams ≡ None
  below_by m less (inl is) = subst (λ (k : ℕ). find k c.streams ≡ None) (sym is) (own.below (subst (λ (k : ℕ). c.last < k) is less))
  below_by m less (inr ne) =
      let higher = own.higher in
      beside_it m ne ∙ holds.below m (omega (arith, higher, less))

  has_by : (m : ℕ) → (m ≡ n) ⊎ (m ≢ n) → StreamHas (data_got m next) (find m c.streams)
  has_by m (inl is) = subst (λ (k : ℕ). StreamHas (data_got k next) (find k c.streams)) (sym is) own.has
  has_by m (inr ne) =
      subst (λ (o : Option StreamValue). StreamHas (data_got m next) o) (sym (beside_it m ne))
      (subst (λ (d : List ℕ). StreamHas d (find m b.streams)) (sym (elsewhere_same m ne)) (holds.has m))

  holds_next : Holds next c
  holds_next = record {
    distinct = own.distinct;
    below = λ m less. below_by m less (same_or m n);
    idle = λ m is. let was = still_idle b c m own.higher is in idle_same m was ∙ holds.idle m was;
    has = λ m. has_by m (same_or m n);
  }

-- no data came on a stream that is idle
idle_data : (c : ExchangeValue) (frame : List ℕ) (m : ℕ) → (kind_of frame ≡ 0 → is_idle c (stream_of frame) ≡ false) → is_idle c m ≡ true
    → (b : Bool) → (kind_of frame == 0) ≡ b → data_on m frame ≡ []
idle_data c frame m put_at idle true is =
    elsewhere m frame (λ e. true≢false (sym idle ∙ ap (λ (k : ℕ). is_idle c k) (sym e) ∙ put_at (eqb-true (kind_of frame) 0 is)))
idle_data c frame m put_at idle false is = other_data m frame (kind_of frame) refl (eqb-false (kind_of frame) 0 is)

nothing_more : (trail : List Step) (frame : List ℕ) (m : ℕ) → data_on m frame ≡ [] → data_got m (got frame ∷ trail) ≡ data_got m trail
nothing_more trail frame m none = ap (λ (d : List ℕ). data_got m trail ++ d) none ∙ append-nil (data_got m trail)

-- a frame came
holds_takes : (trail : List Step) (b c : ExchangeValue) (frame : List ℕ) (event : Event) → Holds trail b → Takes b frame (on c event)
    → Holds (got frame ∷ trail) c × EventHas (data_got (stream_of frame) (got frame ∷ trail)) event
holds_takes trail b c frame event holds takes =
    let n : ℕ = stream_of frame in
    let keeps = keeps_others b frame (on c event) takes in
    let own = own_takes (data_got n trail) b frame (on c event) (own_of trail b n holds) (empty_of trail b n holds) takes in
    let may = takes_placed b frame (on c event) takes in (
      holds_next trail (got frame ∷ trail) b c n holds keeps.0 own.0
          (λ m ne. nothing_more trail frame m (elsewhere m frame (λ e. ne (sym e))))
          (λ m idle. nothing_more trail frame m (idle_data b frame m may idle (kind_of frame == 0) refl)),
      own.1,
    )

-- ---- what is written

-- a stream is as it was, but for its answer
keeps_changed : (n : ℕ) (old : List StreamValue) (change : StreamValue → StreamValue) (c : ExchangeValue) (o : Option StreamValue)
    → ((s : StreamValue) → (change s).number ≡ s.number) → NumberIs n o → Beside n old c.streams → Beside n old (changed change c o).streams
keeps_changed n old change c None same number are = are
keeps_changed n old change c (Some s) same number are =
    λ m ne. find_more m c.streams (change s) (λ e. ne (e ∙ same s ∙ number)) ∙ are m ne

own_changed : (n last : ℕ) (data_in : List ℕ) (change : StreamValue → StreamValue) (c : ExchangeValue) (o : Option StreamValue)
    → ((s : StreamValue) → (change s).number ≡ s.number) → ((s : StreamValue) → (change s).request ≡ s.request)
    → Out n last c → Found n c.last data_in o → Own n last data_in (changed change c o)
own_changed n last data_in change c None number request out is = out_own n last data_in c out
own_changed n last data_in change c (Some s) number request out (is, low, has) =
    (own_stays n last data_in c (change s) quiet out (number s ∙ is) low
    (subst (λ (o : Option RequestValue). RequestHas data_in o) (sym (request s)) has) tt).0

-- an exchange that changed in nothing that counts
holds_same : (trail next : List Step) (b c : ExchangeValue) → c.streams ≡ b.streams → c.last ≡ b.last
    → ((m : ℕ) → data_got m next ≡ data_got m trail) → Holds trail b → Holds next c
holds_same trail next b c streams greatest same holds =
    let own = own_of trail b 0 holds in
    holds_next trail next b c 0 holds (λ m ne. ap (λ (ss : List StreamValue). find m ss) streams)
    (own_same 0 b.last (data_got 0 next) b c streams greatest
    (record { distinct = own.distinct; higher = own.higher; below = own.below; has = subst (λ (d : List ℕ). StreamHas d (find 0 b.streams)) (sym (same 0)) own.has }))
    (λ m ne. same m) (λ m idle. same m)

holds_changed : (trail : List Step) (b c : ExchangeValue) (frame : List ℕ) (change : StreamValue → StreamValue)
    → ((s : StreamValue) → (change s).number ≡ s.number) → ((s : StreamValue) → (change s).request ≡ s.request)
    → c.streams ≡ (changed change (beside b (stream_of frame)) (find (stream_of frame) b.streams)).streams
    → c.last ≡ (changed change (beside b (stream_of frame)) (find (stream_of frame) b.streams)).last
    → Holds trail b → Holds (put frame ∷ trail) c
holds_changed trail b c frame change number request streams greatest holds =
    let n : ℕ = stream_of frame in
    let own = own_of trail b n holds in
    let after : ExchangeValue = changed change (beside b n) (find n b.streams) in
    let found = number_found n b.streams in
    holds_same (put frame ∷ trail) (put frame ∷ trail) after c streams greatest (λ m. refl)
    (holds_next trail (put frame ∷ trail) b after n holds
    (keeps_changed n b.streams change (beside b n) (find n b.streams) number found (λ m ne. find_others m n b.streams ne))
    (own_changed n b.last (data_got n trail) change (beside b n) (find n b.streams) number request
    (out_beside n b.last (data_got n trail) b own) (found_of n b.last (data_got n trail) b own))
    (λ m ne. refl) (λ m idle. refl))

holds_puts : (trail : List Step) (b c : ExchangeValue) (frame : List ℕ) → Holds trail b → Puts b frame c → Holds (put frame ∷ trail) c
holds_puts trail b c frame holds (puts.fields can kind flags same) =
    holds_changed trail b c frame headed (λ s. refl) (λ s. refl) (ap (λ (e : ExchangeValue). e.streams) same)
    (ap (λ (e : ExchangeValue). e.last) same) holds
holds_puts trail b c frame holds (puts.content some within kind flags same) =
    holds_changed trail b c frame (charged (flow_of frame)) (λ s. refl) (λ s. refl) (ap (λ (e : ExchangeValue). e.streams) same)
    (ap (λ (e : ExchangeValue). e.last) same) holds
holds_puts trail b c frame holds (puts.trailers can kind flags same) =
    let n : ℕ = stream_of frame in
    let own = own_of trail b n holds in
    let out = out_beside n b.last (data_got n trail) b own in
    let after : ExchangeValue = closed b n in
    holds_same (put frame ∷ trail) (put frame ∷ trail) after c (ap (λ (e : ExchangeValue). e.streams) same)
    (ap (λ (e : ExchangeValue). e.last) same) (λ m. refl)
    (holds_next trail (put frame ∷ trail) b after n holds (λ m ne. find_others m n b.streams ne)
    (out_own n b.last (data_got n trail) after (record { distinct = out.distinct; higher = out.higher; none = out.none }))
    (λ m ne. refl) (λ m idle. refl))
holds_puts trail b c frame holds (puts.window some kind flags stream within same) =
    holds_same trail (put frame ∷ trail) b c (ap (λ (e : ExchangeValue). e.streams) same) (ap (λ (e : ExchangeValue). e.last) same) (λ m. refl) holds
holds_puts trail b c frame holds (puts.answer answers same) =
    holds_same trail (put frame ∷ trail) b c (ap (λ (e : ExchangeValue). e.streams) same) (ap (λ (e : ExchangeValue). e.last) same) (λ m. refl) holds

-- ---- the calls

-- a call has its data in a longer trail
later_call : (steps trail : List Step) (call : CallValue) → HasItsData trail call → HasItsData (steps ++ trail) call
later_call steps trail call (later, before, frame, is, stream, last, has) = (
  steps ++ later,
  before,
  frame,
  ap (λ (t : List Step). steps ++ t) is ∙ sym (append_assoc steps later (got frame ∷ before)),
  stream,
  last,
  has,
)

later_calls : (steps trail : List Step) (calls : List CallValue) → AllByRecursion (HasItsData trail) calls
    → AllByRecursion (HasItsData (steps ++ trail)) calls
later_calls steps trail [] have = tt
later_calls steps trail (call ∷ calls) (first, have) = (later_call steps trail call first, later_calls steps trail calls have)

all_more : (P : CallValue → Type 0) (xs ys : List CallValue) → AllByRecursion P xs → AllByRecursion P ys → AllByRecursion P (xs ++ ys)
all_more P [] ys a b = b
all_more P (x ∷ xs) ys (first, a) b = (first, all_more P xs ys a b)

all_first : (P : CallValue → Type 0) (xs ys : List CallValue) → AllByRecursion P (xs ++ ys) → AllByRecursion P xs
all_first P [] ys are = tt
all_first P (x ∷ xs) ys (first, are) = (first, all_first P xs ys are)

-- the call that a frame made whole
call_in : (trail : List Step) (frame : List ℕ) (event : Event) → IsOf (stream_of frame) event
    → EventHas (data_got (stream_of frame) (got frame ∷ trail)) event → Asked (has_ended (got frame ∷ trail)) event → AllByRecursion (HasItsData (got frame ∷ trail)) (calls_in event)
call_in trail frame quiet is has last = tt
call_in trail frame (resets stream code) is has last = tt
call_in trail frame (asks call) is has last = (
  (
    [],
    trail,
    frame,
    refl,
    sym is,
    last,
    has ∙ ap (λ (k : ℕ). data_got k (got frame ∷ trail)) (sym is),
  ),
  tt,
)

begins_so : (most : ℕ) → Holds [] (first_exchange most)
begins_so most = record {
  distinct = tt;
  below = λ n less. refl;
  idle = λ n is. refl;
  has = λ n. tt;
}

comes_have : (most : ℕ) (trail : List Step) (c : ExchangeValue) (calls : List CallValue) (owed : List Parts) → Comes most trail c calls owed
    → Holds trail c × AllByRecursion (HasItsData trail) calls
comes_have most [] c calls owed comes = (
  subst (λ (e : ExchangeValue). Holds [] e) (sym comes.0) (begins_so most),
  subst (λ (cs : List CallValue). AllByRecursion (HasItsData []) cs) (sym comes.1) tt,
)
comes_have most (got frame ∷ trail) c calls owed (b, earlier, before, event, comes, takes, calls_are, owed_is) =
    let past = comes_have most trail b earlier before comes in
    let next = holds_takes trail b c frame event past.0 takes in
    let of_it = (keeps_others b frame (on c event) takes).1 in
    let last = came_whole most trail b c frame event earlier before comes takes in (
      next.0,
      subst (λ (cs : List CallValue). AllByRecursion (HasItsData (got frame ∷ trail)) cs) (sym calls_are)
          (all_more (HasItsData (got frame ∷ trail)) earlier (calls_in event)
          (later_calls (got frame ∷ []) trail earlier past.1) (call_in trail frame event of_it next.1 last)),
    )
comes_have most (put frame ∷ trail) c calls owed (b, comes, written) =
    let past = comes_have most trail b calls owed comes in
    (holds_puts trail b c frame past.0 written, later_calls (put frame ∷ []) trail calls past.1)

-- what is said first brings no data
same_data : (n : ℕ) (trail : List Step) → data_got n (trail ++ welcomed) ≡ data_got n trail
same_data n [] = refl
same_data n (got frame ∷ trail) = ap (λ (d : List ℕ). d ++ data_on n frame) (same_data n trail)
same_data n (put frame ∷ trail) = same_data n trail

welcomed_call : (trail : List Step) (call : CallValue) → HasItsData trail call → HasItsData (trail ++ welcomed) call
welcomed_call trail call (later, before, frame, is, stream, last, has) = (
  later,
  before ++ welcomed,
  frame,
  ap (λ (t : List Step). t ++ welcomed) is ∙ append_assoc later (got frame ∷ before) welcomed,
  stream,
  ap (λ (b : Bool). if kind_of frame == 9 then b else is_last frame) (same_end before) ∙ last,
  has ∙ ap (λ (d : List ℕ). d ++ data_on call.stream frame) (sym (same_data call.stream before)),
)

welcomed_calls : (trail : List Step) (calls : List CallValue) → AllByRecursion (HasItsData trail) calls
    → AllByRecursion (HasItsData (trail ++ welcomed)) calls
welcomed_calls trail [] have = tt
welcomed_calls trail (call ∷ calls) (first, have) = (welcomed_call trail call first, welcomed_calls trail calls have)

goes_have : (most : ℕ) (trail : List Step) (c : ExchangeValue) (calls : List CallValue) → Goes most trail c calls → AllByRecursion (HasItsData trail) calls
goes_have most trail c calls (later, is, comes) =
    subst (λ (t : List Step). AllByRecursion (HasItsData t) calls) (sym is)
    (welcomed_calls later calls (comes_have most later c calls (answered later) comes).1)

is_have : (most : ℕ) (trail : List Step) (gave : List CallValue) (u : UnaryValue) (o : Option Fault) → IsAt most trail gave u o
    → AllByRecursion (HasItsData trail) gave
is_have most trail gave u None is = all_first (HasItsData trail) gave u.calls (goes_have most trail u.exchange (gave ++ u.calls) is)
is_have most trail gave u (Some f) is =
    let have = later_calls is.away (is.came ++ is.before) (gave ++ is.more)
    (later_calls is.came is.before (gave ++ is.more) (goes_have most is.before is.c (gave ++ is.more) is.goes)) in
    all_first (HasItsData trail) gave is.more
    (subst (λ (t : List Step). AllByRecursion (HasItsData t) (gave ++ is.more)) (sym is.whole) have)

pub calls_have_their_data : (most : ℕ) (trail : List Step) (came sent : List ℕ) (gave : List CallValue) (u : UnaryValue)
    → UnaryLaw most trail came sent gave u → AllByRecursion (HasItsData trail) gave
calls_have_their_data most trail came sent gave u law = is_have most trail gave u u.over law.is
