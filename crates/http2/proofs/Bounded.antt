-- What a server of unary calls keeps is bounded.
use Rattle.std.proofs.Common.{◌≡◌, ◌≤◌, ◌<◌, ℕ, ◌+◌, ◌-◌, ◌==◌, Bool, true, false, not, if◌then◌else◌, Option, Some, None, List, [], ◌∷◌, ◌++◌, length, refl, sym, subst, arith, nat_lt, length-append}
use Rattle.std.proofs.lemmas.Bool.{ltb-true, ltb-false}
use Rattle.hpack.specs.Field.{Line}
use Rattle.http2.specs.Frame.{Parts, stream_of, content_of, ends_stream, flow_of, increment_of, window_after}
use Rattle.http2.specs.Trail.{Step, got, put}
use Rattle.http2.specs.Answer.{length_from, without, is_whole}
use Rattle.http2.specs.Fields.{are_plain}
use Rattle.http2.specs.Request.{is_request}
use Rattle.http2.specs.Gathering.{Gathered, heavy, part, garbled, whole}
use Rattle.http2.specs.Streams.{RequestValue, CallValue, StreamValue, fresh, find, others, is_beyond, are_within}
use Rattle.http2.specs.Exchange.{ExchangeValue, Event, quiet, resets, asks, Turn, on, breaks, gone, fails, stays, beside, is_idle, is_misplaced, ended, opened, request_came, stream_came, trailers_in, trailers_of, trailers_came, fields_came, gathered, content_taken, content_in, content_of_stream, content_came, data_came, reset_came, connection_raised, stream_raised, update_came, stream_failed, failed, begun, settled, most_streams, most_resets, Says, content, begins, continues, reset, settings, update, nothing, Takes, spent, faulty, failing, misplaced, placed}
use Rattle.http2.specs.Exchanged.{changed, headed, charged, closed, Puts, Comes}
use Rattle.http2.specs.Exchanged as puts
use Rattle.http2.specs.Bounds.{IsShortRequest, AreShort, IsBounded, Bounds}
use Rattle.http2.specs.declared.fault.Code.{Code}

-- as many streams as may be open, less one: there is room for one more
pub record HasRoom (c : ExchangeValue) : Type 0 where
  pub few : length c.streams < most_streams
  pub calm : c.resets ≤ most_resets
  pub short : AreShort c.most c.streams

roomy : (c : ExchangeValue) → HasRoom c → IsBounded c
roomy c room = record { few = omega (arith, room.few); calm = room.calm; short = room.short }

-- ---- lists of streams

short_by : (most n : ℕ) (s : StreamValue) (ss : List StreamValue) (b : Bool) → IsShortRequest most s.request × AreShort most ss
    → AreShort most (others n ss) → AreShort most (if b then ss else s ∷ others n ss)
short_by most n s ss true are rest = are.1
short_by most n s ss false are rest = (are.0, rest)

short_others : (most n : ℕ) (ss : List StreamValue) → AreShort most ss → AreShort most (others n ss)
short_others most n [] are = tt
short_others most n (s ∷ ss) (is, are) = short_by most n s ss (s.number == n) (is, are) (short_others most n ss are)

short_more : (most : ℕ) (ss : List StreamValue) (s : StreamValue) → AreShort most ss → IsShortRequest most s.request
    → AreShort most (ss ++ s ∷ [])
short_more most [] s are is = (is, tt)
short_more most (x ∷ ss) s (first, are) is = (first, short_more most ss s are is)

-- the stream that was found is short, and one less is left
abbrev Left : ℕ → List StreamValue → List StreamValue → Option StreamValue → Type 0
Left most ss left None = length left ≤ length ss
Left most ss left (Some s) = IsShortRequest most s.request × (length left + 1 ≡ length ss)

longer : (most : ℕ) (s : StreamValue) (ss left : List StreamValue) (o : Option StreamValue) → Left most ss left o
    → Left most (s ∷ ss) (s ∷ left) o
longer most s ss left None less = omega (arith, less)
longer most s ss left (Some x) (is, less) = (is, omega (arith, less))

left_by : (most n : ℕ) (s : StreamValue) (ss : List StreamValue) (b : Bool) → IsShortRequest most s.request
    → Left most ss (others n ss) (find n ss)
    → Left most (s ∷ ss) (if b then ss else s ∷ others n ss) (if b then Some s else find n ss)
left_by most n s ss true is rest = (is, omega arith)
left_by most n s ss false is rest = longer most s ss (others n ss) (find n ss) rest

left_is : (most n : ℕ) (ss : List StreamValue) → AreShort most ss → Left most ss (others n ss) (find n ss)
left_is most n [] are = omega arith
left_is most n (s ∷ ss) (is, are) = left_by most n s ss (s.number == n) is (left_is most n ss are)

-- beside a stream that was found there is room
abbrev Found : ExchangeValue → Option StreamValue → Type 0
Found c None = IsBounded c
Found c (Some s) = HasRoom c × IsShortRequest c.most s.request

found_by : (c : ExchangeValue) (left : List StreamValue) (o : Option StreamValue) → IsBounded c → AreShort c.most left
    → Left c.most c.streams left o → Found (record c { streams = left }) o
found_by c left None is short less = record { few = omega (arith, less, is.few); calm = is.calm; short = short }
found_by c left (Some s) is short (one, less) = (record { few = omega (arith, less, is.few); calm = is.calm; short = short }, one)

found : (c : ExchangeValue) (n : ℕ) → IsBounded c → Found (beside c n) (find n c.streams)
found c n is = found_by c (others n c.streams) (find n c.streams) is (short_others c.most n c.streams is.short) (left_is c.most n c.streams is.short)

-- ---- the steps

either : (b : Bool) (x y : Turn) → Bounds x → Bounds y → Bounds (if b then x else y)
either true x y p q = p
either false x y p q = q

gone_by : (c : ExchangeValue) (event : Event) (b : Bool) → nat_lt c.resets most_resets ≡ b → IsBounded c
    → Bounds (if b then on (record c { resets = c.resets + 1 }) event else breaks Code.EnhanceYourCalm)
gone_by c event true less is =
    let low : c.resets < most_resets = ltb-true c.resets most_resets less in
    record { few = is.few; calm = omega (arith, low); short = is.short }
gone_by c event false less is = tt

bounds_gone : (c : ExchangeValue) (event : Event) → IsBounded c → Bounds (gone c event)
bounds_gone c event is = gone_by c event (nat_lt c.resets most_resets) refl is

bounds_stays : (c : ExchangeValue) (s : StreamValue) (event : Event) → HasRoom c → IsShortRequest c.most s.request → Bounds (stays c s event)
bounds_stays c s event room is =
    let sum = length-append c.streams (s ∷ []) in
    record { few = omega (arith, sum, room.few); calm = room.calm; short = short_more c.most c.streams s room.short is }

bounds_ended : (c : ExchangeValue) (left : Option ℕ) (r : RequestValue) (s : StreamValue) → HasRoom c → s.request ≡ None
    → Bounds (ended c left r s)
bounds_ended c left r s room none =
    either (is_whole left) (stays c s (asks (record { stream = s.number; request = r }))) (fails Code.Protocol s.number c)
    (bounds_stays c s (asks (record { stream = s.number; request = r })) room (subst (λ (o : Option RequestValue). IsShortRequest c.most o) (sym none) tt))
    (bounds_gone c (resets s.number Code.Protocol) (roomy c room))

bounds_opened : (c : ExchangeValue) (n : ℕ) (fs : List Line) (o : Option (Option ℕ)) → HasRoom c → Bounds (opened c n fs o)
bounds_opened c n fs None room = bounds_gone c (resets n Code.Protocol) (roomy c room)
bounds_opened c n fs (Some left) room =
    let r : RequestValue = record { fields = fs; content = [] } in
    either c.ends (ended c left r (fresh n None left)) (stays c (fresh n (Some r) left) quiet)
    (bounds_ended c left r (fresh n None left) room refl) (bounds_stays c (fresh n (Some r) left) quiet room (omega arith))

bounds_request : (c : ExchangeValue) (n : ℕ) (fs : Option (List Line)) → HasRoom c → Bounds (request_came c n fs)
bounds_request c n None room = bounds_gone c (resets n Code.EnhanceYourCalm) (roomy c room)
bounds_request c n (Some fs) room =
    either (is_request fs) (opened c n fs (length_from None fs)) (fails Code.Protocol n c)
    (bounds_opened c n fs (length_from None fs) room) (bounds_gone c (resets n Code.Protocol) (roomy c room))

stream_by : (c : ExchangeValue) (n : ℕ) (fs : Option (List Line)) (b : Bool) → nat_lt (length c.streams) most_streams ≡ b → IsBounded c
    → Bounds (if b then request_came c n fs else on c (resets n Code.RefusedStream))
stream_by c n fs true less is =
    let few : length c.streams < most_streams = ltb-true (length c.streams) most_streams less in
    bounds_request c n fs (record { few = few; calm = is.calm; short = is.short })
stream_by c n fs false less is = is

bounds_stream : (c : ExchangeValue) (n : ℕ) (fs : Option (List Line)) → IsBounded c → Bounds (stream_came c n fs)
bounds_stream c n fs is = stream_by c n fs (nat_lt (length c.streams) most_streams) refl is

bounds_trailers_in : (c : ExchangeValue) (s : StreamValue) (r : RequestValue) (fs : Option (List Line)) → HasRoom c
    → Bounds (trailers_in c s r fs)
bounds_trailers_in c s r None room = bounds_gone c (resets s.number Code.EnhanceYourCalm) (roomy c room)
bounds_trailers_in c s r (Some fs) room =
    let bad : Bounds (fails Code.Protocol s.number c) = bounds_gone c (resets s.number Code.Protocol) (roomy c room) in
    let last : Turn = if are_plain fs then ended c s.left r (record s { request = None }) else fails Code.Protocol s.number c in
    let at_last : Bounds last =
    either (are_plain fs) (ended c s.left r (record s { request = None })) (fails Code.Protocol s.number c)
    (bounds_ended c s.left r (record s { request = None }) room refl) bad in
    either (not c.ends) (fails Code.Protocol s.number c) last bad at_last

bounds_trailers_of : (c : ExchangeValue) (s : StreamValue) (o : Option RequestValue) (fs : Option (List Line)) → HasRoom c
    → Bounds (trailers_of c s o fs)
bounds_trailers_of c s None fs room = bounds_gone c (resets s.number Code.StreamClosed) (roomy c room)
bounds_trailers_of c s (Some r) fs room = bounds_trailers_in c s r fs room

bounds_trailers : (c : ExchangeValue) (o : Option StreamValue) (fs : Option (List Line)) → Found c o → Bounds (trailers_came c o fs)
bounds_trailers c None fs is = is
bounds_trailers c (Some s) fs is = bounds_trailers_of c s s.request fs is.0

bounds_fields : (c : ExchangeValue) (n : ℕ) (fs : Option (List Line)) → IsBounded c → Bounds (fields_came c n fs)
bounds_fields c n fs is =
    either (nat_lt c.last n) (stream_came (record c { last = n }) n fs) (trailers_came (beside c n) (find n c.streams) fs)
    (bounds_stream (record c { last = n }) n fs (record { few = is.few; calm = is.calm; short = is.short }))
    (bounds_trailers (beside c n) (find n c.streams) fs (found c n is))

bounds_gathered : (c : ExchangeValue) (n : ℕ) (g : Gathered) → IsBounded c → Bounds (gathered c n g)
bounds_gathered c n heavy is = tt
bounds_gathered c n part is = is
bounds_gathered c n garbled is = tt
bounds_gathered c n (whole fs) is = bounds_fields (record c { unfinished = 0 }) n fs (record { few = is.few; calm = is.calm; short = is.short })

bounds_taken : (c : ExchangeValue) (s : StreamValue) (r : RequestValue) (last : Bool) (left : Option ℕ) → HasRoom c
    → length r.content ≤ c.most → Bounds (content_taken c s r last left)
bounds_taken c s r last left room short =
    either last (ended c left r (record s { request = None; left = left })) (stays c (record s { request = Some r; left = left }) quiet)
    (bounds_ended c left r (record s { request = None; left = left }) room refl)
    (bounds_stays c (record s { request = Some r; left = left }) quiet room short)

more_by : (c : ExchangeValue) (s : StreamValue) (r : RequestValue) (last : Bool) (octets : List ℕ) (left : Option ℕ) (b : Bool)
    → nat_lt c.most (length r.content + length octets) ≡ b → HasRoom c
    → Bounds (if b then fails Code.EnhanceYourCalm s.number c else content_taken c s (record r { content = r.content ++ octets }) last left)
more_by c s r last octets left true less room = bounds_gone c (resets s.number Code.EnhanceYourCalm) (roomy c room)
more_by c s r last octets left false less room =
    let sum = length-append r.content octets in
    let most : length r.content + length octets ≤ c.most = ltb-false c.most (length r.content + length octets) less in
    bounds_taken c s (record r { content = r.content ++ octets }) last left room (omega (arith, sum, most))

bounds_content_in : (c : ExchangeValue) (s : StreamValue) (r : RequestValue) (last : Bool) (octets : List ℕ) (o : Option (Option ℕ))
    → HasRoom c → Bounds (content_in c s r last octets o)
bounds_content_in c s r last octets None room = bounds_gone c (resets s.number Code.Protocol) (roomy c room)
bounds_content_in c s r last octets (Some left) room = more_by c s r last octets left (nat_lt c.most (length r.content + length octets)) refl room

bounds_content_of : (c : ExchangeValue) (s : StreamValue) (o : Option RequestValue) (last : Bool) (octets : List ℕ) → HasRoom c
    → Bounds (content_of_stream c s o last octets)
bounds_content_of c s None last octets room = bounds_gone c (resets s.number Code.StreamClosed) (roomy c room)
bounds_content_of c s (Some r) last octets room = bounds_content_in c s r last octets (without s.left (length octets)) room

bounds_content : (c : ExchangeValue) (o : Option StreamValue) (last : Bool) (octets : List ℕ) → Found c o
    → Bounds (content_came c o last octets)
bounds_content c None last octets is = is
bounds_content c (Some s) last octets is = bounds_content_of c s s.request last octets is.0

bounds_data : (c : ExchangeValue) (frame : List ℕ) → IsBounded c → Bounds (data_came c frame)
bounds_data c frame is =
    let n : ℕ = stream_of frame in
    let less : ExchangeValue = record c { credit = c.credit - flow_of frame } in
    either (nat_lt c.credit (flow_of frame)) (breaks Code.FlowControl)
    (content_came (beside less n) (find n c.streams) (ends_stream frame) (content_of frame)) tt
    (bounds_content (beside less n) (find n c.streams) (ends_stream frame) (content_of frame)
    (found less n (record { few = is.few; calm = is.calm; short = is.short })))

bounds_reset : (c : ExchangeValue) (o : Option StreamValue) → Found c o → Bounds (reset_came c o)
bounds_reset c None is = is
bounds_reset c (Some s) is = bounds_gone c quiet (roomy c is.0)

bounds_raised : (c : ExchangeValue) (o : Option StreamValue) (more : ℕ) → Found c o → Bounds (stream_raised c o more)
bounds_raised c None more is = is
bounds_raised c (Some s) more is =
    either (is_beyond c.window (s.raised + more) s.used) (fails Code.FlowControl s.number c) (stays c (record s { raised = s.raised + more }) quiet)
    (bounds_gone c (resets s.number Code.FlowControl) (roomy c is.0)) (bounds_stays c (record s { raised = s.raised + more }) quiet is.0 is.1)

bounds_update : (c : ExchangeValue) (frame : List ℕ) → IsBounded c → Bounds (update_came c frame)
bounds_update c frame is =
    let n : ℕ = stream_of frame in
    let wide : ℕ = c.raised + increment_of 0 frame in
    either (n == 0) (connection_raised c (increment_of 0 frame)) (stream_raised (beside c n) (find n c.streams) (increment_of n frame))
    (either (is_beyond 65535 wide c.used) (breaks Code.FlowControl) (on (record c { raised = wide }) quiet) tt
    (record { few = is.few; calm = is.calm; short = is.short }))
    (bounds_raised (beside c n) (find n c.streams) (increment_of n frame) (found c n is))

bounds_stream_failed : (c : ExchangeValue) (o : Option StreamValue) (code : Code) → Found c o → Bounds (stream_failed c o code)
bounds_stream_failed c None code is = is
bounds_stream_failed c (Some s) code is = bounds_gone c (resets s.number code) (roomy c is.0)

bounds_failed : (c : ExchangeValue) (n : ℕ) (code : Code) → IsBounded c → Bounds (failed c n code)
bounds_failed c n code is =
    either (is_idle c n) (breaks code) (stream_failed (beside c n) (find n c.streams) code) tt
    (bounds_stream_failed (beside c n) (find n c.streams) code (found c n is))

bounds_says : (c : ExchangeValue) (frame : List ℕ) (turn : Turn) → IsBounded c → Says c frame turn → Bounds turn
bounds_says c frame turn is (content kind same) = rw same (bounds_data c frame is)
bounds_says c frame turn is (begins kind came) =
    rw came.3 (bounds_gathered (record (begun c frame) { block = came.1 }) (stream_of frame) came.0
    (record { few = is.few; calm = is.calm; short = is.short }))
bounds_says c frame turn is (continues kind came) =
    rw came.3 (bounds_gathered (record c { block = came.1 }) (stream_of frame) came.0 (record { few = is.few; calm = is.calm; short = is.short }))
bounds_says c frame turn is (reset kind same) =
    rw same (bounds_reset (beside c (stream_of frame)) (find (stream_of frame) c.streams) (found c (stream_of frame) is))
bounds_says c frame turn is (settings kind same) =
    rw same (either (are_within (window_after c.window frame) c.streams) (on (record c { window = window_after c.window frame }) quiet)
    (breaks Code.FlowControl) (record { few = is.few; calm = is.calm; short = is.short }) tt)
bounds_says c frame turn is (update kind same) = rw same (bounds_update c frame is)
bounds_says c frame turn is (nothing a b d e f g same) = rw same is

bounds_takes : (c : ExchangeValue) (frame : List ℕ) (turn : Turn) → IsBounded c → Takes c frame turn → Bounds turn
bounds_takes c frame turn is (spent fault same) = rw same tt
bounds_takes c frame turn is (faulty code fault same) = rw same tt
bounds_takes c frame turn is (failing code fault same) =
    rw same (either (is_misplaced c frame) (breaks Code.Protocol) (failed (settled c) (stream_of frame) code) tt
    (bounds_failed (settled c) (stream_of frame) code (record { few = is.few; calm = is.calm; short = is.short })))
bounds_takes c frame turn is (misplaced fault place same) = rw same tt
bounds_takes c frame turn is (placed fault place says) =
    bounds_says (settled c) frame turn (record { few = is.few; calm = is.calm; short = is.short }) says

-- ---- what is written

changed_headed : (c : ExchangeValue) (o : Option StreamValue) → Found c o → IsBounded (changed headed c o)
changed_headed c None is = is
changed_headed c (Some s) is = bounds_stays c (headed s) quiet is.0 is.1

changed_charged : (c : ExchangeValue) (count : ℕ) (o : Option StreamValue) → Found c o → IsBounded (changed (charged count) c o)
changed_charged c count None is = is
changed_charged c count (Some s) is = bounds_stays c (charged count s) quiet is.0 is.1

found_bounded : (c : ExchangeValue) (o : Option StreamValue) → Found c o → IsBounded c
found_bounded c None is = is
found_bounded c (Some s) is = roomy c is.0

bounds_puts : (c : ExchangeValue) (frame : List ℕ) (after : ExchangeValue) → IsBounded c → Puts c frame after → IsBounded after
bounds_puts c frame after is (puts.fields can kind flags same) =
    rw same (changed_headed (beside c (stream_of frame)) (find (stream_of frame) c.streams) (found c (stream_of frame) is))
bounds_puts c frame after is (puts.content some within kind flags same) =
    let next = changed_charged (beside c (stream_of frame)) (flow_of frame) (find (stream_of frame) c.streams) (found c (stream_of frame) is) in
    rw same (record { few = next.few; calm = next.calm; short = next.short })
bounds_puts c frame after is (puts.trailers can kind flags same) =
    let next = found_bounded (beside c (stream_of frame)) (find (stream_of frame) c.streams) (found c (stream_of frame) is) in
    let calm = next.calm in
    rw same (record { few = next.few; calm = omega (arith, calm); short = next.short })
bounds_puts c frame after is (puts.window some kind flags stream within same) = rw same (record { few = is.few; calm = is.calm; short = is.short })
bounds_puts c frame after is (puts.answer answers same) = rw same is

pub comes_bounded : (most : ℕ) (trail : List Step) (c : ExchangeValue) (calls : List CallValue) (owed : List Parts) → Comes most trail c calls owed → IsBounded c
comes_bounded most [] c calls owed comes = rw comes.0 (record { few = omega arith; calm = omega arith; short = tt })
comes_bounded most (got frame ∷ trail) c calls owed comes =
    bounds_takes comes.0 frame (on c comes.3) (comes_bounded most trail comes.0 comes.1 comes.2 comes.4) comes.5
comes_bounded most (put frame ∷ trail) c calls owed comes =
    bounds_puts comes.0 frame c (comes_bounded most trail comes.0 calls owed comes.1) comes.2
