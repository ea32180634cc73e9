-- Streams do not mix.
use Rattle.std.proofs.Common.{◌≡◌, ◌≢◌, ℕ, ◌+◌, ◌-◌, ◌==◌, Bool, true, false, not, if◌then◌else◌, Option, Some, None, List, [], ◌∷◌, ◌++◌, length, refl, sym, ap, ◌∙◌, nat_lt}
use Rattle.std.proofs.lemmas.Bool.{eqb-true, ne_eqb}
use Rattle.hpack.specs.Field.{Line}
use Rattle.http2.specs.Frame.{stream_of, content_of, ends_stream, flow_of, increment_of, window_after}
use Rattle.http2.specs.Answer.{length_from, without, is_whole}
use Rattle.http2.specs.Fields.{are_plain}
use Rattle.http2.specs.Request.{is_request}
use Rattle.http2.specs.Gathering.{Gathered, heavy, part, garbled, whole}
use Rattle.http2.specs.Streams.{RequestValue, StreamValue, fresh, find, others, is_beyond, are_within}
use Rattle.http2.specs.Exchange.{ExchangeValue, Event, quiet, resets, asks, Turn, on, breaks, gone, fails, stays, beside, is_idle, is_misplaced, ended, opened, request_came, stream_came, trailers_in, trailers_of, trailers_came, fields_came, gathered, content_taken, content_in, content_of_stream, content_came, data_came, reset_came, connection_raised, stream_raised, update_came, stream_failed, failed, begun, settled, most_streams, most_resets, Says, content, begins, continues, reset, settings, update, nothing, Takes, spent, faulty, failing, misplaced, placed}
use Rattle.http2.specs.Separate.{IsOf, KeepsOthers}
use Rattle.http2.specs.declared.fault.Code.{Code}

-- the streams are as before, but the one of a number
abbrev pub Beside : ℕ → List StreamValue → List StreamValue → Type 0
Beside n old new = (m : ℕ) → m ≢ n → find m new ≡ find m old

-- ---- one stream less, and one more

others_by : (m n : ℕ) (s : StreamValue) (ss : List StreamValue) (b : Bool) → m ≢ n → (s.number == n) ≡ b
    → find m (others n ss) ≡ find m ss
    → find m (if b then ss else s ∷ others n ss) ≡ (if s.number == m then Some s else find m ss)
others_by m n s ss true ne is rest =
    sym (ap (λ (b : Bool). if b then Some s else find m ss) (ne_eqb s.number m (λ e. ne (sym e ∙ eqb-true s.number n is))))
others_by m n s ss false ne is rest = ap (λ (o : Option StreamValue). if s.number == m then Some s else o) rest

pub find_others : (m n : ℕ) (ss : List StreamValue) → m ≢ n → find m (others n ss) ≡ find m ss
find_others m n [] ne = refl
find_others m n (s ∷ ss) ne = others_by m n s ss (s.number == n) ne refl (find_others m n ss ne)

pub find_more : (m : ℕ) (ss : List StreamValue) (s : StreamValue) → m ≢ s.number → find m (ss ++ s ∷ []) ≡ find m ss
find_more m [] s ne = ap (λ (b : Bool). if b then Some s else None) (ne_eqb s.number m (λ e. ne (sym e)))
find_more m (x ∷ ss) s ne = ap (λ (o : Option StreamValue). if x.number == m then Some x else o) (find_more m ss s ne)

abbrev pub NumberIs : ℕ → Option StreamValue → Type 0
NumberIs n None = Unit {0}
NumberIs n (Some s) = s.number ≡ n

number_by : (n : ℕ) (s : StreamValue) (o : Option StreamValue) (b : Bool) → (s.number == n) ≡ b → NumberIs n o
    → NumberIs n (if b then Some s else o)
number_by n s o true is rest = eqb-true s.number n is
number_by n s o false is rest = rest

pub number_found : (n : ℕ) (ss : List StreamValue) → NumberIs n (find n ss)
number_found n [] = tt
number_found n (s ∷ ss) = number_by n s (find n ss) (s.number == n) refl (number_found n ss)

-- ---- the steps

either : (n : ℕ) (old : List StreamValue) (b : Bool) (x y : Turn) → KeepsOthers n old x → KeepsOthers n old y
    → KeepsOthers n old (if b then x else y)
either n old true x y p q = p
either n old false x y p q = q

keeps_gone : (n : ℕ) (old : List StreamValue) (c : ExchangeValue) (event : Event) → Beside n old c.streams → IsOf n event
    → KeepsOthers n old (gone c event)
keeps_gone n old c event same is =
    either n old (nat_lt c.resets most_resets) (on (record c { resets = c.resets + 1 }) event) (breaks Code.EnhanceYourCalm) (same, is) tt

keeps_stays : (n : ℕ) (old : List StreamValue) (c : ExchangeValue) (s : StreamValue) (event : Event) → Beside n old c.streams
    → s.number ≡ n → IsOf n event → KeepsOthers n old (stays c s event)
keeps_stays n old c s event same number is = (λ m ne. find_more m c.streams s (λ e. ne (e ∙ number)) ∙ same m ne, is)

keeps_ended : (n : ℕ) (old : List StreamValue) (c : ExchangeValue) (left : Option ℕ) (r : RequestValue) (s : StreamValue)
    → Beside n old c.streams → s.number ≡ n → KeepsOthers n old (ended c left r s)
keeps_ended n old c left r s same number =
    either n old (is_whole left) (stays c s (asks (record { stream = s.number; request = r }))) (fails Code.Protocol s.number c)
    (keeps_stays n old c s (asks (record { stream = s.number; request = r })) same number number)
    (keeps_gone n old c (resets s.number Code.Protocol) same number)

keeps_opened : (n : ℕ) (old : List StreamValue) (c : ExchangeValue) (fs : List Line) (o : Option (Option ℕ))
    → Beside n old c.streams → KeepsOthers n old (opened c n fs o)
keeps_opened n old c fs None same = keeps_gone n old c (resets n Code.Protocol) same refl
keeps_opened n old c fs (Some left) same =
    let r : RequestValue = record { fields = fs; content = [] } in
    either n old c.ends (ended c left r (fresh n None left)) (stays c (fresh n (Some r) left) quiet)
    (keeps_ended n old c left r (fresh n None left) same refl) (keeps_stays n old c (fresh n (Some r) left) quiet same refl tt)

keeps_request : (n : ℕ) (old : List StreamValue) (c : ExchangeValue) (fs : Option (List Line))
    → Beside n old c.streams → KeepsOthers n old (request_came c n fs)
keeps_request n old c None same = keeps_gone n old c (resets n Code.EnhanceYourCalm) same refl
keeps_request n old c (Some fs) same =
    either n old (is_request fs) (opened c n fs (length_from None fs)) (fails Code.Protocol n c)
    (keeps_opened n old c fs (length_from None fs) same) (keeps_gone n old c (resets n Code.Protocol) same refl)

keeps_stream : (n : ℕ) (old : List StreamValue) (c : ExchangeValue) (fs : Option (List Line))
    → Beside n old c.streams → KeepsOthers n old (stream_came c n fs)
keeps_stream n old c fs same =
    either n old (nat_lt (length c.streams) most_streams) (request_came c n fs) (on c (resets n Code.RefusedStream))
    (keeps_request n old c fs same) (same, refl)

keeps_trailers_in : (n : ℕ) (old : List StreamValue) (c : ExchangeValue) (s : StreamValue) (r : RequestValue) (fs : Option (List Line))
    → Beside n old c.streams → s.number ≡ n → KeepsOthers n old (trailers_in c s r fs)
keeps_trailers_in n old c s r None same number = keeps_gone n old c (resets s.number Code.EnhanceYourCalm) same number
keeps_trailers_in n old c s r (Some fs) same number =
    let bad : KeepsOthers n old (fails Code.Protocol s.number c) = keeps_gone n old c (resets s.number Code.Protocol) same number in
    let last : Turn = if are_plain fs then ended c s.left r (record s { request = None }) else fails Code.Protocol s.number c in
    let at_last : KeepsOthers n old last =
    either n old (are_plain fs) (ended c s.left r (record s { request = None })) (fails Code.Protocol s.number c)
    (keeps_ended n old c s.left r (record s { request = None }) same number) bad in
    either n old (not c.ends) (fails Code.Protocol s.number c) last bad at_last

keeps_trailers_of : (n : ℕ) (old : List StreamValue) (c : ExchangeValue) (s : StreamValue) (o : Option RequestValue) (fs : Option (List Line))
    → Beside n old c.streams → s.number ≡ n → KeepsOthers n old (trailers_of c s o fs)
keeps_trailers_of n old c s None fs same number = keeps_gone n old c (resets s.number Code.StreamClosed) same number
keeps_trailers_of n old c s (Some r) fs same number = keeps_trailers_in n old c s r fs same number

keeps_trailers : (n : ℕ) (old : List StreamValue) (c : ExchangeValue) (o : Option StreamValue) (fs : Option (List Line))
    → Beside n old c.streams → NumberIs n o → KeepsOthers n old (trailers_came c o fs)
keeps_trailers n old c None fs same number = (same, tt)
keeps_trailers n old c (Some s) fs same number = keeps_trailers_of n old c s s.request fs same number

keeps_fields : (n : ℕ) (c : ExchangeValue) (fs : Option (List Line)) → KeepsOthers n c.streams (fields_came c n fs)
keeps_fields n c fs =
    either n c.streams (nat_lt c.last n) (stream_came (record c { last = n }) n fs) (trailers_came (beside c n) (find n c.streams) fs)
    (keeps_stream n c.streams (record c { last = n }) fs (λ m ne. refl))
    (keeps_trailers n c.streams (beside c n) (find n c.streams) fs (λ m ne. find_others m n c.streams ne) (number_found n c.streams))

keeps_gathered : (n : ℕ) (c : ExchangeValue) (g : Gathered) → KeepsOthers n c.streams (gathered c n g)
keeps_gathered n c heavy = tt
keeps_gathered n c part = (λ m ne. refl, tt)
keeps_gathered n c garbled = tt
keeps_gathered n c (whole fs) = keeps_fields n (record c { unfinished = 0 }) fs

keeps_taken : (n : ℕ) (old : List StreamValue) (c : ExchangeValue) (s : StreamValue) (r : RequestValue) (last : Bool) (left : Option ℕ)
    → Beside n old c.streams → s.number ≡ n → KeepsOthers n old (content_taken c s r last left)
keeps_taken n old c s r last left same number =
    either n old last (ended c left r (record s { request = None; left = left })) (stays c (record s { request = Some r; left = left }) quiet)
    (keeps_ended n old c left r (record s { request = None; left = left }) same number)
    (keeps_stays n old c (record s { request = Some r; left = left }) quiet same number tt)

keeps_content_in : (n : ℕ) (old : List StreamValue) (c : ExchangeValue) (s : StreamValue) (r : RequestValue) (last : Bool) (octets : List ℕ)
    (o : Option (Option ℕ)) → Beside n old c.streams → s.number ≡ n → KeepsOthers n old (content_in c s r last octets o)
keeps_content_in n old c s r last octets None same number = keeps_gone n old c (resets s.number Code.Protocol) same number
keeps_content_in n old c s r last octets (Some left) same number =
    let more : RequestValue = record r { content = r.content ++ octets } in
    either n old (nat_lt c.most (length r.content + length octets)) (fails Code.EnhanceYourCalm s.number c) (content_taken c s more last left)
    (keeps_gone n old c (resets s.number Code.EnhanceYourCalm) same number) (keeps_taken n old c s more last left same number)

keeps_content_of : (n : ℕ) (old : List StreamValue) (c : ExchangeValue) (s : StreamValue) (o : Option RequestValue) (last : Bool) (octets : List ℕ)
    → Beside n old c.streams → s.number ≡ n → KeepsOthers n old (content_of_stream c s o last octets)
keeps_content_of n old c s None last octets same number = keeps_gone n old c (resets s.number Code.StreamClosed) same number
keeps_content_of n old c s (Some r) last octets same number =
    keeps_content_in n old c s r last octets (without s.left (length octets)) same number

keeps_content : (n : ℕ) (old : List StreamValue) (c : ExchangeValue) (o : Option StreamValue) (last : Bool) (octets : List ℕ)
    → Beside n old c.streams → NumberIs n o → KeepsOthers n old (content_came c o last octets)
keeps_content n old c None last octets same number = (same, tt)
keeps_content n old c (Some s) last octets same number = keeps_content_of n old c s s.request last octets same number

keeps_data : (c : ExchangeValue) (frame : List ℕ) → KeepsOthers (stream_of frame) c.streams (data_came c frame)
keeps_data c frame =
    let n : ℕ = stream_of frame in
    let less : ExchangeValue = beside (record c { credit = c.credit - flow_of frame }) n in
    either n c.streams (nat_lt c.credit (flow_of frame)) (breaks Code.FlowControl)
    (content_came less (find n c.streams) (ends_stream frame) (content_of frame)) tt
    (keeps_content n c.streams less (find n c.streams) (ends_stream frame) (content_of frame)
    (λ m ne. find_others m n c.streams ne) (number_found n c.streams))

keeps_reset : (n : ℕ) (old : List StreamValue) (c : ExchangeValue) (o : Option StreamValue) → Beside n old c.streams
    → KeepsOthers n old (reset_came c o)
keeps_reset n old c None same = (same, tt)
keeps_reset n old c (Some s) same = keeps_gone n old c quiet same tt

keeps_raised : (n : ℕ) (old : List StreamValue) (c : ExchangeValue) (o : Option StreamValue) (more : ℕ) → Beside n old c.streams
    → NumberIs n o → KeepsOthers n old (stream_raised c o more)
keeps_raised n old c None more same number = (same, tt)
keeps_raised n old c (Some s) more same number =
    either n old (is_beyond c.window (s.raised + more) s.used) (fails Code.FlowControl s.number c) (stays c (record s { raised = s.raised + more }) quiet)
    (keeps_gone n old c (resets s.number Code.FlowControl) same number) (keeps_stays n old c (record s { raised = s.raised + more }) quiet same number tt)

keeps_update : (c : ExchangeValue) (frame : List ℕ) → KeepsOthers (stream_of frame) c.streams (update_came c frame)
keeps_update c frame =
    let n : ℕ = stream_of frame in
    let wide : ℕ = c.raised + increment_of 0 frame in
    either n c.streams (n == 0) (connection_raised c (increment_of 0 frame)) (stream_raised (beside c n) (find n c.streams) (increment_of n frame))
    (either n c.streams (is_beyond 65535 wide c.used) (breaks Code.FlowControl) (on (record c { raised = wide }) quiet) tt (λ m ne. refl, tt))
    (keeps_raised n c.streams (beside c n) (find n c.streams) (increment_of n frame) (λ m ne. find_others m n c.streams ne) (number_found n c.streams))

keeps_stream_failed : (n : ℕ) (old : List StreamValue) (c : ExchangeValue) (o : Option StreamValue) (code : Code) → Beside n old c.streams
    → NumberIs n o → KeepsOthers n old (stream_failed c o code)
keeps_stream_failed n old c None code same number = (same, tt)
keeps_stream_failed n old c (Some s) code same number = keeps_gone n old c (resets s.number code) same number

keeps_failed : (n : ℕ) (c : ExchangeValue) (code : Code) → KeepsOthers n c.streams (failed c n code)
keeps_failed n c code =
    either n c.streams (is_idle c n) (breaks code) (stream_failed (beside c n) (find n c.streams) code) tt
    (keeps_stream_failed n c.streams (beside c n) (find n c.streams) code (λ m ne. find_others m n c.streams ne) (number_found n c.streams))

keeps_says : (c : ExchangeValue) (frame : List ℕ) (turn : Turn) → Says c frame turn → KeepsOthers (stream_of frame) c.streams turn
keeps_says c frame turn (content kind is) = rw is (keeps_data c frame)
keeps_says c frame turn (begins kind came) =
    rw came.3 (keeps_gathered (stream_of frame) (record (begun c frame) { block = came.1 }) came.0)
keeps_says c frame turn (continues kind came) = rw came.3 (keeps_gathered (stream_of frame) (record c { block = came.1 }) came.0)
keeps_says c frame turn (reset kind is) =
    rw is (keeps_reset (stream_of frame) c.streams (beside c (stream_of frame)) (find (stream_of frame) c.streams)
    (λ m ne. find_others m (stream_of frame) c.streams ne))
keeps_says c frame turn (settings kind is) =
    rw is (either (stream_of frame) c.streams (are_within (window_after c.window frame) c.streams)
    (on (record c { window = window_after c.window frame }) quiet) (breaks Code.FlowControl) (λ m ne. refl, tt) tt)
keeps_says c frame turn (update kind is) = rw is (keeps_update c frame)
keeps_says c frame turn (nothing a b d e f g is) = rw is (λ m ne. refl, tt)

pub keeps_others : (c : ExchangeValue) (frame : List ℕ) (turn : Turn) → Takes c frame turn → KeepsOthers (stream_of frame) c.streams turn
keeps_others c frame turn (spent fault is) = rw is tt
keeps_others c frame turn (faulty code fault is) = rw is tt
keeps_others c frame turn (failing code fault is) =
    rw is (either (stream_of frame) c.streams (is_misplaced c frame) (breaks Code.Protocol) (failed (settled c) (stream_of frame) code) tt
    (keeps_failed (stream_of frame) (settled c) code))
keeps_others c frame turn (misplaced fault place is) = rw is tt
keeps_others c frame turn (placed fault place says) = keeps_says (settled c) frame turn says
