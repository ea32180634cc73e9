-- A call comes whole with the end of its stream, and the most content of a request stays as it is.
use Rattle.std.proofs.Common.{◌≡◌, ◌⊎◌, inl, inr, ℕ, ◌+◌, ◌-◌, ◌==◌, Bool, true, false, not, if◌then◌else◌, Option, Some, None, List, [], ◌∷◌, ◌++◌, length, refl, sym, ap, ◌∙◌, true≢false, subst, nat_lt}
use Rattle.std.proofs.lemmas.Bool.{eqb-true, eq-eqb}
use Rattle.hpack.specs.Field.{Line}
use Rattle.http2.specs.Frame.{Parts, kind_of, stream_of, content_of, ends_stream, is_acknowledgement, flow_of, increment_of, window_after}
use Rattle.http2.specs.Trail.{Step, got, put}
use Rattle.http2.specs.Answer.{length_from, without, is_whole}
use Rattle.http2.specs.Control.{is_settings}
use Rattle.http2.specs.Fields.{are_plain}
use Rattle.http2.specs.Request.{is_request}
use Rattle.http2.specs.Gathering.{Gathered, heavy, part, garbled, whole}
use Rattle.http2.specs.Streams.{RequestValue, CallValue, StreamValue, fresh, find, is_beyond, are_within}
use Rattle.http2.specs.Exchange.{ExchangeValue, Event, quiet, resets, asks, Turn, on, over, breaks, gone, fails, stays, beside, is_idle, is_astray, is_misplaced, ended, opened, request_came, stream_came, trailers_in, trailers_of, trailers_came, fields_came, gathered, content_taken, content_in, content_of_stream, content_came, data_came, reset_came, connection_raised, stream_raised, update_came, stream_failed, failed, begun, settled, most_streams, most_resets, Says, content, begins, continues, reset, settings, update, nothing, Takes, spent, faulty, failing, misplaced, placed}
use Rattle.http2.specs.Exchanged.{changed, headed, charged, Puts, Comes, welcomed}
use Rattle.http2.specs.Exchanged as puts
use Rattle.http2.specs.Contents.{is_last, has_ended}
use Rattle.http2.specs.declared.fault.Code.{Code}

-- the parts of an exchange that count here
abbrev pub Kept : (ℕ → Type 0) → ℕ → Bool → Bool → ExchangeValue → Type 0
Kept U m s e c = (c.most ≡ m) × (c.settled ≡ s) × (c.ends ≡ e) × U c.unfinished

-- a call comes whole at the end of its stream alone
abbrev pub Asked : Bool → Event → Type 0
Asked last quiet = Unit {0}
Asked last (resets stream code) = Unit {0}
Asked last (asks call) = last ≡ true

abbrev KeptTurn : (ℕ → Type 0) → ℕ → Bool → Bool → Bool → Turn → Type 0
KeptTurn U m s e last (over f) = Unit {0}
KeptTurn U m s e last (on c event) = Kept U m s e c × Asked last event

module _ (U : ℕ → Type 0) (m : ℕ) (s e last : Bool) where
  either : (b : Bool) (x y : Turn) → KeptTurn U m s e last x → KeptTurn U m s e last y → KeptTurn U m s e last (if b then x else y)
  either true x y p q = p
  either false x y p q = q

  kept_gone : (c : ExchangeValue) (event : Event) → Kept U m s e c → Asked last event → KeptTurn U m s e last (gone c event)
  kept_gone c event k asked =
      either (nat_lt c.resets most_resets) (on (record c { resets = c.resets + 1 }) event) (breaks Code.EnhanceYourCalm) (k, asked) tt

  kept_ended : (c : ExchangeValue) (left : Option ℕ) (r : RequestValue) (st : StreamValue) → Kept U m s e c → last ≡ true
      → KeptTurn U m s e last (ended c left r st)
  kept_ended c left r st k is =
      either (is_whole left) (stays c st (asks (record { stream = st.number; request = r }))) (fails Code.Protocol st.number c)
      (k, is) (kept_gone c (resets st.number Code.Protocol) k tt)

  -- ---- content

  taken_by : (c : ExchangeValue) (st : StreamValue) (r : RequestValue) (left : Option ℕ) (b : Bool) → last ≡ b → Kept U m s e c
      → KeptTurn U m s e last (content_taken c st r b left)
  taken_by c st r left true is k = kept_ended c left r (record st { request = None; left = left }) k is
  taken_by c st r left false is k = (k, tt)

  kept_content_in : (c : ExchangeValue) (st : StreamValue) (r : RequestValue) (octets : List ℕ) (o : Option (Option ℕ)) → Kept U m s e c
      → KeptTurn U m s e last (content_in c st r last octets o)
  kept_content_in c st r octets None k = kept_gone c (resets st.number Code.Protocol) k tt
  kept_content_in c st r octets (Some left) k =
      let more : RequestValue = record r { content = r.content ++ octets } in
      either (nat_lt c.most (length r.content + length octets)) (fails Code.EnhanceYourCalm st.number c) (content_taken c st more last left)
      (kept_gone c (resets st.number Code.EnhanceYourCalm) k tt) (taken_by c st more left last refl k)

  kept_content_of : (c : ExchangeValue) (st : StreamValue) (o : Option RequestValue) (octets : List ℕ) → Kept U m s e c
      → KeptTurn U m s e last (content_of_stream c st o last octets)
  kept_content_of c st None octets k = kept_gone c (resets st.number Code.StreamClosed) k tt
  kept_content_of c st (Some r) octets k = kept_content_in c st r octets (without st.left (length octets)) k

  kept_content : (c : ExchangeValue) (o : Option StreamValue) (octets : List ℕ) → Kept U m s e c
      → KeptTurn U m s e last (content_came c o last octets)
  kept_content c None octets k = (k, tt)
  kept_content c (Some st) octets k = kept_content_of c st st.request octets k

  -- ---- what ends no stream

  kept_reset : (c : ExchangeValue) (o : Option StreamValue) → Kept U m s e c → KeptTurn U m s e last (reset_came c o)
  kept_reset c None k = (k, tt)
  kept_reset c (Some st) k = kept_gone c quiet k tt

  kept_raised : (c : ExchangeValue) (o : Option StreamValue) (more : ℕ) → Kept U m s e c → KeptTurn U m s e last (stream_raised c o more)
  kept_raised c None more k = (k, tt)
  kept_raised c (Some st) more k =
      either (is_beyond c.window (st.raised + more) st.used) (fails Code.FlowControl st.number c) (stays c (record st { raised = st.raised + more }) quiet)
      (kept_gone c (resets st.number Code.FlowControl) k tt) (k, tt)

  kept_update : (c : ExchangeValue) (frame : List ℕ) → Kept U m s e c → KeptTurn U m s e last (update_came c frame)
  kept_update c frame k =
      let n : ℕ = stream_of frame in
      let wide : ℕ = c.raised + increment_of 0 frame in
      either (n == 0) (connection_raised c (increment_of 0 frame)) (stream_raised (beside c n) (find n c.streams) (increment_of n frame))
      (either (is_beyond 65535 wide c.used) (breaks Code.FlowControl) (on (record c { raised = wide }) quiet) tt (k, tt))
      (kept_raised (beside c n) (find n c.streams) (increment_of n frame) k)

  kept_settings : (c : ExchangeValue) (window : ℕ) → Kept U m s e c
      → KeptTurn U m s e last (if are_within window c.streams then on (record c { window = window }) quiet else breaks Code.FlowControl)
  kept_settings c window k =
      either (are_within window c.streams) (on (record c { window = window }) quiet) (breaks Code.FlowControl) (k, tt) tt

  kept_stream_failed : (c : ExchangeValue) (o : Option StreamValue) (code : Code) → Kept U m s e c
      → KeptTurn U m s e last (stream_failed c o code)
  kept_stream_failed c None code k = (k, tt)
  kept_stream_failed c (Some st) code k = kept_gone c (resets st.number code) k tt

  kept_failed : (c : ExchangeValue) (n : ℕ) (code : Code) → Kept U m s e c → KeptTurn U m s e last (failed c n code)
  kept_failed c n code k =
      either (is_idle c n) (breaks code) (stream_failed (beside c n) (find n c.streams) code) tt
      (kept_stream_failed (beside c n) (find n c.streams) code k)

-- data, whose end is that of the stream
kept_data : (U : ℕ → Type 0) (m : ℕ) (s e : Bool) (c : ExchangeValue) (frame : List ℕ) → Kept U m s e c
    → KeptTurn U m s e (ends_stream frame) (data_came c frame)
kept_data U m s e c frame k =
    let n : ℕ = stream_of frame in
    let less : ExchangeValue = beside (record c { credit = c.credit - flow_of frame }) n in
    either U m s e (ends_stream frame) (nat_lt c.credit (flow_of frame)) (breaks Code.FlowControl)
    (content_came less (find n c.streams) (ends_stream frame) (content_of frame)) tt
    (kept_content U m s e (ends_stream frame) less (find n c.streams) (content_of frame) k)

-- ---- fields, whose block ends the stream or does not

module _ (U : ℕ → Type 0) (m : ℕ) (s e : Bool) where
  opened_by : (c : ExchangeValue) (n : ℕ) (fs : List Line) (left : Option ℕ) (b : Bool) → e ≡ b → Kept U m s e c
      → KeptTurn U m s e e (if b then ended c left (record { fields = fs; content = [] }) (fresh n None left)
      else stays c (fresh n (Some (record { fields = fs; content = [] })) left) quiet)
  opened_by c n fs left true is k = kept_ended U m s e e c left (record { fields = fs; content = [] }) (fresh n None left) k is
  opened_by c n fs left false is k = (k, tt)

  kept_opened : (c : ExchangeValue) (n : ℕ) (fs : List Line) (o : Option (Option ℕ)) → Kept U m s e c
      → KeptTurn U m s e e (opened c n fs o)
  kept_opened c n fs None k = kept_gone U m s e e c (resets n Code.Protocol) k tt
  kept_opened c n fs (Some left) k = opened_by c n fs left c.ends (sym k.2) k

  kept_request : (c : ExchangeValue) (n : ℕ) (fs : Option (List Line)) → Kept U m s e c → KeptTurn U m s e e (request_came c n fs)
  kept_request c n None k = kept_gone U m s e e c (resets n Code.EnhanceYourCalm) k tt
  kept_request c n (Some fs) k =
      either U m s e e (is_request fs) (opened c n fs (length_from None fs)) (fails Code.Protocol n c)
      (kept_opened c n fs (length_from None fs) k) (kept_gone U m s e e c (resets n Code.Protocol) k tt)

  kept_stream : (c : ExchangeValue) (n : ℕ) (fs : Option (List Line)) → Kept U m s e c → KeptTurn U m s e e (stream_came c n fs)
  kept_stream c n fs k =
      either U m s e e (nat_lt (length c.streams) most_streams) (request_came c n fs) (on c (resets n Code.RefusedStream))
      (kept_request c n fs k) (k, tt)

  trailers_by : (c : ExchangeValue) (st : StreamValue) (r : RequestValue) (fs : List Line) (b : Bool) → e ≡ b → Kept U m s e c
      → KeptTurn U m s e e (if not b then fails Code.Protocol st.number c
      else if are_plain fs then ended c st.left r (record st { request = None }) else fails Code.Protocol st.number c)
  trailers_by c st r fs true is k =
      either U m s e e (are_plain fs) (ended c st.left r (record st { request = None })) (fails Code.Protocol st.number c)
      (kept_ended U m s e e c st.left r (record st { request = None }) k is) (kept_gone U m s e e c (resets st.number Code.Protocol) k tt)
  trailers_by c st r fs false is k = kept_gone U m s e e c (resets st.number Code.Protocol) k tt

  kept_trailers_in : (c : ExchangeValue) (st : StreamValue) (r : RequestValue) (fs : Option (List Line)) → Kept U m s e c
      → KeptTurn U m s e e (trailers_in c st r fs)
  kept_trailers_in c st r None k = kept_gone U m s e e c (resets st.number Code.EnhanceYourCalm) k tt
  kept_trailers_in c st r (Some fs) k = trailers_by c st r fs c.ends (sym k.2) k

  kept_trailers_of : (c : ExchangeValue) (st : StreamValue) (o : Option RequestValue) (fs : Option (List Line)) → Kept U m s e c
      → KeptTurn U m s e e (trailers_of c st o fs)
  kept_trailers_of c st None fs k = kept_gone U m s e e c (resets st.number Code.StreamClosed) k tt
  kept_trailers_of c st (Some r) fs k = kept_trailers_in c st r fs k

  kept_trailers : (c : ExchangeValue) (o : Option StreamValue) (fs : Option (List Line)) → Kept U m s e c
      → KeptTurn U m s e e (trailers_came c o fs)
  kept_trailers c None fs k = (k, tt)
  kept_trailers c (Some st) fs k = kept_trailers_of c st st.request fs k

  kept_fields : (c : ExchangeValue) (n : ℕ) (fs : Option (List Line)) → Kept U m s e c → KeptTurn U m s e e (fields_came c n fs)
  kept_fields c n fs k =
      either U m s e e (nat_lt c.last n) (stream_came (record c { last = n }) n fs) (trailers_came (beside c n) (find n c.streams) fs)
      (kept_stream (record c { last = n }) n fs k) (kept_trailers (beside c n) (find n c.streams) fs k)

  kept_gathered : (c : ExchangeValue) (n : ℕ) (g : Gathered) → U 0 → Kept U m s e c → KeptTurn U m s e e (gathered c n g)
  kept_gathered c n heavy none k = tt
  kept_gathered c n part none k = (k, tt)
  kept_gathered c n garbled none k = tt
  kept_gathered c n (whole fs) none k = kept_fields (record c { unfinished = 0 }) n fs (k.0, k.1, k.2, none)

-- ---- frames

-- in the middle of a header block it is known whether the stream ends after it
abbrev pub IsInside : List Step → ExchangeValue → Type 0
IsInside trail c = (c.settled ≡ true) × (has_ended trail ≡ c.ends)

abbrev pub Block : List Step → ExchangeValue → Type 0
Block trail c = (c.unfinished ≡ 0) ⊎ IsInside trail c

-- where a frame may be
place_by : (trail : List Step) (c : ExchangeValue) (st first nine sets astray on_it : Bool) → c.settled ≡ st → (c.unfinished == 0) ≡ first
    → Block trail c
    → (if not st then not sets else if first then (if nine then true else astray) else if nine then not on_it else true) ≡ false
    → (c.unfinished ≡ 0) ⊎ ((nine ≡ true) × IsInside trail c)
place_by trail c false first nine sets astray on_it is none (inl zero) may = inl zero
place_by trail c false first nine sets astray on_it is none (inr inside) may = absurd (true≢false (sym inside.0 ∙ is))
place_by trail c true true nine sets astray on_it is none block may = inl (eqb-true c.unfinished 0 none)
place_by trail c true false false sets astray on_it is none block may = absurd (true≢false may)
place_by trail c true false true sets astray on_it is none (inl zero) may =
    absurd (true≢false (sym (eq-eqb c.unfinished 0 zero) ∙ none))
place_by trail c true false true sets astray on_it is none (inr inside) may = inr (refl, inside)

place_of : (trail : List Step) (c : ExchangeValue) (frame : List ℕ) → Block trail c → is_misplaced c frame ≡ false
    → (c.unfinished ≡ 0) ⊎ (((kind_of frame == 9) ≡ true) × IsInside trail c)
place_of trail c frame block may =
    place_by trail c c.settled (c.unfinished == 0) (kind_of frame == 9) (is_settings frame) (is_astray c frame)
    (stream_of frame == c.unfinished) refl refl block may

-- a next part is in the middle of a block
inside_by : (trail : List Step) (c : ExchangeValue) (st first sets astray on_it : Bool) → c.settled ≡ st → (c.unfinished == 0) ≡ first
    → sets ≡ false → Block trail c
    → (if not st then not sets else if first then true else not on_it) ≡ false → IsInside trail c
inside_by trail c false first true astray on_it is none other block may = absurd (true≢false other)
inside_by trail c false first false astray on_it is none other block may = absurd (true≢false may)
inside_by trail c true true sets astray on_it is none other block may = absurd (true≢false may)
inside_by trail c true false sets astray on_it is none other (inl zero) may =
    absurd (true≢false (sym (eq-eqb c.unfinished 0 zero) ∙ none))
inside_by trail c true false sets astray on_it is none other (inr inside) may = inside

inside_of : (trail : List Step) (c : ExchangeValue) (frame : List ℕ) → kind_of frame ≡ 9 → Block trail c → is_misplaced c frame ≡ false
    → IsInside trail c
inside_of trail c frame kind block may =
    let sets : is_settings frame ≡ false = ap (λ (k : ℕ). if k == 4 then not (is_acknowledgement frame) else false) kind in
    let nine : (kind_of frame == 9) ≡ true = ap (λ (k : ℕ). k == 9) kind in
    inside_by trail c c.settled (c.unfinished == 0) (is_settings frame) (is_astray c frame) (stream_of frame == c.unfinished)
    refl refl sets block
    (subst (λ (b : Bool). (if not c.settled then not (is_settings frame)
    else if c.unfinished == 0 then (if b then true else is_astray c frame) else if b then not (stream_of frame == c.unfinished) else true) ≡ false)
    nine may)

-- whether the stream has ended, by the type of the last frame
ended_by : (frame : List ℕ) (trail : List Step) (k : ℕ) → kind_of frame ≡ k
    → has_ended (got frame ∷ trail)
    ≡ (if k == 9 then has_ended trail else if k == 0 then ends_stream frame else if k == 1 then ends_stream frame else false)
ended_by frame trail k is =
    ap (λ (n : ℕ). if n == 9 then has_ended trail else if n == 0 then ends_stream frame else if n == 1 then ends_stream frame else false) is

-- what is known after a frame
abbrev Known : ℕ → List Step → Turn → Type 0
Known m trail (over f) = Unit {0}
Known m trail (on c event) = (c.most ≡ m) × Block trail c × Asked (has_ended trail) event

-- a frame that is no part of a block
module _ (m : ℕ) (trail : List Step) (frame : List ℕ) (c : ExchangeValue) (last : Bool)
    (at : (c.unfinished ≡ 0) ⊎ (((kind_of frame == 9) ≡ true) × IsInside trail c))
    (asked : (event : Event) → Asked last event → Asked (has_ended (got frame ∷ trail)) event) where
  block_by : (after : ExchangeValue) → Kept (λ u. u ≡ c.unfinished) m true c.ends after
      → (c.unfinished ≡ 0) ⊎ (((kind_of frame == 9) ≡ true) × IsInside trail c) → Block (got frame ∷ trail) after
  block_by after k (inl zero) = inl (k.3 ∙ zero)
  block_by after k (inr (nine, inside)) =
      inr (k.1, ap (λ (b : Bool). if b then has_ended trail else is_last frame) nine ∙ inside.1 ∙ sym k.2)

  after_block : (after : ExchangeValue) → Kept (λ u. u ≡ c.unfinished) m true c.ends after → Block (got frame ∷ trail) after
  after_block after k = block_by after k at

  known_of : (turn : Turn) → KeptTurn (λ u. u ≡ c.unfinished) m true c.ends last turn → Known m (got frame ∷ trail) turn
  known_of (over f) k = tt
  known_of (on after event) (k, is) = (k.0, after_block after k, asked event is)

-- nothing is asked where nothing ends
nothing_asked : (b : Bool) (event : Event) → Asked false event → Asked b event
nothing_asked b quiet is = tt
nothing_asked b (resets stream code) is = tt
nothing_asked b (asks call) is = absurd (true≢false (sym is))

-- a part of a block
part_known : (m : ℕ) (trail : List Step) (e : Bool) (turn : Turn) → has_ended trail ≡ e → KeptTurn (λ u. Unit {0}) m true e e turn
    → Known m trail turn
part_known m trail e (over f) is k = tt
part_known m trail e (on after event) is (k, asked) =
    (k.0, inr (k.1, is ∙ sym k.2), subst (λ (b : Bool). Asked b event) (sym is) asked)

says_known : (m : ℕ) (trail : List Step) (c : ExchangeValue) (frame : List ℕ) (turn : Turn) → c.most ≡ m
    → (c.unfinished ≡ 0) ⊎ (((kind_of frame == 9) ≡ true) × IsInside trail c)
    → (kind_of frame ≡ 9 → IsInside trail c) → Says (settled c) frame turn → Known m (got frame ∷ trail) turn
says_known m trail c frame turn most at in_it (content kind is) =
    known_of m trail frame c (ends_stream frame) at
    (λ event. subst (λ (b : Bool). Asked b event) (sym (ended_by frame trail 0 kind))) turn
    (subst (λ (t : Turn). KeptTurn (λ u. u ≡ c.unfinished) m true c.ends (ends_stream frame) t) (sym is)
    (kept_data (λ u. u ≡ c.unfinished) m true c.ends (settled c) frame (most, refl, refl, refl)))
says_known m trail c frame turn most at in_it (begins kind came) =
    let next : ExchangeValue = record (begun (settled c) frame) { block = came.1 } in
    part_known m (got frame ∷ trail) (ends_stream frame) turn (ended_by frame trail 1 kind)
    (subst (λ (t : Turn). KeptTurn (λ u. Unit {0}) m true (ends_stream frame) (ends_stream frame) t) (sym came.3)
    (kept_gathered (λ u. Unit {0}) m true (ends_stream frame) next (stream_of frame) came.0 tt (most, refl, refl, tt)))
says_known m trail c frame turn most at in_it (continues kind came) =
    let next : ExchangeValue = record (settled c) { block = came.1 } in
    let inside = in_it kind in
    part_known m (got frame ∷ trail) c.ends turn (ended_by frame trail 9 kind ∙ inside.1)
    (subst (λ (t : Turn). KeptTurn (λ u. Unit {0}) m true c.ends c.ends t) (sym came.3)
    (kept_gathered (λ u. Unit {0}) m true c.ends next (stream_of frame) came.0 tt (most, refl, refl, tt)))
says_known m trail c frame turn most at in_it (reset kind is) =
    known_of m trail frame c false at (nothing_asked (has_ended (got frame ∷ trail))) turn
    (subst (λ (t : Turn). KeptTurn (λ u. u ≡ c.unfinished) m true c.ends false t) (sym is)
    (kept_reset (λ u. u ≡ c.unfinished) m true c.ends false (beside (settled c) (stream_of frame)) (find (stream_of frame) c.streams)
    (most, refl, refl, refl)))
says_known m trail c frame turn most at in_it (settings kind is) =
    known_of m trail frame c false at (nothing_asked (has_ended (got frame ∷ trail))) turn
    (subst (λ (t : Turn). KeptTurn (λ u. u ≡ c.unfinished) m true c.ends false t) (sym is)
    (kept_settings (λ u. u ≡ c.unfinished) m true c.ends false (settled c) (window_after c.window frame) (most, refl, refl, refl)))
says_known m trail c frame turn most at in_it (update kind is) =
    known_of m trail frame c false at (nothing_asked (has_ended (got frame ∷ trail))) turn
    (subst (λ (t : Turn). KeptTurn (λ u. u ≡ c.unfinished) m true c.ends false t) (sym is)
    (kept_update (λ u. u ≡ c.unfinished) m true c.ends false (settled c) frame (most, refl, refl, refl)))
says_known m trail c frame turn most at in_it (nothing other a b d e f is) =
    known_of m trail frame c false at (nothing_asked (has_ended (got frame ∷ trail))) turn
    (subst (λ (t : Turn). KeptTurn (λ u. u ≡ c.unfinished) m true c.ends false t) (sym is) ((most, refl, refl, refl), tt))

failing_by : (m : ℕ) (trail : List Step) (c : ExchangeValue) (frame : List ℕ) (code : Code) (b : Bool) → is_misplaced c frame ≡ b → c.most ≡ m
    → Block trail c → Known m (got frame ∷ trail) (if b then breaks Code.Protocol else failed (settled c) (stream_of frame) code)
failing_by m trail c frame code true is most block = tt
failing_by m trail c frame code false is most block =
    known_of m trail frame c false (place_of trail c frame block is) (nothing_asked (has_ended (got frame ∷ trail)))
    (failed (settled c) (stream_of frame) code)
    (kept_failed (λ u. u ≡ c.unfinished) m true c.ends false (settled c) (stream_of frame) code (most, refl, refl, refl))

takes_known : (m : ℕ) (trail : List Step) (c : ExchangeValue) (frame : List ℕ) (turn : Turn) → c.most ≡ m → Block trail c
    → Takes c frame turn → Known m (got frame ∷ trail) turn
takes_known m trail c frame turn most block (spent fault is) = subst (λ (t : Turn). Known m (got frame ∷ trail) t) (sym is) tt
takes_known m trail c frame turn most block (faulty code fault is) = subst (λ (t : Turn). Known m (got frame ∷ trail) t) (sym is) tt
takes_known m trail c frame turn most block (failing code fault is) =
    subst (λ (t : Turn). Known m (got frame ∷ trail) t) (sym is) (failing_by m trail c frame code (is_misplaced c frame) refl most block)
takes_known m trail c frame turn most block (misplaced fault place is) = subst (λ (t : Turn). Known m (got frame ∷ trail) t) (sym is) tt
takes_known m trail c frame turn most block (placed fault place says) =
    says_known m trail c frame turn most (place_of trail c frame block place) (λ kind. inside_of trail c frame kind block place) says

-- ---- what is written

-- what counts here stays as it is
abbrev Same : ExchangeValue → ExchangeValue → Type 0
Same b c = (c.most ≡ b.most) × (c.settled ≡ b.settled) × (c.ends ≡ b.ends) × (c.unfinished ≡ b.unfinished)

changed_same : (change : StreamValue → StreamValue) (c : ExchangeValue) (o : Option StreamValue) → Same c (changed change c o)
changed_same change c None = (refl, refl, refl, refl)
changed_same change c (Some st) = (refl, refl, refl, refl)

puts_same : (b c : ExchangeValue) (frame : List ℕ) → Puts b frame c → Same b c
puts_same b c frame (puts.fields can kind flags is) =
    subst (λ (e : ExchangeValue). Same b e) (sym is) (changed_same headed (beside b (stream_of frame)) (find (stream_of frame) b.streams))
puts_same b c frame (puts.content some within kind flags is) =
    subst (λ (e : ExchangeValue). Same b e) (sym is)
    (changed_same (charged (flow_of frame)) (beside b (stream_of frame)) (find (stream_of frame) b.streams))
puts_same b c frame (puts.trailers can kind flags is) = subst (λ (e : ExchangeValue). Same b e) (sym is) (refl, refl, refl, refl)
puts_same b c frame (puts.window some kind flags stream within is) =
    subst (λ (e : ExchangeValue). Same b e) (sym is) (refl, refl, refl, refl)
puts_same b c frame (puts.answer answers is) = subst (λ (e : ExchangeValue). Same b e) (sym is) (refl, refl, refl, refl)

same_block : (trail : List Step) (b c : ExchangeValue) (frame : List ℕ) → Same b c → Block trail b → Block (put frame ∷ trail) c
same_block trail b c frame same (inl zero) = inl (same.3 ∙ zero)
same_block trail b c frame same (inr inside) = inr (same.1 ∙ inside.0, inside.1 ∙ sym same.2)

-- ---- all frames

pub comes_known : (most : ℕ) (trail : List Step) (c : ExchangeValue) (calls : List CallValue) (owed : List Parts)
    → Comes most trail c calls owed → (c.most ≡ most) × Block trail c
comes_known most [] c calls owed comes = (ap (λ (e : ExchangeValue). e.most) comes.0, inl (ap (λ (e : ExchangeValue). e.unfinished) comes.0))
comes_known most (got frame ∷ trail) c calls owed comes =
    let past = comes_known most trail comes.0 comes.1 comes.2 comes.4 in
    let known = takes_known most trail comes.0 frame (on c comes.3) past.0 past.1 comes.5 in
    (known.0, known.1)
comes_known most (put frame ∷ trail) c calls owed comes =
    let past = comes_known most trail comes.0 calls owed comes.1 in
    let same = puts_same comes.0 c frame comes.2 in
    (same.0 ∙ past.0, same_block trail comes.0 c frame same past.1)

-- a call came whole with this frame
pub came_whole : (most : ℕ) (trail : List Step) (b c : ExchangeValue) (frame : List ℕ) (event : Event) (calls : List CallValue) (owed : List Parts)
    → Comes most trail b calls owed → Takes b frame (on c event) → Asked (has_ended (got frame ∷ trail)) event
came_whole most trail b c frame event calls owed comes takes =
    let past = comes_known most trail b calls owed comes in
    (takes_known most trail b frame (on c event) past.0 past.1 takes).2

-- what is said first ends no stream
pub same_end : (trail : List Step) → has_ended (trail ++ welcomed) ≡ has_ended trail
same_end [] = refl
same_end (got frame ∷ trail) = ap (λ (b : Bool). if kind_of frame == 9 then b else is_last frame) (same_end trail)
same_end (put frame ∷ trail) = same_end trail
