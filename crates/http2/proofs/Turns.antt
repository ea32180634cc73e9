-- What a frame with which a call that is served goes on does to the call's stream.
use Rattle.std.proofs.Common.{◌≡◌, ◌<◌, ◌⊎◌, ℕ, zero, suc, ◌%◌, ◌==◌, length, Bool, true, false, not, if◌then◌else◌, Option, Some, None, List, refl, sym, ap, ap₂, ◌∙◌, inl, inr, true≢false, subst, arith, nat_lt}
use Rattle.hpack.specs.Field.{Line}
use Rattle.std.proofs.lemmas.Bool.{eqb-true, eq-eqb}
use Rattle.http2.specs.Frame.{word_at, is_acknowledgement, kind_of, flags_of, stream_of, payload_of, unopened, IsStream, content_of, ends_stream}
use Rattle.http2.specs.Trail.{IsQuiet}
use Rattle.http2.specs.Faults.{fault_of_client, wrong_by, wrong_continuation}
use Rattle.http2.specs.Answer.{length_from, without, is_whole}
use Rattle.http2.specs.Fields.{are_plain}
use Rattle.http2.specs.Request.{is_request}
use Rattle.http2.specs.Gathering.{Gathered, heavy, part, garbled, whole}
use Rattle.http2.specs.Serving.{ServingValue, Turn, on, over, remains_of, fails, is_silent, is_closed, is_idle, is_misplaced, settled, begun, phase_behind, opened, request_came, trailers_came, others_came, fields_came, gathered, content_came, data_came, reset_came, Says, content, begins, continues, reset, nothing, Takes, faulty, misplaced, placed}
use Rattle.http2.specs.declared.fault.Code.{Code}
use Rattle.http2.specs.declared.over.Over.TheVariants.{Reset}
use Rattle.http2.specs.declared.serving.Phase.TheVariants.{Closed}
use Rattle.http2.proofs.Calls.{none_some}

-- the call's stream stays, or it is opened as this one
abbrev pub Numbers : ℕ → ℕ → Turn → Type 0
Numbers before stream (over o r) = Unit {0}
Numbers before stream (on c) = (c.number ≡ before) ⊎ ((before ≡ unopened) × (c.number ≡ stream))

either : (n s : ℕ) (b : Bool) (x y : Turn) → Numbers n s x → Numbers n s y → Numbers n s (if b then x else y)
either n s true x y p q = p
either n s false x y p q = q

number_opened : (c : ServingValue) (stream : ℕ) (fs : List Line) (o : Option (Option ℕ)) → c.number ≡ unopened
    → Numbers c.number stream (opened c stream fs o)
number_opened c stream fs None new = tt
number_opened c stream fs (Some left) new =
    either c.number stream (if c.ends then not (is_whole left) else false) (fails Code.Protocol c)
    (on (record c { phase = phase_behind c.ends; number = stream; last = stream; left = left; request = fs })) tt (inr (new, refl))

number_request : (c : ServingValue) (stream : ℕ) (fs : Option (List Line)) → c.number ≡ unopened
    → Numbers c.number stream (request_came c stream fs)
number_request c stream None new = tt
number_request c stream (Some fs) new =
    either c.number stream (is_request fs) (opened c stream fs (length_from None fs)) (fails Code.Protocol c)
    (number_opened c stream fs (length_from None fs) new) tt

number_trailers : (c : ServingValue) (stream : ℕ) (fs : Option (List Line)) → Numbers c.number stream (trailers_came c fs)
number_trailers c stream None = tt
number_trailers c stream (Some fs) =
    let last : Turn = if is_whole c.left then on (record c { phase = Closed }) else fails Code.Protocol c in
    let third : Turn = if not (are_plain fs) then fails Code.Protocol c else last in
    let second : Turn = if not c.ends then fails Code.Protocol c else third in
    let at_last : Numbers c.number stream last =
    either c.number stream (is_whole c.left) (on (record c { phase = Closed })) (fails Code.Protocol c) (inl refl) tt in
    let at_third : Numbers c.number stream third = either c.number stream (not (are_plain fs)) (fails Code.Protocol c) last tt at_last in
    let at_second : Numbers c.number stream second = either c.number stream (not c.ends) (fails Code.Protocol c) third tt at_third in
    either c.number stream (is_closed c.phase) (fails Code.StreamClosed c) second tt at_second

number_others : (c : ServingValue) (stream : ℕ) → Numbers c.number stream (others_came c stream)
number_others c stream =
    either c.number stream (nat_lt c.last stream) (on (record c { last = stream; refused = Some stream })) (on c) (inl refl) (inl refl)

fields_by : (c : ServingValue) (stream : ℕ) (fs : Option (List Line)) (b : Bool) → (c.number == unopened) ≡ b
    → Numbers c.number stream (if b then request_came c stream fs else if stream == c.number then trailers_came c fs else others_came c stream)
fields_by c stream fs true is = number_request c stream fs (eqb-true c.number unopened is)
fields_by c stream fs false is = either c.number stream (stream == c.number) (trailers_came c fs) (others_came c stream) (number_trailers c stream fs) (number_others c stream)

number_fields : (c : ServingValue) (stream : ℕ) (fs : Option (List Line)) → Numbers c.number stream (fields_came c stream fs)
number_fields c stream fs = fields_by c stream fs (c.number == unopened) refl

number_gathered : (c : ServingValue) (stream : ℕ) (g : Gathered) → Numbers c.number stream (gathered c stream g)
number_gathered c stream heavy = tt
number_gathered c stream part = inl refl
number_gathered c stream garbled = tt
number_gathered c stream (whole fs) = number_fields (record c { unfinished = 0 }) stream fs

-- a frame stays as it is, or it opens the call's stream as its own
abbrev pub NumbersBy : ℕ → List ℕ → Turn → Type 0
NumbersBy before frame (over o r) = Unit {0}
NumbersBy before frame (on c) = (c.number ≡ before) ⊎ ((before ≡ unopened) × (c.number ≡ stream_of frame) × IsStream (stream_of frame))

with_stream : (n : ℕ) (frame : List ℕ) (turn : Turn) → IsStream (stream_of frame) → Numbers n (stream_of frame) turn → NumbersBy n frame turn
with_stream n frame (over o r) is numbers = tt
with_stream n frame (on c) is (inl same) = inl same
with_stream n frame (on c) is (inr (new, number)) = inr (new, number, is)

-- the call's stream stays
abbrev Stays : ℕ → Turn → Type 0
Stays before (over o r) = Unit {0}
Stays before (on c) = c.number ≡ before

stays_by : (n : ℕ) (frame : List ℕ) (turn : Turn) → Stays n turn → NumbersBy n frame turn
stays_by n frame (over o r) stays = tt
stays_by n frame (on c) stays = inl stays

either_stays : (n : ℕ) (b : Bool) (x y : Turn) → Stays n x → Stays n y → Stays n (if b then x else y)
either_stays n true x y p q = p
either_stays n false x y p q = q

content_stays : (c : ServingValue) (ends : Bool) (o : Option (Option ℕ)) → Stays c.number (content_came c ends o)
content_stays c ends None = tt
content_stays c ends (Some left) =
    either_stays c.number (if ends then not (is_whole left) else false) (fails Code.Protocol c)
    (on (record c { phase = phase_behind ends; left = left })) tt refl

data_stays : (c : ServingValue) (frame : List ℕ) → Stays c.number (data_came c frame)
data_stays c frame =
    let left = without c.left (length (content_of frame)) in
    let inner : Turn = if is_closed c.phase then fails Code.StreamClosed c else content_came c (ends_stream frame) left in
    let at_inner : Stays c.number inner =
    either_stays c.number (is_closed c.phase) (fails Code.StreamClosed c) (content_came c (ends_stream frame) left) tt
    (content_stays c (ends_stream frame) left) in
    either_stays c.number (not (stream_of frame == c.number)) (on c) inner refl at_inner

reset_stays : (c : ServingValue) (frame : List ℕ) → Stays c.number (reset_came c frame)
reset_stays c frame =
    either_stays c.number (stream_of frame == c.number) (over (Reset (word_at (payload_of frame) 0)) (remains_of c)) (on c) tt refl

-- ---- where frames may be

abbrev placed_by : Bool → Bool → ℕ → Bool → Bool → Bool → Bool → Bool
placed_by silent rest kind ack even idle other =
    if silent then not (if kind == 4 then not ack else false)
    else if rest then (if kind == 9 then true else (if kind == 1 then even else if kind == 0 then idle else if kind == 3 then idle else if kind == 8 then idle else false))
    else if kind == 9 then other else true

placed_begins : (silent rest ack even idle other : Bool) → placed_by silent rest 1 ack even idle other ≡ false → even ≡ false
placed_begins true rest ack even idle other e = absurd (true≢false e)
placed_begins false true ack even idle other e = e
placed_begins false false ack even idle other e = absurd (true≢false e)

placed_data : (silent rest ack even idle other : Bool) → placed_by silent rest 0 ack even idle other ≡ false → idle ≡ false
placed_data true rest ack even idle other e = absurd (true≢false e)
placed_data false true ack even idle other e = e
placed_data false false ack even idle other e = absurd (true≢false e)

placed_update : (silent rest ack even idle other : Bool) → placed_by silent rest 8 ack even idle other ≡ false → idle ≡ false
placed_update true rest ack even idle other e = absurd (true≢false e)
placed_update false true ack even idle other e = e
placed_update false false ack even idle other e = absurd (true≢false e)

placed_at : (c : ServingValue) (frame : List ℕ) (kind : ℕ) → kind_of frame ≡ kind → is_misplaced c frame ≡ false
    → placed_by (is_silent c.phase) (c.unfinished == 0) kind (is_acknowledgement frame) ((stream_of frame % 2) == 0) (is_idle c (stream_of frame)) (not (stream_of frame == c.unfinished)) ≡ false
placed_at c frame kind is fine =
    sym (ap (λ (k : ℕ). placed_by (is_silent c.phase) (c.unfinished == 0) k (is_acknowledgement frame) ((stream_of frame % 2) == 0) (is_idle c (stream_of frame)) (not (stream_of frame == c.unfinished))) is) ∙ fine

begins_at : (c : ServingValue) (frame : List ℕ) → kind_of frame ≡ 1 → is_misplaced c frame ≡ false → ((stream_of frame % 2) == 0) ≡ false
begins_at c frame kind put =
    placed_begins (is_silent c.phase) (c.unfinished == 0) (is_acknowledgement frame) ((stream_of frame % 2) == 0) (is_idle c (stream_of frame)) (not (stream_of frame == c.unfinished))
    (placed_at c frame 1 kind put)

data_at : (c : ServingValue) (frame : List ℕ) → kind_of frame ≡ 0 → is_misplaced c frame ≡ false → is_idle c (stream_of frame) ≡ false
data_at c frame kind put =
    placed_data (is_silent c.phase) (c.unfinished == 0) (is_acknowledgement frame) ((stream_of frame % 2) == 0) (is_idle c (stream_of frame)) (not (stream_of frame == c.unfinished))
    (placed_at c frame 0 kind put)

update_at : (c : ServingValue) (frame : List ℕ) → kind_of frame ≡ 8 → is_misplaced c frame ≡ false → is_idle c (stream_of frame) ≡ false
update_at c frame kind put =
    placed_update (is_silent c.phase) (c.unfinished == 0) (is_acknowledgement frame) ((stream_of frame % 2) == 0) (is_idle c (stream_of frame)) (not (stream_of frame == c.unfinished))
    (placed_at c frame 8 kind put)

idle_by : (z n x : Bool) → (if z then false else if n then true else x) ≡ false → n ≡ true → z ≡ true
idle_by true n x e new = refl
idle_by false true x e new = absurd (true≢false e)
idle_by false false x e new = absurd (true≢false (sym new))

-- while no stream is live, a stream that is not idle is the connection
not_idle : (c : ServingValue) (stream : ℕ) → c.number ≡ unopened → is_idle c stream ≡ false → (stream == 0) ≡ true
not_idle c stream new e =
    idle_by (stream == 0) (c.number == unopened) (if (stream % 2) == 0 then true else nat_lt c.last stream) e (eq-eqb c.number unopened new)

not_even : (n : ℕ) → ((n % 2) == 0) ≡ false → 0 < n
not_even zero e = absurd (true≢false e)
not_even (suc n) e = omega arith

small : (frame : List ℕ) → stream_of frame < 2147483648
small frame = omega arith

on_by : (b : Bool) → wrong_continuation (not b) ≡ None → b ≡ false
on_by true e = absurd (none_some (sym e))
on_by false e = refl

not_zero : (n : ℕ) → (n == 0) ≡ false → 0 < n
not_zero zero e = absurd (true≢false e)
not_zero (suc n) e = omega arith

says_number : (c before : ServingValue) (frame : List ℕ) (turn : Turn) → fault_of_client frame ≡ None → is_misplaced before frame ≡ false
    → Says c frame turn → NumbersBy c.number frame turn
says_number c before frame turn fine put (content kind is) =
    subst (λ (t : Turn). NumbersBy c.number frame t) (sym is) (stays_by c.number frame (data_came c frame) (data_stays c frame))
says_number c before frame turn fine put (reset kind is) =
    subst (λ (t : Turn). NumbersBy c.number frame t) (sym is) (stays_by c.number frame (reset_came c frame) (reset_stays c frame))
says_number c before frame turn fine put (nothing a b d e is) = subst (λ (t : Turn). NumbersBy c.number frame t) (sym is) (inl refl)
says_number c before frame turn fine put (begins kind (g, b, gathers, is)) =
    let even = begins_at before frame kind put in
    let stream : IsStream (stream_of frame) = (not_even (stream_of frame) even, small frame) in
    subst (λ (t : Turn). NumbersBy c.number frame t) (sym is)
    (with_stream c.number frame (gathered (record (begun c frame) { block = b }) (stream_of frame) g) stream
    (number_gathered (record (begun c frame) { block = b }) (stream_of frame) g))
says_number c before frame turn fine put (continues kind (g, b, gathers, is)) =
    let known : wrong_continuation (not (stream_of frame == 0)) ≡ None =
    sym (ap (λ (k : ℕ). wrong_by 1 k (flags_of frame) (not (stream_of frame == 0)) (payload_of frame)) kind) ∙ fine in
    let stream : IsStream (stream_of frame) = (not_zero (stream_of frame) (on_by (stream_of frame == 0) known), small frame) in
    subst (λ (t : Turn). NumbersBy c.number frame t) (sym is)
    (with_stream c.number frame (gathered (record c { block = b }) (stream_of frame) g) stream
    (number_gathered (record c { block = b }) (stream_of frame) g))

-- the call's stream stays, or the frame opens it
pub takes_number : (c : ServingValue) (frame : List ℕ) (turn : Turn) → Takes c frame turn → NumbersBy c.number frame turn
takes_number c frame turn (faulty f fault is) = subst (λ (t : Turn). NumbersBy c.number frame t) (sym is) tt
takes_number c frame turn (misplaced fine put is) = subst (λ (t : Turn). NumbersBy c.number frame t) (sym is) tt
takes_number c frame turn (placed fine put says) = says_number (settled c) c frame turn fine put says

abbrev is_on : Turn → Bool
is_on (on c) = true
is_on (over o r) = false

-- before it is live, no frame is on it
pub takes_quiet : (c next : ServingValue) (frame : List ℕ) → c.number ≡ unopened → Takes c frame (on next) → IsQuiet frame
takes_quiet c next frame new (faulty f fault is) = absurd (true≢false (ap (λ (t : Turn). is_on t) is))
takes_quiet c next frame new (misplaced fine put is) = absurd (true≢false (ap (λ (t : Turn). is_on t) is))
takes_quiet c next frame new (placed fine put says) = (
  λ zero.
      let none = not_idle c (stream_of frame) new (data_at c frame zero put) in
      none_some (sym fine ∙ ap₂ (λ (k : ℕ) (b : Bool). wrong_by 1 k (flags_of frame) (not b) (payload_of frame)) zero none),
  λ eight. eqb-true (stream_of frame) 0 (not_idle c (stream_of frame) new (update_at c frame eight put)),
)
