-- One call more of a pump.
use Rattle.std.proofs.Common.{◌≡◌, ◌≢◌, ◌+◌, ◌++◌, ◌∙◌, ℕ, Bool, false, List, [], ◌∷◌, None, Option, Result, Ok, Err, IfOk, IsOk, ap, append-nil, append_assoc, arith, inl, inr, length, length-append, map, refl, sym, take}
use Rattle.std.specs.declared.alloc.AllocError.{AllocError}
use Rattle.std.proofs.lemmas.List.{map-append}
use Rattle.std.proofs.Math.Seq.{take-append-add}
use Rattle.std.proofs.KnownBytes.{Appends-nil, Appends-trans, Consumes-nil}
use Rattle.std.proofs.lemmas.Bool.{false≢true}
use Rattle.std.specs.List.{AllByRecursion}
use Rattle.std.specs.Io.KnownBytes.{Appends}
use Rattle.proxy_core.specs.Step.{CallDoes, CallsDo, EventCall, ProxyValue, StepsBy, with_client, with_conn, event_of}
use Rattle.ads.specs.Client.{stream_down}
use Rattle.attributes.specs.Conn.{Facts}
use Rattle.proxy_core.specs.Events.{EventValue, OutputValue, ads_lost, http_closed, http_open, output_view}
use Rattle.proxy_core.specs.declared.event.Output.{Output}
use Rattle.program_texts.specs.Output.{Takes}
use Rattle.stream_pumps.specs.Pumps.{AllButLast, ReceivesConnection, LastIs, WrittenInTurn, http_of, joined}
use Rattle.stream_pumps.specs.declared.pumps.EventResult.{EventResult}
use Rattle.stream_pumps.specs.declared.pumps.EventResult.TheVariants as turns
use Rattle.stream_pumps.specs.private.Pumping.{IsResultOf}

pub joined_more : (chunks : List (List ℕ)) (chunk : List ℕ) → joined (chunks ++ chunk ∷ []) ≡ joined chunks ++ chunk
joined_more [] chunk = append-nil chunk
joined_more (first ∷ chunks) chunk =
    ap (λ rest. first ++ rest) (joined_more chunks chunk) ∙ sym (append_assoc first (joined chunks) chunk)

-- what is made of each, and of one more, joined
pub joined_of_more : {X : Type 0} (f : X → List ℕ) (calls : List X) (call : X)
    → joined (map f (calls ++ call ∷ [])) ≡ joined (map f calls) ++ f call
joined_of_more f calls call = rw (map-append f calls (call ∷ [])) (joined_more (map f calls) (f call))

-- a step that is sure to be answered
step_sure : (r : Result Output AllocError) (old new : ProxyValue) (event : EventValue)
    → IfOk r (λ out. StepsBy old event (output_view out) new) → IsOk r → (out : OutputValue) × StepsBy old event out new
step_sure (Ok out) old new event found sure = (output_view out, found)
step_sure (Err e) old new event found sure = absurd (false≢true sure)

-- the loss of the update stream is sure to be reported, and the closing of a connection
pub loss_reported : (r : Result Output AllocError) (old new : ProxyValue)
    → IfOk r (λ out. StepsBy old ads_lost (output_view out) new) → IsOk r → new ≡ with_client old (stream_down old.client)
loss_reported r old new found sure = (step_sure r old new ads_lost found sure).1.1

pub closing_reported : (r : Result Output AllocError) (old new : ProxyValue)
    → IfOk r (λ out. StepsBy old (http_closed 0) (output_view out) new) → IsOk r → new ≡ with_conn old 0 None
closing_reported r old new found sure = (step_sure r old new (http_closed 0) found sure).1.1

module _ (old new : ProxyValue) (input input_new out out_new : Option (List ℕ)) (facts : Facts) where
  -- the opening alone
  pub received_opening : (call : EventCall) → event_of call ≡ http_open 0 facts → CallDoes old call new
      → input_new ≡ input → Takes out out_new (http_of call) → ReceivesConnection old new input input_new out out_new facts
  received_opening call given does same written = record {
    chunks = [];
    calls = call ∷ [];
    done = (new, does, refl);
    events = ap (λ e. e ∷ []) given;
    is_open = tt;
    read = rw same (Consumes-nil input);
    written = written;
  }

-- events of one call more
pub events_more : (Event : List ℕ → EventValue) (before : List EventValue) (calls : List EventCall) (chunks : List (List ℕ))
    (call : EventCall) (chunk : List ℕ) → map event_of calls ≡ before ++ map Event chunks → event_of call ≡ Event chunk
    → map event_of (calls ++ call ∷ []) ≡ before ++ map Event (chunks ++ chunk ∷ [])
events_more Event before calls chunks call chunk so_far given =
    map-append event_of calls (call ∷ [])
    ∙ rw (so_far, given, map-append Event chunks (chunk ∷ [])) (append_assoc before (map Event chunks) (Event chunk ∷ []))

-- one call more
pub calls_more : (a b c : ProxyValue) (calls : List EventCall) (call : EventCall) → CallsDo a calls b → CallDoes b call c
    → CallsDo a (calls ++ call ∷ []) c
calls_more a b c [] call done does = (c, rw done at does, refl)
calls_more a b c (first ∷ calls) call (next, here, rest) does = (next, here, calls_more next b c calls call rest does)

-- what is written of one text more
pub takes_more : (out now next : Option (List ℕ)) (text more : List ℕ) → Appends out now text → Takes now next more
    → Takes out next (text ++ more)
takes_more out now next text more so_far (inl appends) = inl (Appends-trans out now next text more so_far appends)
takes_more out now next text more so_far (inr (n, fewer, part)) = inr (
  length text + n,
  rw (length-append text more) (omega (arith, fewer)),
  rw (take-append-add text more n) (Appends-trans out now next text (take n more) so_far part),
)

-- each is such, and one more is
pub all_more : {X : Type 0} (P : X → Type 0) (calls : List X) (call : X) → AllByRecursion P calls → P call
    → AllByRecursion P (calls ++ call ∷ [])
all_more P [] call all last = (last, tt)
all_more P (first ∷ calls) call (here, rest) last = (here, all_more P calls call rest last)

-- each is such but one more, which comes last
pub but_last_more : {X : Type 0} (P : X → Type 0) (calls : List X) (call : X) → AllByRecursion P calls
    → AllButLast P (calls ++ call ∷ [])
but_last_more P [] call all = tt
but_last_more P (first ∷ []) call (here, rest) = (here, tt)
but_last_more P (first ∷ next ∷ calls) call (here, rest) = (here, but_last_more P (next ∷ calls) call rest)

-- all are such, so all but the last are
pub all_but_last : {X : Type 0} (P : X → Type 0) (calls : List X) → AllByRecursion P calls → AllButLast P calls
all_but_last P [] all = tt
all_but_last P (first ∷ []) all = tt
all_but_last P (first ∷ next ∷ calls) (here, rest) = (here, all_but_last P (next ∷ calls) rest)

-- the one more is the last
pub last_more : {X : Type 0} (P : X → Type 0) (calls : List X) (call : X) → P call → LastIs P (calls ++ call ∷ [])
last_more P [] call last = last
last_more P (first ∷ []) call last = last
last_more P (first ∷ next ∷ calls) call last = last_more P (next ∷ calls) call last

-- texts were written in order, each whole
abbrev pub WrittenWhole : Option (List ℕ) → Option (List ℕ) → List (List ℕ) → Type 0
WrittenWhole out now [] = Appends out now []
WrittenWhole out now (text ∷ texts) = (between : Option (List ℕ)) × Appends out between text × WrittenWhole between now texts

pub whole_more : (out now next : Option (List ℕ)) (texts : List (List ℕ)) (text : List ℕ) → WrittenWhole out now texts
    → Appends now next text → WrittenWhole out next (texts ++ text ∷ [])
whole_more out now next [] text so_far more = (next, Appends-trans out now next [] text so_far more, Appends-nil next)
whole_more out now next (first ∷ texts) text (between, here, rest) more =
    (between, here, whole_more between now next texts text rest more)

pub in_turn_more : (out now next : Option (List ℕ)) (texts : List (List ℕ)) (text : List ℕ) → WrittenWhole out now texts
    → Takes now next text → WrittenInTurn out next (texts ++ text ∷ [])
in_turn_more out now next [] text so_far more = takes_more out now next [] text so_far more
in_turn_more out now next (first ∷ []) text (between, here, rest) more =
    (between, here, in_turn_more between now next [] text rest more)
in_turn_more out now next (first ∷ second ∷ texts) text (between, here, rest) more =
    (between, here, in_turn_more between now next (second ∷ texts) text rest more)

pub whole_in_turn : (out now : Option (List ℕ)) (texts : List (List ℕ)) → WrittenWhole out now texts
    → WrittenInTurn out now texts
whole_in_turn out now [] whole = whole
whole_in_turn out now (text ∷ []) (between, here, rest) =
    inl (rw append-nil at (Appends-trans out between now text [] here rest))
whole_in_turn out now (text ∷ next ∷ texts) (between, here, rest) =
    (between, here, whole_in_turn between now (next ∷ texts) rest)

pub whole_joined : (out now : Option (List ℕ)) (texts : List (List ℕ)) → WrittenWhole out now texts
    → Appends out now (joined texts)
whole_joined out now [] whole = whole
whole_joined out now (text ∷ texts) (between, here, rest) =
    Appends-trans out between now text (joined texts) here (whole_joined between now texts rest)

-- a turn that is no end leaves the stream or the connection open
pub stays_open : (written : List ℕ) (closes : Bool) (turn : EventResult) → IsResultOf written closes turn → turn ≢ turns.Ended
    → closes ≡ false
stays_open written closes turns.Ended is not_ended = absurd (not_ended refl)
stays_open written closes turns.Waits is not_ended = is.0
stays_open written closes turns.Answered is not_ended = is.0

pub turn_waits : (written : List ℕ) (closes : Bool) (turn : EventResult) → IsResultOf written closes turn → turn ≡ turns.Waits
    → (closes ≡ false) × (written ≡ [])
turn_waits written closes turns.Ended is same = (let clash = same in cc)
turn_waits written closes turns.Waits is same = is
turn_waits written closes turns.Answered is same = (let clash = same in cc)

pub turn_responds : (written : List ℕ) (closes : Bool) (turn : EventResult) → IsResultOf written closes turn → turn ≡ turns.Answered
    → (closes ≡ false) × (written ≢ [])
turn_responds written closes turns.Ended is same = (let clash = same in cc)
turn_responds written closes turns.Waits is same = (let clash = same in cc)
turn_responds written closes turns.Answered is same = is
