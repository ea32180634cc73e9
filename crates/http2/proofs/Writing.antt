-- What each frame that a server of unary calls writes is.
use Rattle.std.proofs.Common.{◌≡◌, ◌≢◌, ◌≤◌, ◌<◌, ℕ, ◌+◌, ◌==◌, if◌then◌else◌, Bool, true, false, List, length, refl, sym, ap, ap₂, ◌∙◌, subst, arith}
use Rattle.std.proofs.lemmas.List.{length-drop}
use Rattle.hpack.specs.Field.{Line as HeaderLine}
use Rattle.hpack.specs.Table.{Table}
use Rattle.hpack.specs.Block.{Means}
use Rattle.http2.specs.Frame.{IsFrame, Parts, parts_of, kind_of, flags_of, stream_of, payload_of, size_of, word_at, flow_of, increment_of}
use Rattle.http2.specs.Trail.{is_reply}
use Rattle.http2.specs.Served.{is_answer}
use Rattle.http2.specs.Servers.{Heads}
use Rattle.http2.specs.Streams.{find}
use Rattle.http2.specs.Exchange.{ExchangeValue, beside}
use Rattle.http2.specs.Exchanged.{can_begin, can_end, room_on, changed, headed, charged, closed, Puts, fields, content, trailers, window}
use Rattle.http2.proofs.Calls.{other_reply}
use Rattle.http2.proofs.Frames.{plain_flow, this_increment}
use Rattle.http2.proofs.Serves.{no_answer}

-- a frame of another type answers none
pub quiet_of : (frame : List ℕ) (kind : ℕ) → kind_of frame ≡ kind → kind ≢ 3 → kind ≢ 4 → kind ≢ 6 → is_answer frame ≡ false
quiet_of frame kind is three four six = no_answer frame kind is three (other_reply frame kind is four six)

-- the parts of a frame that was written
module _ (frame payload : List ℕ) (kind flags stream : ℕ)
    (are : parts_of frame ≡ record { kind = kind; flags = flags; stream = stream; payload = payload }) where
  pub kind_is : kind_of frame ≡ kind
  kind_is = ap (λ (p : Parts). p.kind) are

  pub flags_is : flags_of frame ≡ flags
  flags_is = ap (λ (p : Parts). p.flags) are

  pub stream_is : stream_of frame ≡ stream
  stream_is = ap (λ (p : Parts). p.stream) are

  pub payload_is : payload_of frame ≡ payload
  payload_is = ap (λ (p : Parts). p.payload) are

-- the parts of a frame whose head is of these values
pub parts_as : (frame payload : List ℕ) (k f s kind flags stream : ℕ) → k ≡ kind → f ≡ flags → s ≡ stream
    → parts_of frame ≡ record { kind = k; flags = f; stream = s; payload = payload }
    → parts_of frame ≡ record { kind = kind; flags = flags; stream = stream; payload = payload }
parts_as frame payload k f s kind flags stream kind_same flags_same stream_same are =
    are ∙ ap (λ (n : ℕ). record { kind = n; flags = f; stream = s; payload = payload }) kind_same
    ∙ ap (λ (n : ℕ). record { kind = kind; flags = n; stream = s; payload = payload }) flags_same
    ∙ ap (λ (n : ℕ). record { kind = kind; flags = flags; stream = n; payload = payload }) stream_same

-- what acknowledges is an answer
answer_by : (b : Bool) (frame : List ℕ) → is_reply frame ≡ true → (if b then true else is_reply frame) ≡ true
answer_by true frame is = refl
answer_by false frame is = is

pub reply_answers : (frame : List ℕ) → is_reply frame ≡ true → is_answer frame ≡ true
reply_answers frame is = answer_by (kind_of frame == 3) frame is

-- a window that is given back
pub window_puts : (c after : ExchangeValue) (frame payload : List ℕ) (count : ℕ) → IsFrame frame
    → parts_of frame ≡ record { kind = 8; flags = 0; stream = 0; payload = payload } → length payload ≡ 4 → word_at payload 0 ≡ count
    → 0 < count → count < 2147483648 → c.credit + count ≤ 1048581 → after ≡ record c { credit = c.credit + count } → Puts c frame after
window_puts c after frame payload count is are four word some few within same =
    let kind : kind_of frame ≡ 8 = kind_is frame payload 8 0 0 are in
    let on : stream_of frame ≡ 0 = stream_is frame payload 8 0 0 are in
    let whole : payload_of frame ≡ payload = payload_is frame payload 8 0 0 are in
    let long : length (payload_of frame) ≡ 4 = ap (λ (p : List ℕ). length p) whole ∙ four in
    let short = length-drop 9 frame in
    let size : size_of frame ≡ 4 = omega (arith, is.whole, long, short) in
    let given : increment_of 0 frame ≡ count =
    this_increment 0 frame count kind on size (ap (λ (p : List ℕ). word_at p 0) whole ∙ word) few in
    window (omega (arith, some, given)) kind (flags_is frame payload 8 0 0 are) on (omega (arith, given, within))
    (same ∙ ap (λ (n : ℕ). record c { credit = c.credit + n }) (sym given))

-- the fields that begin an answer
pub fields_puts : (c after : ExchangeValue) (frame block : List ℕ) (stream : ℕ)
    → parts_of frame ≡ record { kind = 1; flags = 4; stream = stream; payload = block } → can_begin (find stream c.streams) ≡ true
    → after ≡ changed headed (beside c stream) (find stream c.streams) → Puts c frame after
fields_puts c after frame block stream are can same =
    let on : stream ≡ stream_of frame = sym (stream_is frame block 1 4 stream are) in
    fields (subst (λ (n : ℕ). can_begin (find n c.streams) ≡ true) on can) (kind_is frame block 1 4 stream are)
    (flags_is frame block 1 4 stream are) (same ∙ ap (λ (n : ℕ). changed headed (beside c n) (find n c.streams)) on)

-- content of an answer
pub content_puts : (c after : ExchangeValue) (frame octets : List ℕ) (stream : ℕ)
    → parts_of frame ≡ record { kind = 0; flags = 0; stream = stream; payload = octets }
    → 0 < length octets → length octets ≤ room_on c (find stream c.streams)
    → after ≡ record (changed (charged (length octets)) (beside c stream) (find stream c.streams)) { used = c.used + length octets }
    → Puts c frame after
content_puts c after frame octets stream are some within same =
    let on : stream ≡ stream_of frame = sym (stream_is frame octets 0 0 stream are) in
    let kind : kind_of frame ≡ 0 = kind_is frame octets 0 0 stream are in
    let flow : length octets ≡ flow_of frame = sym (plain_flow frame octets kind (payload_is frame octets 0 0 stream are)) in
    content (subst (λ (n : ℕ). 0 < n) flow some) (subst (λ (n : ℕ). n ≤ room_on c (find (stream_of frame) c.streams)) flow
    (subst (λ (n : ℕ). length octets ≤ room_on c (find n c.streams)) on within)) kind (flags_is frame octets 0 0 stream are)
    (same ∙ ap₂ (λ (n k : ℕ). record (changed (charged k) (beside c n) (find n c.streams)) { used = c.used + k }) on flow)

-- the fields that end an answer
pub trailers_puts : (c after : ExchangeValue) (frame block : List ℕ) (stream : ℕ)
    → parts_of frame ≡ record { kind = 1; flags = 5; stream = stream; payload = block } → can_end (find stream c.streams) ≡ true
    → after ≡ closed c stream → Puts c frame after
trailers_puts c after frame block stream are can same =
    let on : stream ≡ stream_of frame = sym (stream_is frame block 1 5 stream are) in
    trailers (subst (λ (n : ℕ). can_end (find n c.streams) ≡ true) on can) (kind_is frame block 1 5 stream are)
    (flags_is frame block 1 5 stream are) (same ∙ ap (λ (n : ℕ). closed c n) on)

-- a frame that has fields
pub heads_of : (stream flags : ℕ) (fs : List HeaderLine) (frame block : List ℕ)
    → parts_of frame ≡ record { kind = 1; flags = flags; stream = stream; payload = block }
    → ((most : ℕ) (table : Table) → Means most false table block fs table) → Heads stream flags fs frame
heads_of stream flags fs frame block are means = record {
  kind = kind_is frame block 1 flags stream are;
  flags_are = flags_is frame block 1 flags stream are;
  on_stream = stream_is frame block 1 flags stream are;
  means = λ most table. subst (λ (b : List ℕ). Means most false table b fs table) (sym (payload_is frame block 1 flags stream are)) (means most table);
}
