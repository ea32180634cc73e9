-- The lines of a record are read back as its events.
use Rattle.std.proofs.Common.{◌≡◌, ◌≢◌, ◌<◌, ◌^◌, ℕ, true, List, [], ◌∷◌, ◌++◌, Option, Some, None, IsUtf8, inl, inr, append_assoc, map, refl, sym, ap, ap₂, ◌∙◌, codes}
use Rattle.std.proofs.lemmas.Str.{IsUtf8-append, IsUtf8-from_ascii}
use Rattle.std.specs.Io.BufRead.{drop_through, take_through}
use Rattle.std.specs.List.{AllByRecursion, flat_map}
use Rattle.ads.specs.Config.{ConfigValue}
use Rattle.hex.specs.Hex.{encode_lower}
use Rattle.hex.proofs.HexLemmas.{decode_of-encode_lower}
use Rattle.json.proofs.Printed.Utf8.{IsUtf8-are_ascii}
use Rattle.proxy_core.specs.Events.{EventValue, ads_up, ads_bytes, ads_lost, http_open, http_bytes, http_closed}
use Rattle.proxy_core.specs.Step.{EventCall, event_of}
use Rattle.serde_json.specs.Data.{Data}
use Rattle.program_texts.specs.InputLines.{AreLines}
use Rattle.program_texts.proofs.FactLines.{facts_plain, hex_text_utf8}
use Rattle.program_texts.proofs.JsonBytes.{first_line, text_no_feed, text_utf8}
use Rattle.program_texts.proofs.JsonLines.{IsPlain, reads_line}
use Rattle.program_texts.proofs.WrittenFacts.{facts_read_back}
use Rattle.serve_log.specs.Lines.{IsRecordable, event_json, event_line, event_text, file_of}
use Rattle.proxy_replay.specs.Lines.{IsEvent, IsLine, kind_of, name_of}
use Rattle.proxy_replay.specs.Records.{AnswersEvents}
use Rattle.proxy_replay.specs.Replays.{AreCallThen, AreCallsOf, IsLineText, IsReplayed, seen_by}
use Rattle.proxy_replay.proofs.LineLaws.{one_line}

-- ---- one line

name_utf8 : (kind : EventValue) → IsUtf8 (name_of (kind_of kind))
name_utf8 ads_up = IsUtf8-are_ascii (codes "ads_up") refl
name_utf8 (ads_bytes bytes) = IsUtf8-are_ascii (codes "ads_bytes") refl
name_utf8 ads_lost = IsUtf8-are_ascii (codes "ads_lost") refl
name_utf8 (http_open k facts) = IsUtf8-are_ascii (codes "http_open") refl
name_utf8 (http_bytes k bytes) = IsUtf8-are_ascii (codes "http_bytes") refl
name_utf8 (http_closed k) = IsUtf8-are_ascii (codes "http_closed") refl

event_utf8 : IsUtf8 (codes "event")
event_utf8 = IsUtf8-are_ascii (codes "event") refl

hex_name_utf8 : IsUtf8 (codes "hex")
hex_name_utf8 = IsUtf8-are_ascii (codes "hex") refl

k_utf8 : IsUtf8 (codes "k")
k_utf8 = IsUtf8-are_ascii (codes "k") refl

facts_utf8 : IsUtf8 (codes "facts")
facts_utf8 = IsUtf8-are_ascii (codes "facts") refl

-- the object of an event is read back from its line
plain_event : (event : EventValue) → IsRecordable event → IsPlain 127 (event_json event)
plain_event ads_up h = (event_utf8, name_utf8 ads_up, tt, tt)
plain_event (ads_bytes bytes) h =
    (event_utf8, name_utf8 (ads_bytes bytes), (refl, tt), (hex_name_utf8, hex_text_utf8 bytes, tt, tt))
plain_event ads_lost h = (event_utf8, name_utf8 ads_lost, tt, tt)
plain_event (http_open k facts) h = (
  event_utf8,
  name_utf8 (http_open k facts),
  (refl, (refl, tt)),
  (facts_utf8, facts_plain facts h.1 125, (refl, tt), (k_utf8, h.0, tt, tt)),
)
plain_event (http_bytes k bytes) h = (
  event_utf8,
  name_utf8 (http_bytes k bytes),
  (refl, (refl, tt)),
  (hex_name_utf8, hex_text_utf8 bytes, (refl, tt), (k_utf8, h.0, tt, tt)),
)
plain_event (http_closed k) h = (event_utf8, name_utf8 (http_closed k), (refl, tt), (k_utf8, h, tt, tt))

-- the object of an event is this event
is_event : (event : EventValue) → IsRecordable event → IsEvent (event_json event) event
is_event ads_up h = record { name = refl; names = (_, refl, (inl refl, tt)); parts = tt }
is_event (ads_bytes bytes) h = record {
  name = refl;
  names = (_, refl, (inl refl, (inr (inl refl), tt)));
  parts = (encode_lower bytes, refl, decode_of-encode_lower bytes h);
}
is_event ads_lost h = record { name = refl; names = (_, refl, (inl refl, tt)); parts = tt }
is_event (http_open k facts) h = record {
  name = refl;
  names = (_, refl, (inl refl, (inr (inr (inl refl)), (inr (inl refl), tt))));
  parts = (refl, (_, refl, facts_read_back facts h.1 h.2));
}
is_event (http_bytes k bytes) h = record {
  name = refl;
  names = (_, refl, (inl refl, (inr (inr (inl refl)), (inr (inl refl), tt))));
  parts = (refl, (encode_lower bytes, refl, decode_of-encode_lower bytes h.1));
}
is_event (http_closed k) h = record {
  name = refl;
  names = (_, refl, (inl refl, (inr (inl refl), tt)));
  parts = refl;
}

-- the line of an event is read as the event
pub line_reads_back : (event : EventValue) → IsRecordable event → IsLineText (event_line event) event
line_reads_back event h =
    let plain = plain_event event h in (
      IsUtf8-append (event_text event) (10 ∷ []) (text_utf8 127 (event_json event) plain) (IsUtf8-are_ascii (10 ∷ []) refl),
      (event_json event, reads_line (event_json event) plain, is_event event h),
    )

-- ---- a whole file

not_empty : (text rest : List ℕ) → text ++ 10 ∷ rest ≢ []
not_empty [] rest e = cc
not_empty (x ∷ xs) rest e = cc

-- the lines of events are those of their file
pub are_lines : (events : List EventValue) → AllByRecursion IsRecordable events → AreLines (file_of events) (map event_line events) []
are_lines [] h = refl
are_lines (event ∷ events) h =
    let cut = first_line (event_text event) (file_of events) (text_no_feed 127 (event_json event) (plain_event event h.0)) in
    let whole : file_of (event ∷ events) ≡ event_text event ++ 10 ∷ file_of events =
    append_assoc (event_text event) (10 ∷ []) (file_of events) in
    rw whole (not_empty (event_text event) (file_of events), sym cut.0, rw cut.1 (are_lines events h.1))

-- what calls are of lines of events is a call of each event, in order
pub calls_of_lines : (events : List EventValue) (calls : List EventCall) → AllByRecursion IsRecordable events
    → AreCallsOf None (map event_line events) calls → map event_of calls ≡ events
calls_of_lines [] calls h are = rw are refl
calls_of_lines (event ∷ events) calls h (other, reads, (more, (call, is_of, is), rest)) =
    let same : other ≡ event = one_line (event_line event) other event reads.1 (line_reads_back event h.0).1 in
    rw is (ap₂ (λ e es. e ∷ es) (is_of ∙ same) (calls_of_lines events more h.1 rest))

-- the lines of events have calls of these events
pub lines_have_calls : (events : List EventValue) (calls : List EventCall) → AllByRecursion IsRecordable events
    → map event_of calls ≡ events → AreCallsOf None (map event_line events) calls
lines_have_calls events [] h is = rw (sym is) refl
lines_have_calls [] (call ∷ calls) h is = absurd (let clash = is in cc)
lines_have_calls (event ∷ events) (call ∷ calls) h is =
    let first : event_of call ≡ event = cc in
    let rest : map event_of calls ≡ events = cc in
    (event, line_reads_back event h.0, (calls, (call, first, refl), lines_have_calls events calls h.1 rest))

-- bytes have one list of lines
one_lines : (bytes : List ℕ) (a b : List (List ℕ)) → AreLines bytes a [] → AreLines bytes b [] → a ≡ b
one_lines bytes [] [] h k = refl
one_lines bytes [] (line ∷ lines) h k = absurd (k.0 (sym h))
one_lines bytes (line ∷ lines) [] h k = absurd (h.0 (sym k))
one_lines bytes (x ∷ xs) (y ∷ ys) h k =
    ap₂ (λ l ls. l ∷ ls) (h.1 ∙ sym k.1) (one_lines (drop_through 10 bytes) xs ys h.2 k.2)

-- a replay of a file of events is a run of the core on the events
pub replay_takes_events : (config : ConfigValue) (events : List EventValue) (out input_new out_new : Option (List ℕ))
    → AllByRecursion IsRecordable events → IsReplayed config None (Some (file_of events)) out input_new out_new
    → AnswersEvents config events out out_new
replay_takes_events config events out input_new out_new h done =
    let read = done.replayed.read in
    let left : read.0 ≡ [] = (let e : Some read.0 ≡ Some [] = sym read.1 ∙ done.end in cc) in
    let lines : done.lines ≡ map event_line events =
    one_lines (file_of events) done.lines (map event_line events) (rw left at read.2) (are_lines events h) in
    record {
      calls = done.calls;
      after = done.after;
      taken = calls_of_lines events done.calls h (rw lines at done.replayed.replays.reported);
      done = done.replayed.replays.done;
      printed = done.replayed.printed;
    }
