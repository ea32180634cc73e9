-- One line more of a replay.
use Rattle.std.proofs.Common.{◌≡◌, ◌≢◌, ◌++◌, ◌+◌, ◌∙◌, ℕ, List, [], ◌∷◌, Option, Some, None, ap, append_assoc, append-nil, length, refl, sym}
use Rattle.std.proofs.KnownBytes.{Appends-nil, Appends-trans}
use Rattle.std.specs.Prelude.{IfSome}
use Rattle.std.specs.Io.KnownBytes.{Appends}
use Rattle.ads.specs.Config.{ConfigValue}
use Rattle.proxy_core.specs.Events.{EventValue}
use Rattle.proxy_core.specs.Step.{CallsDo, EventCall, ProxyValue, new_proxy, event_of}
use Rattle.proxy_replay.specs.Replays.{AreCallThen, AreCallsOf, IsLineText, IsReplayed, Replayed, StopsBy, answer_line, printed_of, seen_by}
use Rattle.program_texts.specs.InputLines.{AreLines, ReadsLine}
use Rattle.program_texts.proofs.LineLemmas.{end_of, read_at_end, read_more}
use Rattle.program_texts.specs.declared.replay_fault.ReplayFault.{ReplayFault}
use Rattle.program_texts.specs.declared.replay_fault.ReplayFault.TheVariants as faults
use Rattle.proxy_replay.specs.private.Replaying.{IsSomeLine, TurnStops}
use Rattle.program_texts.specs.InputLines.{IsReadingFault}

-- what is printed of more calls
printed_more : (calls more : List EventCall) → printed_of (calls ++ more) ≡ printed_of calls ++ printed_of more
printed_more [] more = refl
printed_more (first ∷ calls) more =
    ap (λ rest. answer_line first ++ rest) (printed_more calls more)
    ∙ sym (append_assoc (answer_line first) (printed_of calls) (printed_of more))

-- more calls
calls_then : (a b c : ProxyValue) (calls more : List EventCall) → CallsDo a calls b → CallsDo b more c
    → CallsDo a (calls ++ more) c
calls_then a b c [] more done does = rw done at does
calls_then a b c (first ∷ calls) more (next, here, rest) does = (next, here, calls_then next b c calls more rest does)

-- the calls of an event and of lines, with more behind them
then_more : (event : Option EventValue) (calls rest more : List EventCall) → AreCallThen event calls rest
    → AreCallThen event (calls ++ more) (rest ++ more)
then_more None calls rest more is = ap (λ l. l ++ more) is
then_more (Some event) calls rest more (call, of, is) = (call, of, ap (λ l. l ++ more) is)

-- the call of one line, whose event is seen
pub seen_one : (only : Option ℕ) (line : List ℕ) (event seen : EventValue) (call : EventCall) → IsLineText line event
    → seen_by only event ≡ Some seen → event_of call ≡ seen → AreCallsOf only (line ∷ []) (call ∷ [])
seen_one only line event seen call reported is of = (event, reported, ([], rw is (call, of, refl), refl))

-- the calls of one line more
reported_more : (only : Option ℕ) (lines : List (List ℕ)) (calls : List EventCall) (line : List ℕ) (more : List EventCall)
    → AreCallsOf only lines calls → AreCallsOf only (line ∷ []) more → AreCallsOf only (lines ++ line ∷ []) (calls ++ more)
reported_more only [] calls line more none here = rw none here
reported_more only (first ∷ lines) calls line more (event, is, (rest, calls_are, are)) here =
    (event, is, (rest ++ more, then_more (seen_by only event) calls rest more calls_are, reported_more only lines rest line more are here))

module _ (config : ConfigValue) (only : Option ℕ) (input out : Option (List ℕ)) where
  pub replayed_more : (lines : List (List ℕ)) (calls : List EventCall) (old new : ProxyValue)
      (now next out_now out_next : Option (List ℕ)) (line : List ℕ) (more : List EventCall)
      → Replayed config only input out lines calls old now out_now → ReadsLine now line next
      → AreCallsOf only (line ∷ []) more → CallsDo old more new → Appends out_now out_next (printed_of more)
      → Replayed config only input out (lines ++ line ∷ []) (calls ++ more) new next out_next
  replayed_more lines calls old new now next out_now out_next line more so_far reads reported does prints = record {
    replays = record {
      reported = reported_more only lines calls line more so_far.replays.reported reported;
      done = calls_then _ old new calls more so_far.replays.done does;
    };
    read = read_more input now next lines line so_far.read reads;
    printed = rw (printed_more calls more) (Appends-trans _ _ _ (printed_of calls) (printed_of more) so_far.printed prints);
  }

  -- before the first line
  pub replayed_none : (first : ProxyValue) → first ≡ new_proxy config → Replayed config only input out [] [] first input out
  replayed_none first is = record {
    replays = record { reported = refl; done = is };
    read = at_first input;
    printed = Appends-nil out;
  }
    where
      at_first : (known : Option (List ℕ))
          → IfSome known (λ bytes. (left : List ℕ) × (known ≡ Some left) × AreLines bytes [] left)
      at_first None = tt
      at_first (Some bytes) = (bytes, refl, refl)

-- a replay whose input is at its end
pub replayed_end : (config : ConfigValue) (only : Option ℕ) (input out : Option (List ℕ)) (lines : List (List ℕ)) (calls : List EventCall)
    (after : ProxyValue) (now next out_now : Option (List ℕ)) → Replayed config only input out lines calls after now out_now
    → IsSomeLine None now next → IsReplayed config only input out next out_now
replayed_end config only input out lines calls after now next out_now so_far end = record {
  lines = lines;
  calls = calls;
  after = after;
  replayed = record {
    replays = so_far.replays;
    read = read_at_end input now next (λ bytes left. AreLines bytes lines left) so_far.read end;
    printed = so_far.printed;
  };
  end = end_of input now next (λ bytes left. AreLines bytes lines left) so_far.read end;
}

-- what stops the answering of a line stops the replay
pub stops_of : (config : ConfigValue) (only : Option ℕ) (input out : Option (List ℕ)) (e : ReplayFault) (number : ℕ)
    (line : List ℕ) (lines : List (List ℕ)) (after : ProxyValue) (input_then input_new out_then out_new : Option (List ℕ)) → ReadsLine input_then line input_new
    → number ≡ length lines + 1 → TurnStops only after number line out_then out_new e
    → StopsBy config only input out e lines after input_then input_new out_then out_new
stops_of config only input out (faults.Line n cause) number line lines after input_then input_new out_then out_new reads count stops =
    (stops.0 ∙ count, stops.1, (line, reads, stops.2))
stops_of config only input out (faults.Input cause) number line lines after input_then input_new out_then out_new reads count stops =
    absurd stops
stops_of config only input out (faults.Output cause) number line lines after input_then input_new out_then out_new reads count stops =
    (line, reads, stops)
stops_of config only input out faults.Memory number line lines after input_then input_new out_then out_new reads count stops = stops

-- what stops the reading of a line stops the replay
pub turn_stops : (config : ConfigValue) (only : Option ℕ) (input out : Option (List ℕ)) (e : ReplayFault)
    (lines : List (List ℕ)) (after : ProxyValue) (input_then input_new out_then : Option (List ℕ)) → IsReadingFault e
    → StopsBy config only input out e lines after input_then input_new out_then out_then
turn_stops config only input out (faults.Line n cause) lines after input_then input_new out_then fault = absurd fault
turn_stops config only input out (faults.Input cause) lines after input_then input_new out_then fault = (fault, refl)
turn_stops config only input out (faults.Output cause) lines after input_then input_new out_then fault = absurd fault
turn_stops config only input out faults.Memory lines after input_then input_new out_then fault = refl
