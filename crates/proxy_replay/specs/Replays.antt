-- A replay: the events of the lines of an input, and what is printed for each.
use Rattle.std.specs.Prelude.{◌≡◌, ◌≢◌, ◌++◌, ◌+◌, ℕ, List, [], ◌∷◌, IfSome, Option, Some, None, IsUtf8, codes, length}
use Rattle.std.specs.Io.KnownBytes.{Appends}
use Rattle.std.specs.IoError.{error_kind}
use Rattle.std.specs.declared.io.ErrorKind.{ErrorKind as IoKind}
use Rattle.ads.specs.Config.{ConfigValue}
use Rattle.proxy_core.specs.Events.{EventValue}
use Rattle.proxy_core.specs.Step.{CallsDo, EventCall, ProxyValue, answered, event_of, new_proxy, no_memory}
use Rattle.proxy_core.specs.Worker.{seen_at}
use Rattle.proxy_replay.specs.Lines.{IsLine, words_of}
use Rattle.program_texts.specs.InputLines.{AreLines, ReadsLine}
use Rattle.program_texts.specs.Output.{BreaksOff}
use Rattle.program_texts.specs.declared.replay_fault.ReplayFault.{ReplayFault}
use Rattle.program_texts.specs.declared.replay_fault.ReplayFault.TheVariants as faults

-- the line that is printed for a call: the output in words, or `memory`
abbrev pub answer_line : EventCall → List ℕ
answer_line (answered event out) = words_of out ++ (10 ∷ [])
answer_line (no_memory event) = codes "memory" ++ (10 ∷ [])

-- the lines that are printed for calls, in order
abbrev pub printed_of : List EventCall → List ℕ
printed_of [] = []
printed_of (call ∷ calls) = answer_line call ++ printed_of calls

-- the bytes are UTF-8 and the text of this event
abbrev pub IsLineText : List ℕ → EventValue → Type 0
IsLineText bytes event = IsUtf8 bytes × IsLine bytes event

-- the event as a replay sees it: as it is. A replay of connection `k` alone sees it as that connection does, and sees none
-- if it is an event of another
abbrev pub seen_by : Option ℕ → EventValue → Option EventValue
seen_by None event = Some event
seen_by (Some k) event = seen_at k event

-- the calls are one of the event, and then `more`; only `more` if there is no event
abbrev pub AreCallThen : Option EventValue → List EventCall → List EventCall → Type 0
AreCallThen None calls more = calls ≡ more
AreCallThen (Some event) calls more = (call : EventCall) × (event_of call ≡ event) × (calls ≡ call ∷ more)

-- each line is the text of an event, and the calls are those of the events that are seen, in order
abbrev pub AreCallsOf : Option ℕ → List (List ℕ) → List EventCall → Type 0
AreCallsOf only [] calls = calls ≡ []
AreCallsOf only (line ∷ lines) calls = (event : EventValue) × IsLineText line event
    × ((more : List EventCall) × AreCallThen (seen_by only event) calls more × AreCallsOf only lines more)

-- a proxy of this configuration takes the events of the lines that are seen, in order; `after` is the proxy at the end
pub record Replays (config : ConfigValue) (only : Option ℕ) (lines : List (List ℕ)) (calls : List EventCall)
    (after : ProxyValue) : Type 0 where
  pub reported : AreCallsOf only lines calls
  pub done : CallsDo (new_proxy config) calls after

-- the output took a proper beginning of the answer of a proxy to the line's event, and then failed
pub record BreaksAnswer (only : Option ℕ) (old : ProxyValue) (line : List ℕ) (out out_new : Option (List ℕ)) : Type 0
  where
    pub calls : List EventCall
    pub new : ProxyValue
    pub reported : AreCallsOf only (line ∷ []) calls
    pub done : CallsDo old calls new
    pub broken : BreaksOff out out_new (printed_of calls)

-- parameters: a configuration, the connection that alone is replayed, if one is named, an input, and the bytes `out`
-- that the output had before
module _ (config : ConfigValue) (only : Option ℕ) (input : Option (List ℕ)) (out : Option (List ℕ)) where
  -- these lines were read, and their answers were printed
  pub record Replayed (lines : List (List ℕ)) (calls : List EventCall) (after : ProxyValue)
      (input_new out_new : Option (List ℕ)) : Type 0 where
    pub replays : Replays config only lines calls after
    pub read : IfSome input (λ bytes. (left : List ℕ) × (input_new ≡ Some left) × AreLines bytes lines left)
    pub printed : Appends out out_new (printed_of calls)

  -- every line was read and answered, and the input is at its end
  pub record IsReplayed (input_new out_new : Option (List ℕ)) : Type 0 where
    pub lines : List (List ℕ)
    pub calls : List EventCall
    pub after : ProxyValue
    pub replayed : Replayed lines calls after input_new out_new
    pub end : IfSome input (λ bytes. input_new ≡ Some [])

  -- the fault that stops a replay after the lines that were answered. It is a line that is no event, a failure of the
  -- input or of the output, or that memory ran out
  abbrev pub StopsBy : ReplayFault → List (List ℕ) → ProxyValue → Option (List ℕ) → Option (List ℕ) → Option (List ℕ)
      → Option (List ℕ) → Type 0
  StopsBy (faults.Line number cause) lines after input_old input_new out_old out_new = (number ≡ length lines + 1) × (out_new ≡ out_old)
      × ((line : List ℕ) × ReadsLine input_old line input_new × ((event : EventValue) → ¬ IsLineText line event))
  StopsBy (faults.Input cause) lines after input_old input_new out_old out_new =
      (error_kind cause ≢ IoKind.OutOfMemory) × (out_new ≡ out_old)
  StopsBy (faults.Output cause) lines after input_old input_new out_old out_new =
      (line : List ℕ) × ReadsLine input_old line input_new × BreaksAnswer only after line out_old out_new
  StopsBy faults.Memory lines after input_old input_new out_old out_new = out_new ≡ out_old

  -- some lines were read and answered, and then this fault stopped the replay
  pub record IsStopped (fault : ReplayFault) (input_new out_new : Option (List ℕ)) : Type 0 where
    pub lines : List (List ℕ)
    pub calls : List EventCall
    pub after : ProxyValue
    pub input_then : Option (List ℕ)
    pub out_then : Option (List ℕ)
    pub replayed : Replayed lines calls after input_then out_then
    pub stops : StopsBy fault lines after input_then input_new out_then out_new
