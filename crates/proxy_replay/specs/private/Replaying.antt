-- The effects of single steps of a replay.
use Rattle.std.specs.Prelude.{◌≡◌, ℕ, List, [], ◌∷◌, Option, Some, None, IfSome}
use Rattle.std.specs.Io.KnownBytes.{Appends}
use Rattle.proxy_core.specs.Events.{EventValue}
use Rattle.proxy_core.specs.Step.{CallsDo, EventCall, ProxyValue}
use Rattle.proxy_replay.specs.Replays.{AreCallsOf, BreaksAnswer, IsLineText, printed_of}
use Rattle.program_texts.specs.InputLines.{ReadsLine}
use Rattle.program_texts.specs.declared.replay_fault.ReplayFault.{ReplayFault}
use Rattle.program_texts.specs.declared.replay_fault.ReplayFault.TheVariants as faults

-- the text is the answer to the event of the line; it is empty if the event is not seen
pub record Answers (only : Option ℕ) (old : ProxyValue) (line text : List ℕ) (new : ProxyValue) : Type 0 where
  pub calls : List EventCall
  pub reported : AreCallsOf only (line ∷ []) calls
  pub does : CallsDo old calls new
  pub same : text ≡ printed_of calls

-- the answer to the event of the line is printed; nothing is if the event is not seen
pub record PrintsAnswer (only : Option ℕ) (old : ProxyValue) (line : List ℕ) (out : Option (List ℕ)) (new : ProxyValue)
    (out_new : Option (List ℕ)) : Type 0 where
  pub calls : List EventCall
  pub reported : AreCallsOf only (line ∷ []) calls
  pub does : CallsDo old calls new
  pub printed : Appends out out_new (printed_of calls)

-- a line was read; or there is none, and the input is at its end
abbrev pub IsSomeLine : Option (List ℕ) → Option (List ℕ) → Option (List ℕ) → Type 0
IsSomeLine (Some line) input input_new = ReadsLine input line input_new
IsSomeLine None input input_new = IfSome input (λ bytes. (bytes ≡ []) × (input_new ≡ Some []))

-- the faults that may stop the answer to a line
abbrev pub TurnStops : Option ℕ → ProxyValue → ℕ → List ℕ → Option (List ℕ) → Option (List ℕ) → ReplayFault → Type 0
TurnStops only old number line out out_new (faults.Line n cause) =
    (n ≡ number) × (out_new ≡ out) × ((event : EventValue) → ¬ IsLineText line event)
TurnStops only old number line out out_new (faults.Input cause) = ⊥
TurnStops only old number line out out_new (faults.Output cause) = BreaksAnswer only old line out out_new
TurnStops only old number line out out_new faults.Memory = out_new ≡ out
