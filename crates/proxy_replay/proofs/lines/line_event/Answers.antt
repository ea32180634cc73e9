-- What is no JSON text is no event, and a text is the event of its one value.
use Rattle.std.proofs.Common.{◌≡◌, List, ℕ, Result, Ok, Err, IfErr, Some, None, inl, inr}
use Rattle.std.proofs.lemmas.Result.{err_from_is_err_and}
use Rattle.proxy_core.specs.Events.{EventValue}
use Rattle.serde_json.specs.Data.{Data}
use Rattle.serde_json.specs.Read.{read}
use Rattle.proxy_replay.specs.Lines.{IsEvent, IsLine}
use Rattle.program_texts.specs.declared.line_fault.LineFault.{LineFault}
use Rattle.program_texts.specs.declared.line_fault.LineFault.TheVariants.{BadLine}
use Rattle.proxy_replay.proofs.lines.line_event.Goals as goal

of_value : (text : List ℕ) (d : Data) (e : EventValue) → read text ≡ Some d → IsLine text e → IsEvent d e
of_value text d e is reported =
    let same : reported.0 ≡ d = cc (reported.1) in
    rw same at reported.2

of_none : (text : List ℕ) (e : EventValue) → read text ≡ None → IsLine text e → ⊥
of_none text e none reported = cc (reported.1)

pub returns-in_err-value-clause-fault : goal.returns-in_err-value-clause-fault
returns-in_err-value-clause-fault c =
    let p = err_from_is_err_and c.from_residual.result c.from_residual.ensures.1 in
    elim p.2 [
      | inl memory ↦ rw (p.1, memory.0) (λ never. cc)
      | inr bad ↦ rw p.1 (λ _ e reported. of_none _ e (c.in_err-value.ensures.err bad.1) reported)
    ]

fault_of_value : {C : Type 0} (r : Result C LineFault) (text : List ℕ) (d : Data) → read text ≡ Some d
    → IfErr r (λ e. e ≡ BadLine → (event : EventValue) → ¬ IsEvent d event)
    → IfErr r (λ e. e ≡ BadLine → (event : EventValue) → ¬ IsLine text event)
fault_of_value (Ok c) text d is fault = fault
fault_of_value (Err e) text d is fault = λ bad event reported. fault bad event (of_value text d event is reported)

pub returns-clause-fault : goal.returns-clause-fault
returns-clause-fault c = fault_of_value _ _ _ c.in_ok-value.ensures.ok c.event_at.ensures.fault
