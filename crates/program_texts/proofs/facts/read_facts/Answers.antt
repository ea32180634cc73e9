-- Bytes that are no text, or no text of facts, give none.
use Rattle.std.proofs.Common.{◌≡◌, List, ℕ, Result, Ok, Err, IfErr, Some, None, inl, inr}
use Rattle.std.proofs.lemmas.Result.{err_from_is_err_and}
use Rattle.attributes.specs.Conn.{Facts}
use Rattle.serde_json.specs.Data.{Data}
use Rattle.serde_json.specs.Read.{read}
use Rattle.program_texts.specs.Facts.{AreFacts, IsFactsText}
use Rattle.program_texts.specs.declared.facts.FactsFault.{FactsFault}
use Rattle.program_texts.specs.declared.facts.FactsFault.TheVariants.{Bad}
use Rattle.program_texts.proofs.facts.read_facts.Goals as goal

-- a text gives the facts of its one value
of_value : (text : List ℕ) (d : Data) (f : Facts) → read text ≡ Some d → IsFactsText text f → AreFacts d f
of_value text d f is reported =
    let same : reported.1.0 ≡ d = cc (reported.1.1) in
    rw same at reported.1.2

-- what is no JSON text gives no facts
of_none : (text : List ℕ) (f : Facts) → read text ≡ None → IsFactsText text f → ⊥
of_none text f none reported = cc (reported.1.1)

pub returns-in_err-value-clause-fault : goal.returns-in_err-value-clause-fault
returns-in_err-value-clause-fault c =
    let p = err_from_is_err_and c.from_residual.result c.from_residual.ensures.1 in
    elim p.2 [
      | inl memory ↦ rw (p.1, memory.0) (λ never. cc)
      | inr bad ↦ rw p.1 (λ _ f reported. of_none _ f (c.in_err-value.ensures.err bad.1 reported.0) reported)
    ]

-- what is no fault of the value is none of its text
fault_of_value : {C : Type 0} (r : Result C FactsFault) (text : List ℕ) (d : Data) → read text ≡ Some d → IfErr r (λ e. e ≡ Bad → (f : Facts) → ¬ AreFacts d f) → IfErr r (λ e. e ≡ Bad → (f : Facts) → ¬ IsFactsText text f)
fault_of_value (Ok c) text d is fault = fault
fault_of_value (Err e) text d is fault = λ bad f reported. fault bad f (of_value text d f is reported)

pub returns-clause-fault : goal.returns-clause-fault
returns-clause-fault c = fault_of_value _ _ _ c.in_ok-value.ensures.ok.1 c.conn_of.ensures.fault
