use Rattle.std.proofs.Common.{◌⊎◌, ◌∷◌, [], inl, inr}
use Rattle.std.proofs.lemmas.Result.{MatchResult-weaker}
use Rattle.cel_tree.specs.Checked.{CelChecked}
use Rattle.cel_tree.specs.Message.{CheckedFault, IsChecked}
use Rattle.cel_tree.specs.View.{checked_view}
use Rattle.cel_types.specs.TypingFaults.{CheckFault}
use Rattle.proto_wire.specs.declared.refusal.Refusal.{Refusal}
use Rattle.proto_wire.proofs.Exits.{exit_memory_or, last_memory_or}
use Rattle.callers.proofs.condition.prepare.Goals as goal

pub returns-in_err-checked-clause-fault : goal.returns-in_err-checked-clause-fault
returns-in_err-checked-clause-fault c =
    exit_memory_or (CheckedFault (c.args.bytes.now ∷ []))
    (λ (e : Refusal). CheckedFault (c.args.bytes.now ∷ []) e
    ⊎ ((x : CelChecked) × IsChecked (c.args.bytes.now ∷ []) x × CheckFault x e)) c.from_residual.result
    c.in_err-checked.field-0.0 c.from_residual.ensures.1 c.in_err-checked.ensures.fault (λ e fault. inl fault)

pub returns-clause-found : goal.returns-clause-found
returns-clause-found c =
    MatchResult-weaker c.compiled.result c.compiled.ensures.found
    (λ code is. (checked_view c.in_ok-checked.checked, c.in_ok-checked.ensures.found, is)) (λ e h. h)

pub returns-clause-fault : goal.returns-clause-fault
returns-clause-fault c =
    last_memory_or (CheckFault (checked_view c.in_ok-checked.checked))
    (λ (e : Refusal). CheckedFault (c.args.bytes.now ∷ []) e
    ⊎ ((x : CelChecked) × IsChecked (c.args.bytes.now ∷ []) x × CheckFault x e)) c.compiled.result
    c.compiled.ensures.fault
    (λ e fault. inr (checked_view c.in_ok-checked.checked, c.in_ok-checked.ensures.found, fault))
