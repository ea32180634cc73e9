-- What a `?` passes on of a fault with its part: out of memory stays that, and a callee's fault becomes the caller's.
use Rattle.std.proofs.Common.{◌≡◌, inl, inr}
use Rattle.std.specs.Prelude.{Result, Ok, Err, IfOk, IfErr, IsErrAnd, MatchResult}
use Rattle.std.proofs.lemmas.Result.{err_from_is_err_and, MatchResult-weaker}
use Rattle.proto_wire.specs.Refusal.{MemoryOr}
use Rattle.proto_wire.specs.declared.refusal.Refusal.{Refusal}
use Rattle.check_request.specs.Faults.{FaultOr}
use Rattle.check_request.specs.declared.fault.CheckFault.{CheckFault}
use Rattle.check_request.specs.declared.part.CheckPart.{CheckPart}

-- a smaller fault is one of the greater
pub fault_weaker : (F G : CheckPart → Refusal → Type 0) → ((p : CheckPart) (d : Refusal) → F p d → G p d)
    → (f : CheckFault) → FaultOr F f → FaultOr G f
fault_weaker F G weaker f (inl memory) = inl memory
fault_weaker F G weaker f (inr bad) = inr (weaker f.part f.refusal bad)

-- at a `?` on a callee with the smaller fault
pub exit_or : (F G : CheckPart → Refusal → Type 0) → ((p : CheckPart) (d : Refusal) → F p d → G p d)
    → {T : Type 0} (r : Result T CheckFault) (e : CheckFault) → IsErrAnd r (λ y. y ≡ e) → FaultOr F e
    → IfErr r (FaultOr G)
exit_or F G weaker r e left fault =
    let p = err_from_is_err_and r left in
    rw (p.1, p.2) (fault_weaker F G weaker e fault)

-- at a `?` on a callee without memory
pub exit_plain : (P : CheckFault → Type 0) {T : Type 0} (r : Result T CheckFault) (e : CheckFault)
    → IsErrAnd r (λ y. y ≡ e) → P e → IfErr r P
exit_plain P r e left fault =
    let p = err_from_is_err_and r left in
    rw (p.1, p.2) fault

-- at a call whose answer is returned as it is
pub last_or : (F G : CheckPart → Refusal → Type 0) → ((p : CheckPart) (d : Refusal) → F p d → G p d)
    → {T : Type 0} (r : Result T CheckFault) → IfErr r (FaultOr F) → IfErr r (FaultOr G)
last_or F G weaker r fault = MatchResult-weaker r fault (λ x h. h) (λ e h. fault_weaker F G weaker e h)

-- s is r, whose refusal is one of the part
abbrev pub Placed : {T : Type 0} → CheckPart → Result T Refusal → Result T CheckFault → Type 0
Placed part r s = MatchResult r (λ x. s ≡ Ok x) (λ e. IsErrAnd s (λ f. (f.refusal ≡ e) × (f.part ≡ part)))

pub placed_found : {T : Type 0} (P : T → Type 0) (part : CheckPart) (r : Result T Refusal)
    (s : Result T CheckFault) → Placed part r s → IfOk r P → IfOk s P
placed_found P part (Ok x) s is found = rw is found
placed_found P part (Err e) s is found = rw ((err_from_is_err_and s is).1) tt

pub placed_or : {T : Type 0} (F : Refusal → Type 0) (part : CheckPart) (r : Result T Refusal)
    (s : Result T CheckFault) → Placed part r s → IfErr r (MemoryOr F)
    → IfErr s (FaultOr (λ p e. (p ≡ part) × F e))
placed_or F part (Ok x) s is fault = rw is tt
placed_or F part (Err e) s is fault =
    let p = err_from_is_err_and s is in
    rw (p.1, p.2.0) (elim fault [
      | inl memory ↦ inl memory
      | inr bad ↦ inr (p.2.1, bad)
    ])

pub placed_plain : {T : Type 0} (F : Refusal → Type 0) (part : CheckPart) (r : Result T Refusal)
    (s : Result T CheckFault) → Placed part r s → IfErr r F → IfErr s (λ f. (f.part ≡ part) × F f.refusal)
placed_plain F part (Ok x) s is fault = rw is tt
placed_plain F part (Err e) s is fault =
    let p = err_from_is_err_and s is in
    rw (p.1, p.2.0) (p.2.1, fault)
