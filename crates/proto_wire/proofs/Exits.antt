-- What a `?` passes on: out of memory stays that, and a callee's fault becomes the caller's.
use Rattle.std.proofs.Common.{◌≡◌, inl, inr, ap, ◌∙◌}
use Rattle.std.specs.Prelude.{Result, Err, IfErr, IsErrAnd, MatchResult}
use Rattle.std.proofs.lemmas.Result.{err_from_is_err_and, MatchResult-weaker}
use Rattle.proto_wire.specs.Refusal.{MemoryOr}
use Rattle.proto_wire.specs.declared.refusal.Refusal.{Refusal}
use Rattle.proto_wire.specs.declared.refusal.Refusal.TheVariants.{Memory}

module _ (F G : Refusal → Type 0) where
  -- a smaller fault is one of the greater
  pub memory_or_weaker : (e : Refusal) → ((d : Refusal) → F d → G d) → MemoryOr F e → MemoryOr G e
  memory_or_weaker e weaker (inl memory) = inl memory
  memory_or_weaker e weaker (inr fault) = inr (weaker e fault)

  -- at a `?` on a callee with the smaller fault, or without memory
  pub exit_memory_or : {T : Type 0} (r : Result T Refusal) (e : Refusal) → IsErrAnd r (λ y. y ≡ e)
      → MemoryOr F e
      → ((d : Refusal) → F d → G d) → IfErr r (MemoryOr G)
  exit_memory_or r e left fault weaker =
      let p = err_from_is_err_and r left in
      rw (p.1, p.2) (memory_or_weaker e weaker fault)

-- where a callee can have no fault of its own, its `?` passes on out of memory alone
pub exit_only_memory : (F : Refusal → Type 0) {T : Type 0} (P : T → Type 0) (r : Result T Refusal)
    (e : Refusal)
    → IsErrAnd r (λ y. y ≡ e) → MemoryOr F e → (F e → ⊥) → MatchResult r P (λ y. y ≡ Memory)
exit_only_memory F P r e left fault none =
    let p = err_from_is_err_and r left in
    rw (p.1, p.2) (elim fault [
      | inl memory ↦ memory
      | inr bad ↦ absurd (none bad)
    ])

-- at a `?` whose callee's answer is known
pub exit_told : {S T : Type 0} (r : Result T Refusal) (e d : Refusal) → IsErrAnd r (λ y. y ≡ e)
    → ◌≡◌ {A = Result S Refusal} (Err e) (Err d)
    → r ≡ Err d
exit_told r e d left told =
    let p = err_from_is_err_and r left in
    let same : e ≡ d = cc in
    p.1 ∙ ap Err (p.2 ∙ same)

-- at a `?` on a growth of memory
pub exit_memory : (G : Refusal → Type 0) {T : Type 0} (r : Result T Refusal)
    → IsErrAnd r (λ y. y ≡ Memory)
    → IfErr r (MemoryOr G)
exit_memory G r left =
    let p = err_from_is_err_and r left in
    rw (p.1) (inl p.2)

-- at a `?` on a callee without memory
pub exit_fault : (G : Refusal → Type 0) {T : Type 0} (r : Result T Refusal) (e : Refusal)
    → IsErrAnd r (λ y. y ≡ e) → G e → IfErr r (MemoryOr G)
exit_fault G r e left fault =
    let p = err_from_is_err_and r left in
    rw (p.1, p.2) (inr fault)

-- at a call whose answer is returned as it is
pub last_memory_or : (F G : Refusal → Type 0) {T : Type 0} (r : Result T Refusal) → IfErr r (MemoryOr F)
    → ((e : Refusal) → F e → G e) → IfErr r (MemoryOr G)
last_memory_or F G r fault weaker =
    MatchResult-weaker r fault (λ x h. h) (λ e h. memory_or_weaker F G e weaker h)

-- and the same of one without memory
pub last_fault : (F G : Refusal → Type 0) {T : Type 0} (r : Result T Refusal) → IfErr r F
    → ((e : Refusal) → F e → G e) → IfErr r (MemoryOr G)
last_fault F G r fault weaker = MatchResult-weaker r fault (λ x h. h) (λ e h. inr (weaker e h))
