-- What a `?` passes on of a fault with its place: out of memory stays that, and a callee's fault becomes the
-- caller's.
use Rattle.std.proofs.Common.{◌≡◌, ℕ, inl, inr, ◌∙◌}
use Rattle.std.specs.Prelude.{Result, Ok, Err, IfOk, IfErr, IsErrAnd, MatchResult}
use Rattle.std.proofs.lemmas.Result.{err_from_is_err_and, MatchResult-weaker}
use Rattle.proto_wire.specs.Places.{FaultOr, IsAt, IsInside}
use Rattle.proto_wire.specs.Refusal.{MemoryOr}
use Rattle.proto_wire.specs.declared.placed.Fault.{Fault}
use Rattle.proto_wire.specs.declared.refusal.Refusal.{Refusal}
use Rattle.proto_wire.specs.declared.refusal.Refusal.TheVariants.{Memory}
use Rattle.proto_wire.proofs.Exits.{memory_or_weaker}

-- ---- a callee with a place

-- at a `?` on a callee with this clause
pub exit_with : (P : Fault → Type 0) {T : Type 0} (r : Result T Fault) (e : Fault) → IsErrAnd r (λ y. y ≡ e)
    → P e → IfErr r P
exit_with P r e left fault =
    let p = err_from_is_err_and r left in
    rw (p.1, p.2) fault

-- at a `?` on a callee whose fault is known
pub exit_known : (G : Refusal → Type 0) {T : Type 0} (r : Result T Fault) (e : Fault)
    → IsErrAnd r (λ y. y ≡ e) → G e.refusal → IfErr r (FaultOr G)
exit_known G r e left fault = exit_with (FaultOr G) r e left (inr fault)

module _ (F G : Refusal → Type 0) where
  -- at a `?` on a callee with the smaller fault, or without memory
  pub exit_memory_or : {T : Type 0} (r : Result T Fault) (e : Fault) → IsErrAnd r (λ y. y ≡ e)
      → FaultOr F e → ((d : Refusal) → F d → G d) → IfErr r (FaultOr G)
  exit_memory_or r e left fault weaker =
      exit_with (FaultOr G) r e left (memory_or_weaker F G e.refusal weaker fault)

  -- at a call whose answer is returned as it is
  pub last_memory_or : {T : Type 0} (r : Result T Fault) → IfErr r (FaultOr F)
      → ((e : Refusal) → F e → G e) → IfErr r (FaultOr G)
  last_memory_or r fault weaker =
      MatchResult-weaker r fault (λ x h. h) (λ e h. memory_or_weaker F G e.refusal weaker h)

  -- and the same of one without memory
  pub last_fault : {T : Type 0} (r : Result T Fault) → IfErr r (λ f. F f.refusal)
      → ((e : Refusal) → F e → G e) → IfErr r (FaultOr G)
  last_fault r fault weaker = MatchResult-weaker r fault (λ x h. h) (λ e h. inr (weaker e.refusal h))

-- ---- a callee without

-- at a `?` on a callee that allocates, and gives no place
pub exit_new_or : (F G : Refusal → Type 0) {T : Type 0} (r : Result T Fault) (e : Refusal)
    → IsErrAnd r (IsAt 0 e) → MemoryOr F e → ((d : Refusal) → F d → G d) → IfErr r (FaultOr G)
exit_new_or F G r e left fault weaker =
    let p = err_from_is_err_and r left in
    rw (p.1, p.2.0) (memory_or_weaker F G e weaker fault)

-- at a `?` on a callee without memory, which gives no place
pub exit_new : (G : Refusal → Type 0) {T : Type 0} (r : Result T Fault) (e : Refusal)
    → IsErrAnd r (IsAt 0 e) → G e → IfErr r (FaultOr G)
exit_new G r e left fault =
    let p = err_from_is_err_and r left in
    rw (p.1, p.2.0) (inr fault)

-- at a `?` on a growth of memory
pub exit_memory : (G : Refusal → Type 0) {T : Type 0} (r : Result T Fault)
    → IsErrAnd r (λ y. y.refusal ≡ Memory) → IfErr r (FaultOr G)
exit_memory G r left =
    let p = err_from_is_err_and r left in
    rw (p.1) (inl p.2)

-- at a `?` whose callee's answer is known
pub exit_told : {S T : Type 0} (r : Result T Fault) (e d : Refusal) → IsErrAnd r (IsAt 0 e)
    → ◌≡◌ {A = Result S Refusal} (Err e) (Err d)
    → IsErrAnd r (λ y. y.refusal ≡ d)
exit_told r e d left told =
    let p = err_from_is_err_and r left in
    let same : e ≡ d = cc in
    rw (p.1) (p.2.0 ∙ same)

-- where a callee can have no fault of its own, its `?` passes on want of memory alone
pub exit_only_memory : (F : Refusal → Type 0) {T : Type 0} (P : T → Type 0) (r : Result T Fault) (e : Refusal)
    → IsErrAnd r (IsAt 0 e) → MemoryOr F e → (F e → ⊥) → MatchResult r P (λ y. y.refusal ≡ Memory)
exit_only_memory F P r e left fault none =
    let p = err_from_is_err_and r left in
    rw (p.1, p.2.0) (elim fault [
      | inl memory ↦ memory
      | inr bad ↦ absurd (none bad)
    ])

-- ---- a caller without

-- at a `?` that drops the place
pub exit_unplaced : (P : Refusal → Type 0) {T : Type 0} (r : Result T Refusal) (e : Fault)
    → IsErrAnd r (λ y. y ≡ e.refusal) → P e.refusal → IfErr r P
exit_unplaced P r e left fault =
    let p = err_from_is_err_and r left in
    rw (p.1, p.2) fault

-- ---- faults that are given a place

-- s is r, one step further out if it is a fault
abbrev pub Placed : {T : Type 0} → ℕ → ℕ → Result T Fault → Result T Fault → Type 0
Placed number position r s =
    MatchResult r (λ x. s ≡ Ok x) (λ e. IsErrAnd s (IsInside number position e))

pub placed_found : {T : Type 0} (P : T → Type 0) (number position : ℕ) (r s : Result T Fault)
    → Placed number position r s → IfOk r P → IfOk s P
placed_found P number position (Ok x) s is found = rw is found
placed_found P number position (Err e) s is found = rw ((err_from_is_err_and s is).1) tt

pub placed_fault : {T : Type 0} (F G : Refusal → Type 0) (number position : ℕ) (r s : Result T Fault)
    → Placed number position r s → IfErr r (FaultOr F) → ((d : Refusal) → F d → G d) → IfErr s (FaultOr G)
placed_fault F G number position (Ok x) s is fault weaker = rw is tt
placed_fault F G number position (Err e) s is fault weaker =
    let p = err_from_is_err_and s is in
    rw (p.1, p.2.0) (memory_or_weaker F G e.refusal weaker fault)

-- the same where r has no place
abbrev pub PlacedAt : {T : Type 0} → Result T Refusal → Result T Fault → Type 0
PlacedAt r s = MatchResult r (λ x. s ≡ Ok x) (λ e. IsErrAnd s (λ f. f.refusal ≡ e))

pub at_found : {T : Type 0} (P : T → Type 0) (r : Result T Refusal) (s : Result T Fault) → PlacedAt r s
    → IfOk r P → IfOk s P
at_found P (Ok x) s is found = rw is found
at_found P (Err e) s is found = rw ((err_from_is_err_and s is).1) tt

pub at_fault : {T : Type 0} (F : Refusal → Type 0) (r : Result T Refusal) (s : Result T Fault) → PlacedAt r s
    → IfErr r F → IfErr s (λ f. F f.refusal)
at_fault F (Ok x) s is fault = rw is tt
at_fault F (Err e) s is fault =
    let p = err_from_is_err_and s is in
    rw (p.1, p.2) fault
