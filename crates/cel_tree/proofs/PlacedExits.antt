-- What a `?` passes on of a fault with its place in an expression.
use Rattle.std.proofs.Common.{◌≡◌, ◌∙◌, ℕ, ℤ, inl, inr}
use Rattle.std.specs.Prelude.{Result, Ok, Err, IfOk, IfErr, IsErrAnd, MatchResult}
use Rattle.std.proofs.lemmas.Result.{err_from_is_err_and, MatchResult-weaker}
use Rattle.proto_wire.specs.Places.{Path, BeginsWith, FaultOr, IsAt, path_at, path_of}
use Rattle.proto_wire.specs.Refusal.{MemoryOr}
use Rattle.proto_wire.specs.declared.placed.Fault.{Fault}
use Rattle.proto_wire.specs.declared.refusal.Refusal.{Refusal}
use Rattle.proto_wire.specs.declared.refusal.Refusal.TheVariants.{Memory}
use Rattle.proto_wire.proofs.PlaceExits.{Placed}
use Rattle.cel_tree.specs.Places.{NamesEntry, PlacedOr}

module _ (F G : Path → Refusal → Type 0) where
  -- a smaller fault is one of the greater
  pub placed_weaker : (f : Fault) → ((p : Path) (d : Refusal) → F p d → G p d) → PlacedOr F f → PlacedOr G f
  placed_weaker f weaker (inl memory) = inl memory
  placed_weaker f weaker (inr bad) = inr (weaker (path_of f.place) f.refusal bad)

  -- at a `?` on a callee with the smaller fault
  pub exit_placed : {T : Type 0} (r : Result T Fault) (e : Fault) → IsErrAnd r (λ y. y ≡ e) → PlacedOr F e
      → ((p : Path) (d : Refusal) → F p d → G p d) → IfErr r (PlacedOr G)
  exit_placed r e left fault weaker =
      let l = err_from_is_err_and r left in
      rw (l.1, l.2) (placed_weaker e weaker fault)

  -- at a call whose answer is returned as it is
  pub last_placed : {T : Type 0} (r : Result T Fault) → IfErr r (PlacedOr F)
      → ((p : Path) (d : Refusal) → F p d → G p d) → IfErr r (PlacedOr G)
  last_placed r fault weaker = MatchResult-weaker r fault (λ x h. h) (λ e h. placed_weaker e weaker h)

module _ (F : Refusal → Type 0) (G : Path → Refusal → Type 0) where
  -- out of memory, or a fault that has this place
  pub given_place : (f : Fault) (e : Refusal) (p : Path) → f.refusal ≡ e → path_of f.place ≡ p → MemoryOr F e
      → ((d : Refusal) → F d → G p d) → PlacedOr G f
  given_place f e p is at (inl memory) weaker = inl (rw is memory)
  given_place f e p is at (inr bad) weaker = inr (rw (is, at) (weaker e bad))

  -- at a `?` on a callee that allocates, and gives no place
  pub exit_unplaced_or : {T : Type 0} (r : Result T Fault) (e : Refusal) → IsErrAnd r (IsAt 0 e) → MemoryOr F e
      → ((d : Refusal) → F d → G (path_at 0) d) → IfErr r (PlacedOr G)
  exit_unplaced_or r e left fault weaker =
      let l = err_from_is_err_and r left in
      rw (l.1) (given_place l.0 e (path_at 0) l.2.0 l.2.1 fault weaker)

-- at a `?` on a callee without memory, which gives no place
pub exit_unplaced : (G : Path → Refusal → Type 0) {T : Type 0} (r : Result T Fault) (e : Refusal)
    → IsErrAnd r (IsAt 0 e) → G (path_at 0) e → IfErr r (PlacedOr G)
exit_unplaced G r e left bad =
    let l = err_from_is_err_and r left in
    rw (l.1, l.2.0, l.2.1) (inr bad)

-- at a `?` on a growth of memory
pub exit_memory : (G : Path → Refusal → Type 0) {T : Type 0} (r : Result T Fault)
    → IsErrAnd r (λ y. y.refusal ≡ Memory) → IfErr r (PlacedOr G)
exit_memory G r left =
    let l = err_from_is_err_and r left in
    rw (l.1) (inl l.2)

-- the place is left out
pub without_place : (F : Path → Refusal → Type 0) (G : Refusal → Type 0) {T : Type 0} (r : Result T Fault)
    → IfErr r (PlacedOr F) → ((p : Path) (d : Refusal) → F p d → G d) → IfErr r (FaultOr G)
without_place F G (Ok x) fault weaker = tt
without_place F G (Err f) (inl memory) weaker = inl memory
without_place F G (Err f) (inr bad) weaker = inr (weaker (path_of f.place) f.refusal bad)

pub drop_place : (F : Path → Refusal → Type 0) (G : Refusal → Type 0) (f : Fault) → PlacedOr F f
    → ((p : Path) (d : Refusal) → F p d → G d) → FaultOr G f
drop_place F G f (inl memory) weaker = inl memory
drop_place F G f (inr bad) weaker = inr (weaker (path_of f.place) f.refusal bad)

-- s is r, one step further out if it is a fault
pub placed_in : (F G : Path → Refusal → Type 0) (number position : ℕ) {T : Type 0} (r s : Result T Fault)
    → Placed number position r s → IfErr r (PlacedOr F)
    → ((inner outer : Path) (d : Refusal) → BeginsWith number position inner outer → F inner d → G outer d)
    → IfErr s (PlacedOr G)
placed_in F G number position (Ok x) s is fault weaker = rw is tt
placed_in F G number position (Err e) s is fault weaker =
    let l = err_from_is_err_and s is in
    rw (l.1) (elim fault [
      | inl memory ↦ inl (l.2.0 ∙ memory)
      | inr bad ↦ inr (rw (l.2.0) (weaker (path_of e.place) (path_of (l.0).place) e.refusal l.2.1 bad))
    ])

-- ---- entries of maps

-- s is r, whose refusal is a fault of the entry with this id
abbrev pub AtEntry : {T : Type 0} → ℤ → Result T Refusal → Result T Fault → Type 0
AtEntry id r s = MatchResult r (λ x. s ≡ Ok x)
    (λ e. IsErrAnd s (λ f. (f.refusal ≡ e) × NamesEntry id (path_of f.place)))

pub entry_found : {T : Type 0} (P : T → Type 0) (id : ℤ) (r : Result T Refusal) (s : Result T Fault) → AtEntry id r s
    → IfOk r P → IfOk s P
entry_found P id (Ok x) s is found = rw is found
entry_found P id (Err e) s is found = rw ((err_from_is_err_and s is).1) tt

pub entry_fault : (F : Refusal → Type 0) (id : ℤ) {T : Type 0} (r : Result T Refusal) (s : Result T Fault)
    → AtEntry id r s → IfErr r (MemoryOr F) → IfErr s (PlacedOr (λ path e. F e × NamesEntry id path))
entry_fault F id (Ok x) s is fault = rw is tt
entry_fault F id (Err e) s is fault =
    let l = err_from_is_err_and s is in
    rw (l.1) (elim fault [
      | inl memory ↦ inl (l.2.0 ∙ memory)
      | inr bad ↦ inr (rw (l.2.0) bad, l.2.1)
    ])
