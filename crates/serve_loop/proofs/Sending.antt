-- What was sent, and after it what waits, is what was answered.
use Rattle.std.proofs.Common.{◌≡◌, ℕ, Bool, true, false, true≢false, List, [], ◌∷◌, ◌++◌, length, drop, refl, sym, ap, ◌∙◌, append_assoc, if◌then◌else◌}
use Rattle.std.proofs.lemmas.Bool.{eqb-true}
use Rattle.std.proofs.Math.Seq.{drop-append_seam}
use Rattle.serve_loop.specs.declared.stream.Stream.{Stream}
use Rattle.serve_loop.specs.declared.stream.Stream.TheVariants.{Place, Updates}
use Rattle.serve_loop.specs.History.{EventValue, Step, accepted, connected, received, closed, drain, Effect, answered, no_memory, Turn, took, gave, same_stream, concerns, bytes_then, sent_bytes_then, waiting_at, answered_at, sent_at}
use Rattle.serve_loop.specs.Law.{AreSentInOrder, Belong, events_of, events_on, wire_of}

same_is : (s t : Stream) → same_stream s t ≡ true → s ≡ t
same_is (Place j) (Place k) is = ap (λ (n : ℕ). Place n) (eqb-true j k is)
same_is (Place j) Updates is = absurd (true≢false (sym is))
same_is Updates (Place k) is = absurd (true≢false (sym is))
same_is Updates Updates is = refl

module _ {F : Type 0} where
  -- an event of the stream
  told : (e : EventValue F) (effect : Effect) (a s w : List ℕ) → a ≡ s ++ w → bytes_then e effect a ≡ sent_bytes_then e effect s ++ bytes_then e effect w
  told (accepted k facts) (answered out closes) a s w is = refl
  told connected (answered out closes) a s w is = refl
  told (received t bytes) (answered out closes) a s w is = ap (λ (l : List ℕ). l ++ out) is ∙ append_assoc s w out
  told (closed t) (answered out closes) a s w is = refl
  told drain (answered out closes) a s w is = is
  told (accepted k facts) no_memory a s w is = refl
  told connected no_memory a s w is = refl
  told (received t bytes) no_memory a s w is = refl
  told (closed t) no_memory a s w is = refl
  told drain no_memory a s w is = refl

  -- an event of the stream or of another
  told_or : (c : Bool) (e : EventValue F) (effect : Effect) (a s w : List ℕ) → a ≡ s ++ w
      → (if c then bytes_then e effect a else a) ≡ (if c then sent_bytes_then e effect s else s) ++ (if c then bytes_then e effect w else w)
  told_or true e effect a s w is = told e effect a s w is
  told_or false e effect a s w is = is

  -- bytes are sent on the stream or on another
  sent_or : (c : Bool) (s t : Stream) (turns : List (Turn F)) (bytes left a b : List ℕ) → same_stream s t ≡ c
      → waiting_at t turns ≡ bytes ++ left → a ≡ b ++ waiting_at s turns
      → a ≡ (if c then b ++ bytes else b) ++ (if c then drop (length bytes) (waiting_at s turns) else waiting_at s turns)
  sent_or true s t turns bytes left a b c parts is =
      let here : waiting_at s turns ≡ bytes ++ left = ap (λ (u : Stream). waiting_at u turns) (same_is s t c) ∙ parts in
      is ∙ ap (λ (l : List ℕ). b ++ l) here ∙ sym (append_assoc b bytes left)
      ∙ ap (λ (l : List ℕ). (b ++ bytes) ++ l) (sym (ap (λ (l : List ℕ). drop (length bytes) l) here ∙ drop-append_seam bytes left))
  sent_or false s t turns bytes left a b c parts is = is

pub all_sent : {F : Type 0} (s : Stream) (turns : List (Turn F)) → AreSentInOrder turns
    → answered_at s turns ≡ sent_at s turns ++ waiting_at s turns
all_sent s [] order = refl
all_sent s (took e effect ∷ turns) order = told_or (concerns s e) e effect _ _ _ (all_sent s turns order)
all_sent s (gave t bytes ∷ turns) ((left, parts), order) =
    sent_or (same_stream s t) s t turns bytes left _ _ refl parts (all_sent s turns order)

seen_of : {F : Type 0} (turns : List (Turn F)) → events_of turns ≡ events_on (wire_of turns)
seen_of [] = refl
seen_of {F} (took e effect ∷ turns) = ap (λ (l : List (EventValue F)). e ∷ l) (seen_of turns)
seen_of (gave s bytes ∷ turns) = seen_of turns

pub all_seen : {F : Type 0} (wire : List (Step F)) (turns : List (Turn F)) (seen : List (EventValue F))
    → Belong wire turns seen → seen ≡ events_on wire
all_seen {F} wire turns seen b = b.seen_is ∙ seen_of turns ∙ ap (λ (w : List (Step F)). events_on w) (sym b.wire_is)
