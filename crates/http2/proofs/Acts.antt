-- A frame with which a call that is served goes on, and its answer.
use Rattle.std.proofs.Common.{◌≡◌, ℕ, ◌==◌, nat_lt, Bool, true, false, if◌then◌else◌, Some, None, List, [], ◌∷◌, ◌++◌, refl, sym, ap, ap₂, ◌∙◌, inl, inr, true≢false, subst, arith, append_assoc, append-nil}
use Rattle.std.proofs.lemmas.Bool.{eq-eqb, lt-ltb}
use Rattle.http2.specs.Frame.{Parts, parts_of, kind_of, stream_of, is_acknowledgement, unopened, IsStream}
use Rattle.http2.specs.Trail.{Step, got, put, is_reply, move_data, move_window, move_ping, greeted, IsQuiet, AreQuiet, Unread}
use Rattle.http2.specs.Call.{AreReplies}
use Rattle.http2.specs.Serving.{ServingValue, Turn, on, remains_of, Takes}
use Rattle.http2.specs.Served.{answers_to, Serves, is_answer, answered, AreAnswers, IsSaid, answer, fields, away, move, AreSaid, Stops, IsServed}
use Rattle.http2.specs.Servers.{opened_as}
use Rattle.http2.specs.declared.over.Over.{Over}
use Rattle.http2.proofs.Calls.{none_some}
use Rattle.http2.proofs.Serves.{said_append, over_served}
use Rattle.http2.proofs.Turns.{NumbersBy, takes_number, takes_quiet}

abbrev is_cons : {X : Type 0} → List X → Bool
is_cons [] = false
is_cons (x ∷ xs) = true

cons_nil : {X : Type 0} {x : X} {xs : List X} → (x ∷ xs) ≡ [] → ⊥
cons_nil e = true≢false (ap (λ l. is_cons l) e)

-- ---- the number of the call's stream

abbrev opened_by : Bool → Bool → Bool → ℕ → ℕ → ℕ
opened_by new some fits before number = if new then (if some then (if fits then number else before) else before) else before

opened_same : (a b d : Bool) (n : ℕ) → opened_by a b d n n ≡ n
opened_same true true true n = refl
opened_same true true false n = refl
opened_same true false d n = refl
opened_same false b d n = refl

opened_kept : (before number : ℕ) → number ≡ before → opened_as before number ≡ number
opened_kept before number is =
    ap (λ (n : ℕ). opened_as n number) (sym is)
    ∙ opened_same (number == unopened) (nat_lt 0 number) (nat_lt number unopened) number

opened_new : (before number : ℕ) → before ≡ unopened → IsStream number → opened_as before number ≡ number
opened_new before number new is =
    ap₂ (λ (a b : Bool). opened_by a b (nat_lt number unopened) before number) (eq-eqb before unopened new) (lt-ltb 0 number is.0)
    ∙ ap (λ (d : Bool). opened_by true true d before number) (lt-ltb number unopened is.1)

-- ---- what was said before the stream was live

small : (frame : List ℕ) → stream_of frame ≡ unopened → ⊥
small frame e = absurd (omega (arith, e))

said_any : (n : ℕ) (frame : List ℕ) → IsSaid unopened frame → IsSaid n frame
said_any n frame (answer is) = answer is
said_any n frame (fields kind stream) = absurd (small frame stream)
said_any n frame (away kind stream) = away kind stream
said_any n frame (move (move_data kind stream)) = absurd (small frame stream)
said_any n frame (move (move_window kind flags)) = move (move_window kind flags)
said_any n frame (move (move_ping kind flags stream)) = move (move_ping kind flags stream)

all_said : (n : ℕ) (trail : List Step) → AreSaid unopened trail → AreSaid n trail
all_said n [] said = tt
all_said n (got frame ∷ trail) said = all_said n trail said
all_said n (put frame ∷ trail) (is, said) = (said_any n frame is, all_said n trail said)

-- ---- answers

answers_said : (n : ℕ) (steps : List Step) (parts : List Parts) → AreAnswers steps parts → AreSaid n steps
answers_said n [] parts are = tt
answers_said n (got frame ∷ steps) parts are = absurd are
answers_said n (put frame ∷ []) parts (is, parts_are, none) = (answer is, tt)
answers_said n (put frame ∷ (s ∷ steps)) parts (is, parts_are, none) = absurd (cons_nil none)

abbrev answer_by : ℕ → Bool → Bool
answer_by kind ack = if kind == 3 then true else if kind == 4 then ack else if kind == 6 then ack else false

answer_quiet : (frame : List ℕ) → is_answer frame ≡ true → IsQuiet frame
answer_quiet frame is = (
  λ zero. absurd (true≢false (sym is ∙ ap (λ (k : ℕ). answer_by k (is_acknowledgement frame)) zero)),
  λ eight. absurd (true≢false (sym is ∙ ap (λ (k : ℕ). answer_by k (is_acknowledgement frame)) eight)),
)

answers_quiet : (steps trail : List Step) (parts : List Parts) → AreAnswers steps parts → AreQuiet trail → AreQuiet (steps ++ trail)
answers_quiet [] trail parts are quiet = quiet
answers_quiet (got frame ∷ steps) trail parts are quiet = absurd are
answers_quiet (put frame ∷ []) trail parts (is, parts_are, none) quiet = (answer_quiet frame is, quiet)
answers_quiet (put frame ∷ (s ∷ steps)) trail parts (is, parts_are, none) quiet = absurd (cons_nil none)

answers_serve : (steps trail : List Step) (parts : List Parts) (turn : Turn) (owed : List Parts) → AreAnswers steps parts
    → Serves trail turn owed → Serves (steps ++ trail) turn owed
answers_serve [] trail parts turn owed are serves = serves
answers_serve (got frame ∷ steps) trail parts turn owed are serves = absurd are
answers_serve (put frame ∷ []) trail parts turn owed are serves = serves
answers_serve (put frame ∷ (s ∷ steps)) trail parts turn owed (is, parts_are, none) serves = absurd (cons_nil none)

answers_answered : (steps trail : List Step) (parts : List Parts) → AreAnswers steps parts
    → answered (steps ++ trail) ≡ answered trail ++ parts
answers_answered [] trail parts are = sym (append-nil (answered trail)) ∙ ap (λ (ps : List Parts). answered trail ++ ps) (sym are)
answers_answered (got frame ∷ steps) trail parts are = absurd are
answers_answered (put frame ∷ []) trail parts (is, parts_are, none) =
    ap (λ (b : Bool). answered trail ++ (if b then parts_of frame ∷ [] else [])) is
    ∙ ap (λ (ps : List Parts). answered trail ++ ps) (sym parts_are)
answers_answered (put frame ∷ (s ∷ steps)) trail parts (is, parts_are, none) = absurd (cons_nil none)

-- acknowledgements are answers
reply_answer : (frame : List ℕ) (b : Bool) → is_reply frame ≡ true → (if b then true else is_reply frame) ≡ true
reply_answer frame true is = refl
reply_answer frame false is = is

pub replies_answer : (steps : List Step) (parts : List Parts) → AreReplies steps parts → AreAnswers steps parts
replies_answer [] parts are = are
replies_answer (got frame ∷ steps) parts are = are
replies_answer (put frame ∷ steps) parts (is, parts_are, none) = (reply_answer frame (kind_of frame == 3) is, parts_are, none)

-- a refusal is an answer
pub refusal_is : (frame : List ℕ) (parts : Parts) → parts_of frame ≡ parts → parts.kind ≡ 3 → is_answer frame ≡ true
refusal_is frame parts is three =
    ap (λ (k : ℕ). if k == 3 then true else is_reply frame) (ap (λ (p : Parts). p.kind) is ∙ three)

-- ---- a frame

-- before the call's stream is live, nothing was on it
pub quiet_on : (trail steps : List Step) (frame : List ℕ) (c next : ServingValue) (u : Unread) → IsServed trail c None u
    → Takes c frame (on next) → AreAnswers steps (answers_to frame next.refused) → u.number ≡ unopened
    → AreQuiet (steps ++ got frame ∷ trail)
quiet_on trail steps frame c next u is takes are new =
    answers_quiet steps (got frame ∷ trail) (answers_to frame next.refused) are
    (takes_quiet c next frame (sym (is.same refl) ∙ new) takes, is.quiet refl new)

number_on : (before : ℕ) (frame : List ℕ) (next : ServingValue) → NumbersBy before frame (on next) → opened_as before next.number ≡ next.number
number_on before frame next (inl same) = opened_kept before next.number same
number_on before frame next (inr (new, number, is)) =
    opened_new before next.number new (subst (λ (n : ℕ). IsStream n) (sym number) is)

said_on : (before : ℕ) (frame : List ℕ) (next : ServingValue) (trail : List Step) → NumbersBy before frame (on next) → AreSaid before trail
    → AreSaid next.number trail
said_on before frame next trail (inl same) said = subst (λ (n : ℕ). AreSaid n trail) (sym same) said
said_on before frame next trail (inr (new, number, is)) said = all_said next.number trail (subst (λ (n : ℕ). AreSaid n trail) new said)

still_new : (before : ℕ) (frame : List ℕ) (next : ServingValue) → NumbersBy before frame (on next) → next.number ≡ unopened
    → before ≡ unopened
still_new before frame next (inl same) new = sym same ∙ new
still_new before frame next (inr (was, number, is)) new = was

pub acts_on : (trail steps : List Step) (frame : List ℕ) (c next : ServingValue) (u v : Unread) → IsServed trail c None u
    → Takes c frame (on next) → AreAnswers steps (answers_to frame next.refused) → v.number ≡ opened_as u.number next.number
    → IsServed (steps ++ got frame ∷ trail) next None v
acts_on trail steps frame c next u v is takes are number =
    let parts = answers_to frame next.refused in
    let numbers : NumbersBy u.number frame (on next) =
    subst (λ (n : ℕ). NumbersBy n frame (on next)) (sym (is.same refl)) (takes_number c frame (on next) takes) in
    let same : v.number ≡ next.number = number ∙ number_on u.number frame next numbers in
    record {
      later = steps ++ got frame ∷ is.later;
      whole = ap (λ (t : List Step). steps ++ got frame ∷ t) is.whole ∙ sym (append_assoc steps (got frame ∷ is.later) greeted);
      said = said_append v.number steps (got frame ∷ is.later) (answers_said v.number steps parts are)
          (subst (λ (n : ℕ). AreSaid n is.later) (sym same) (said_on u.number frame next is.later numbers is.said));
      quiet = λ none new. quiet_on trail steps frame c next u is takes are (still_new u.number frame next numbers (sym same ∙ new));
      going = λ none. answers_serve steps (got frame ∷ trail) parts (on next) (answered (steps ++ got frame ∷ trail)) are
          (c, answered trail, is.going refl, takes, answers_answered steps (got frame ∷ trail) parts are);
      same = λ none. same;
      ended = λ o some. absurd (none_some some);
    }

-- a frame that came, and nothing is said to it
pub got_stops : (trail : List Step) (frame : List ℕ) (c control : ServingValue) (u v : Unread) (o : Over) → v.number ≡ u.number
    → IsServed trail c None u → Stops (got frame ∷ trail) v o (remains_of control) → IsServed (got frame ∷ trail) control (Some o) v
got_stops trail frame c control u v o same is stops = over_served (got frame ∷ trail) control u v o same (got frame ∷ is.later)
    (ap (λ (t : List Step). got frame ∷ t) is.whole) is.said stops
