-- What is written and what comes does to a call that is served.
use Rattle.std.proofs.Common.{◌≡◌, ◌≢◌, ℕ, Bool, true, false, if◌then◌else◌, Option, Some, None, Result, Ok, Err, List, [], ◌∷◌, ◌++◌, refl, sym, ap, ap₂, ◌∙◌, subst, arith, append_assoc, append-nil, OnOk, OnErr}
use Rattle.std.proofs.lemmas.Bool.{ne_eqb}
use Rattle.hpack.specs.Field.{Line as HeaderLine}
use Rattle.http2.specs.Frame.{Parts, parts_of, kind_of, unopened, IsStream}
use Rattle.http2.specs.Trail.{Step, got, put, is_reply, IsMove, move_data, move_window, move_ping, AreMoves, greeted, Adds, Unread}
use Rattle.http2.specs.Serving.{ServingValue, Turn, on, over, Remains, remains_of}
use Rattle.http2.specs.Served.{Serves, is_answer, answered, IsSaid, fields, away, move, AreSaid, Stops, by_frame, by_fault, by_preface, by_answer, by_memory, IsServed}
use Rattle.http2.specs.Servers.{Heads}
use Rattle.http2.specs.declared.over.Over.{Over}
use Rattle.http2.specs.declared.pipe.Pipe.{Pipe}
use Rattle.http2.specs.Lines.{line}
use Rattle.http2.proofs.Calls.{other_reply, reply_by, none_some}
use Rattle.std.specs.declared.alloc.AllocError.{AllocError}

-- a frame that was written and answers nothing
abbrev pub IsSpoken : ℕ → List ℕ → Type 0
IsSpoken n frame = IsSaid n frame × (is_answer frame ≡ false)

abbrev pub AreSpoken : ℕ → List Step → Type 0
AreSpoken n [] = Unit {0}
AreSpoken n (got frame ∷ steps) = ⊥
AreSpoken n (put frame ∷ steps) = IsSpoken n frame × AreSpoken n steps

pub no_answer : (frame : List ℕ) (kind : ℕ) → kind_of frame ≡ kind → kind ≢ 3 → is_reply frame ≡ false → is_answer frame ≡ false
no_answer frame kind is three quiet =
    ap (λ (b : Bool). if b then true else is_reply frame) (ne_eqb (kind_of frame) 3 (λ e. three (sym is ∙ e))) ∙ quiet

move_quiet : (n : ℕ) (frame : List ℕ) → IsMove n frame → is_reply frame ≡ false
move_quiet n frame (move_data kind stream) = other_reply frame 0 kind (λ e. absurd (omega (arith, e))) (λ e. absurd (omega (arith, e)))
move_quiet n frame (move_window kind flags) = other_reply frame 8 kind (λ e. absurd (omega (arith, e))) (λ e. absurd (omega (arith, e)))
move_quiet n frame (move_ping kind flags stream) = ap₂ (λ (k f : ℕ). reply_by k f) kind flags

move_spoken : (n : ℕ) (frame : List ℕ) → IsMove n frame → IsSpoken n frame
move_spoken n frame (move_data kind stream) =
    (move (move_data kind stream), no_answer frame 0 kind (λ e. absurd (omega (arith, e))) (move_quiet n frame (move_data kind stream)))
move_spoken n frame (move_window kind flags) =
    (move (move_window kind flags), no_answer frame 8 kind (λ e. absurd (omega (arith, e))) (move_quiet n frame (move_window kind flags)))
move_spoken n frame (move_ping kind flags stream) =
    (move (move_ping kind flags stream), no_answer frame 6 kind (λ e. absurd (omega (arith, e))) (move_quiet n frame (move_ping kind flags stream)))

pub moves_spoken : (n : ℕ) (steps : List Step) → AreMoves n steps → AreSpoken n steps
moves_spoken n [] moves = tt
moves_spoken n (got frame ∷ steps) moves = absurd moves
moves_spoken n (put frame ∷ steps) (is, moves) = (move_spoken n frame is, moves_spoken n steps moves)

pub heads_spoken : (n flags : ℕ) (fs : List HeaderLine) (frame : List ℕ) → Heads n flags fs frame → AreSpoken n (put frame ∷ [])
heads_spoken n flags fs frame heads = (
  (
    fields heads.kind heads.on_stream,
    no_answer frame 1 heads.kind (λ e. absurd (omega (arith, e)))
        (other_reply frame 1 heads.kind (λ e. absurd (omega (arith, e))) (λ e. absurd (omega (arith, e)))),
  ),
  tt,
)

pub away_spoken : (n : ℕ) (frame payload : List ℕ) → parts_of frame ≡ record { kind = 7; flags = 0; stream = 0; payload = payload }
    → IsSpoken n frame
away_spoken n frame payload is =
    let kind : kind_of frame ≡ 7 = ap (λ (p : Parts). p.kind) is in (
      away kind (ap (λ (p : Parts). p.stream) is),
      no_answer frame 7 kind (λ e. absurd (omega (arith, e)))
          (other_reply frame 7 kind (λ e. absurd (omega (arith, e))) (λ e. absurd (omega (arith, e)))),
    )

-- a frame that was written, if there was memory for it
pub spoken_step : (r : Result (Unit {0}) AllocError) (old new : Pipe) (parts : Parts)
    → OnOk r ((frame : List ℕ) × (parts_of frame ≡ parts) × (new.out ≡ old.out ++ frame) × Adds (put frame ∷ []) (line old) (line new))
    → OnErr r (new ≡ old) → ((frame : List ℕ) → parts_of frame ≡ parts → IsSpoken old.number frame)
    → (steps : List Step) × AreSpoken old.number steps × Adds steps (line old) (line new)
spoken_step (Ok x) old new parts written same own = (put written.0 ∷ [], (own written.0 written.1, tt), written.3)
spoken_step (Err e) old new parts written same own = ([], tt, rw same (λ trail came sent took gave law. law))

-- ---- what spoken frames do

pub said_append : (n : ℕ) (xs ys : List Step) → AreSaid n xs → AreSaid n ys → AreSaid n (xs ++ ys)
said_append n [] ys x y = y
said_append n (got frame ∷ xs) ys x y = said_append n xs ys x y
said_append n (put frame ∷ xs) ys (is, x) y = (is, said_append n xs ys x y)

pub spoken_said : (n : ℕ) (steps : List Step) → AreSpoken n steps → AreSaid n steps
spoken_said n [] spoken = tt
spoken_said n (got frame ∷ steps) spoken = absurd spoken
spoken_said n (put frame ∷ steps) (is, spoken) = (is.0, spoken_said n steps spoken)

spoken_serves : (n : ℕ) (steps trail : List Step) (turn : Turn) (owed : List Parts) → AreSpoken n steps → Serves trail turn owed
    → Serves (steps ++ trail) turn owed
spoken_serves n [] trail turn owed spoken serves = serves
spoken_serves n (got frame ∷ steps) trail turn owed spoken serves = absurd spoken
spoken_serves n (put frame ∷ steps) trail turn owed (is, spoken) serves = spoken_serves n steps trail turn owed spoken serves

spoken_answered : (n : ℕ) (steps trail : List Step) → AreSpoken n steps → answered (steps ++ trail) ≡ answered trail
spoken_answered n [] trail spoken = refl
spoken_answered n (got frame ∷ steps) trail spoken = absurd spoken
spoken_answered n (put frame ∷ steps) trail (is, spoken) =
    ap (λ (b : Bool). answered (steps ++ trail) ++ (if b then parts_of frame ∷ [] else [])) is.1
    ∙ append-nil (answered (steps ++ trail)) ∙ spoken_answered n steps trail spoken

spoken_stops : (n : ℕ) (steps trail : List Step) (u : Unread) (o : Over) (r : Remains) → AreSpoken n steps → Stops trail u o r
    → Stops (steps ++ trail) u o r
spoken_stops n steps trail u o r spoken (by_frame owed serves) = by_frame owed (spoken_serves n steps trail (over o r) owed spoken serves)
spoken_stops n steps trail u o r spoken (by_fault c owed serves stays f is stops) =
    by_fault c owed (spoken_serves n steps trail (on c) owed spoken serves) stays f is stops
spoken_stops n steps trail u o r spoken (by_preface serves stays is) = by_preface (spoken_serves n steps trail _ [] spoken serves) stays is
spoken_stops n steps trail u o r spoken (by_answer c owed serves stays is) =
    by_answer c owed (spoken_serves n steps trail (on c) owed spoken serves) stays is
spoken_stops n steps trail u o r spoken (by_memory is) = by_memory is

pub spoken_served : (steps trail : List Step) (control : ServingValue) (end : Option Over) (u : Unread) → AreSpoken u.number steps
    → (end ≡ None → u.number ≢ unopened) → IsServed trail control end u → IsServed (steps ++ trail) control end u
spoken_served steps trail control end u spoken loud is = record {
  later = steps ++ is.later;
  whole = ap (λ (t : List Step). steps ++ t) is.whole ∙ sym (append_assoc steps is.later greeted);
  said = said_append u.number steps is.later (spoken_said u.number steps spoken) is.said;
  quiet = λ none live. absurd (loud none live);
  going = λ none. subst (λ (ps : List Parts). Serves (steps ++ trail) (on control) ps) (sym (spoken_answered u.number steps trail spoken))
      (spoken_serves u.number steps trail (on control) (answered trail) spoken (is.going none));
  same = is.same;
  ended = λ o some. spoken_stops u.number steps trail u o (remains_of control) spoken (is.ended o some);
}

-- what is unread counts for nothing while the call goes on
pub going_served : (trail : List Step) (control : ServingValue) (end : Option Over) (u v : Unread) → end ≡ None → v.number ≡ u.number
    → IsServed trail control end u → IsServed trail control end v
going_served trail control end u v none same is = record {
  later = is.later;
  whole = is.whole;
  said = subst (λ (n : ℕ). AreSaid n is.later) (sym same) is.said;
  quiet = λ e live. is.quiet e (sym same ∙ live);
  going = is.going;
  same = λ e. same ∙ is.same e;
  ended = λ o some. absurd (none_some (sym none ∙ some));
}

-- why a call is over, if it is
abbrev StopsIf : List Step → Unread → Remains → Option Over → Type 0
StopsIf trail u r None = ⊥
StopsIf trail u r (Some o) = Stops trail u o r

-- a call that is over
pub over_served : (trail : List Step) (control : ServingValue) (u v : Unread) (o : Over) → v.number ≡ u.number
    → (later : List Step) → trail ≡ later ++ greeted → AreSaid u.number later
    → Stops trail v o (remains_of control) → IsServed trail control (Some o) v
over_served trail control u v o same later whole said stops = record {
  later = later;
  whole = whole;
  said = subst (λ (n : ℕ). AreSaid n later) (sym same) said;
  quiet = λ e. absurd (none_some (sym e));
  going = λ e. absurd (none_some (sym e));
  same = λ e. absurd (none_some (sym e));
  ended = λ p other. subst (λ (x : Option Over). StopsIf trail v (remains_of control) x) other stops;
}

-- what is written while the call's stream is live
pub spoke : (steps trail : List Step) (control : ServingValue) (end : Option Over) (u v : Unread) → IsStream u.number → end ≡ None
    → v.number ≡ u.number → AreSpoken u.number steps → IsServed trail control end u → IsServed (steps ++ trail) control end v
spoke steps trail control end u v live none same spoken is =
    going_served (steps ++ trail) control end u v none same
    (spoken_served steps trail control end u spoken (λ _ e. absurd (omega (arith, e, live.1))) is)
