-- Lines that say that the file of a control plane cannot be read are at least a minute apart.
use Rattle.std.proofs.Common.{◌≡◌, ◌≤◌, ◌+◌, ◌-◌, ◌∙◌, ℕ, nat_le, Bool, true, false, List, [], ◌∷◌, Option, Some, None, refl, sym, ap, arith, if◌then◌else◌}
use Rattle.std.proofs.lemmas.Bool.Decides.{nat_tests}
use Rattle.serve_loop.specs.History.{EventValue, accepted, connected, received, closed, drain}
use Rattle.serve_loop.specs.declared.observer.Failed.{Failed}
use Rattle.serve_loop.specs.declared.observer.Failed.TheVariants.{Accept, Connect}
use Rattle.serve_loop.specs.declared.stream.Stream.TheVariants.{Place, Updates}
use Rattle.serve_observe.specs.declared.control.ControlState.{ControlState}
use Rattle.serve_observe.specs.Control.{is_due, after_event, after_failed_opening, unread, ControlStep, event, failed_opening, failed_look, good_look, known_after, logged_times, AreMinutesApart}

-- the latest of times
abbrev latest : List ℕ → Option ℕ
latest [] = None
latest (time ∷ times) = Some time

-- an event is no line that the file cannot be read
event_logs_none : {F : Type 0} (e : EventValue F) (is_taken : Bool) (c : ControlState) → (after_event e is_taken c).logged ≡ c.logged
event_logs_none connected true c = refl
event_logs_none connected false c = refl
event_logs_none (closed Updates) is_taken c = refl
event_logs_none (closed (Place k)) is_taken c = refl
event_logs_none (accepted k facts) is_taken c = refl
event_logs_none (received s bytes) is_taken c = refl
event_logs_none drain is_taken c = refl

-- nor is an opening that failed
opening_logs_none : (failed : Failed) (c : ControlState) → (after_failed_opening failed c).logged ≡ c.logged
opening_logs_none Accept c = refl
opening_logs_none Connect c = refl

-- a failed look adds its time to those that were logged, if it is due
look_logs : (b : Bool) (now : ℕ) (c : ControlState) (times : List ℕ) → c.logged ≡ latest times
    → (if b then record (unread c) { logged = Some now; says_unread = true } else unread c).logged
    ≡ latest (if b then now ∷ times else times)
look_logs true now c times is = refl
look_logs false now c times is = is

-- what is known has the latest time that was logged
logged_is : {F : Type 0} (steps : List (ControlStep F)) → (known_after steps).logged ≡ latest (logged_times steps)
logged_is [] = refl
logged_is (event e is_taken ∷ steps) = event_logs_none e is_taken (known_after steps) ∙ logged_is steps
logged_is (failed_opening failed ∷ steps) = opening_logs_none failed (known_after steps) ∙ logged_is steps
logged_is (good_look ∷ steps) = logged_is steps
logged_is (failed_look now ∷ steps) =
    look_logs (is_due (known_after steps).logged now) now (known_after steps) (logged_times steps) (logged_is steps)

-- a time that is due is a minute after the latest
later : (now last : ℕ) → nat_le 60000 (now - last) ≡ true → last + 60000 ≤ now
later now last due = grind (arith, nat_tests)

-- a time that is due is a minute after those before it
follows : (now : ℕ) (times : List ℕ) (b : Bool) → is_due (latest times) now ≡ b → AreMinutesApart times
    → AreMinutesApart (if b then now ∷ times else times)
follows now times false due apart = apart
follows now [] true due apart = tt
follows now (last ∷ times) true due apart = (later now last due, apart)

pub minutes_apart : {F : Type 0} (steps : List (ControlStep F)) → AreMinutesApart (logged_times steps)
minutes_apart [] = tt
minutes_apart (event e is_taken ∷ steps) = minutes_apart steps
minutes_apart (failed_opening failed ∷ steps) = minutes_apart steps
minutes_apart (good_look ∷ steps) = minutes_apart steps
minutes_apart (failed_look now ∷ steps) =
    let times = logged_times steps in
    let last = (known_after steps).logged in
    let due : is_due (latest times) now ≡ is_due last now = ap (λ (o : Option ℕ). is_due o now) (sym (logged_is steps)) in
    follows now times (is_due last now) due (minutes_apart steps)
