-- What each call does to the law.
use Rattle.std.proofs.Common.{◌≡◌, ◌≤◌, ◌<◌, ℕ, ◌+◌, Bool, false, refl, Option, None, List, [], ◌∷◌, ◌++◌, take, drop, sym, ap, ap₂, subst, ◌∙◌, arith, append_assoc, append-nil}
use Rattle.std.proofs.lemmas.List.{take-append-drop}
use Rattle.http2.specs.Frame.{IsFrame, kind_of, data_on, flow_of, flow_on, increment_of, window_after}
use Rattle.http2.specs.Trail.{Step, got, put, preface, settings_frame, window_frame, connected, greeting_frame, greeted, Line, Law, bytes_got, bytes_put, data_got, data_put, raised, given, flow_got_on, offered, IsGranted, finished_after, pinged, ponged, Gives}

-- the opening
pub law_connected : (line : Line) → line.number ≡ 1 → line.rest ≡ [] → line.data_in ≡ [] → line.out ≡ preface ++ settings_frame ++ window_frame
    → line.window ≡ 65535 → line.stream ≡ 0 → line.connection ≡ 0 → line.used ≡ 0
    → line.stream_credit ≡ 1048581 → line.connection_credit ≡ 1048581 → line.finished ≡ false → line.waits ≡ None
    → Law connected [] [] [] [] line
law_connected line number rest data_in out window stream connection used first second finished waits = record {
  frames = (record { whole = refl; small = omega arith }, (record { whole = refl; small = omega arith }, tt));
  arrived = sym rest;
  handed = sym data_in;
  written = out;
  said = refl;
  granted = (λ some. absurd (omega (arith, some)), (λ some. absurd (omega (arith, some)), tt));
  window_is = window;
  stream_is = stream;
  connection_is = connection;
  used_is = used;
  unended = (λ kind. refl, (λ kind. refl, tt));
  finished_is = finished;
  waits_is = waits;
  stream_given = rw number (omega (arith, first));
  connection_given = omega (arith, second);
}

-- a server's
pub law_greeted : (line : Line) → line.number ≡ 2147483648 → line.rest ≡ [] → line.data_in ≡ [] → line.out ≡ greeting_frame ++ window_frame
    → line.window ≡ 65535 → line.stream ≡ 0 → line.connection ≡ 0 → line.used ≡ 0
    → line.stream_credit ≡ 1048581 → line.connection_credit ≡ 1048581 → line.finished ≡ false → line.waits ≡ None
    → Law greeted [] preface [] [] line
law_greeted line number rest data_in out window stream connection used first second finished waits = record {
  frames = (record { whole = refl; small = omega arith }, (record { whole = refl; small = omega arith }, tt));
  arrived = sym rest;
  handed = sym data_in;
  written = ap (λ (t : List ℕ). preface ++ t) out;
  said = refl;
  granted = (λ some. absurd (omega (arith, some)), (λ some. absurd (omega (arith, some)), tt));
  window_is = window;
  stream_is = stream;
  connection_is = connection;
  used_is = used;
  unended = (λ kind. refl, (λ kind. refl, tt));
  finished_is = finished;
  waits_is = waits;
  stream_given = rw number (omega (arith, first));
  connection_given = omega (arith, second);
}

-- a frame is looked at
pub law_got : (trail : List Step) (came sent took gave : List ℕ) (old new : Line) (frame : List ℕ) → IsFrame frame → new.number ≡ old.number
    → old.rest ≡ frame ++ new.rest → new.data_in ≡ old.data_in ++ data_on old.number frame → new.out ≡ old.out
    → new.window ≡ window_after old.window frame → new.stream ≡ old.stream + increment_of old.number frame
    → new.connection ≡ old.connection + increment_of 0 frame → new.used ≡ old.used
    → new.stream_credit + flow_on old.number frame ≡ old.stream_credit → new.connection_credit + flow_of frame ≡ old.connection_credit
    → new.finished ≡ old.finished → new.waits ≡ ponged old.waits frame
    → Law trail came sent took gave old → Law (got frame ∷ trail) came sent took gave new
law_got trail came sent took gave old new frame is number rest data_in out window stream connection used first second finished waits law = record {
  frames = (is, law.frames);
  arrived = law.arrived ∙ ap (λ (t : List ℕ). bytes_got trail ++ t) rest ∙ sym (append_assoc (bytes_got trail) frame new.rest);
  handed = ap (λ (n : ℕ). data_got n trail ++ data_on n frame) number
      ∙ ap (λ (t : List ℕ). t ++ data_on old.number frame) law.handed ∙ append_assoc took old.data_in (data_on old.number frame)
      ∙ ap (λ (t : List ℕ). took ++ t) (sym data_in);
  written = ap (λ (t : List ℕ). sent ++ t) out ∙ law.written;
  said = ap (λ (n : ℕ). data_put n trail) number ∙ law.said;
  granted = subst (λ (n : ℕ). IsGranted n trail) (sym number) law.granted;
  window_is = window ∙ ap (λ (n : ℕ). window_after n frame) law.window_is;
  stream_is = stream ∙ ap (λ (n : ℕ). n + increment_of old.number frame) law.stream_is
      ∙ ap (λ (n : ℕ). raised n trail + increment_of n frame) (sym number);
  connection_is = connection ∙ ap (λ (n : ℕ). n + increment_of 0 frame) law.connection_is;
  used_is = used ∙ law.used_is;
  unended = law.unended;
  finished_is = finished ∙ law.finished_is;
  waits_is = waits ∙ ap (λ (o : Option ℕ). ponged o frame) law.waits_is;
  stream_given = ap (λ (n : ℕ). offered trail + given n trail) number
      ∙ (let known = law.stream_given in
      let both : offered trail + given old.number trail ≡ (flow_got_on old.number trail + flow_on old.number frame) + new.stream_credit
      = omega (arith, known, first) in both)
      ∙ ap (λ (n : ℕ). (flow_got_on n trail + flow_on n frame) + new.stream_credit) (sym number);
  connection_given = omega (arith, law.connection_given, second);
}

-- nothing is written, of no data
pub law_same : (line : Line) → Gives [] [] line line
law_same line = λ trail came sent took gave law.
    subst (λ (g : List ℕ). Law trail came sent took g line) (sym (append-nil gave)) law

-- a frame is written with this of the core's data
pub record Puts (frame more : List ℕ) (old new : Line) : Type 0 where
  pub is : IsFrame frame
  pub number : new.number ≡ old.number
  pub brings : data_on old.number frame ≡ more
  pub within : 0 < flow_of frame
      → (old.used + flow_of frame ≤ old.window + old.stream) × (old.used + flow_of frame ≤ 65535 + old.connection)
  pub unended : kind_of frame ≡ 0 → old.finished ≡ false
  pub same_window : (w : ℕ) → window_after w frame ≡ w
  pub rest : new.rest ≡ old.rest
  pub data_in : new.data_in ≡ old.data_in
  pub out : new.out ≡ old.out ++ frame
  pub window : new.window ≡ old.window
  pub stream : new.stream ≡ old.stream
  pub connection : new.connection ≡ old.connection
  pub used : new.used ≡ old.used + flow_of frame
  pub stream_credit : new.stream_credit ≡ old.stream_credit + increment_of old.number frame
  pub connection_credit : new.connection_credit ≡ old.connection_credit + increment_of 0 frame
  pub finished : new.finished ≡ finished_after old.finished frame
  pub waits : new.waits ≡ pinged old.waits frame

pub law_put : (trail : List Step) (came sent took gave : List ℕ) (old new : Line) (frame more : List ℕ) → Puts frame more old new
    → Law trail came sent took gave old → Law (put frame ∷ trail) came sent took (gave ++ more) new
law_put trail came sent took gave old new frame more puts law = record {
  frames = (puts.is, law.frames);
  arrived = law.arrived ∙ ap (λ (t : List ℕ). bytes_got trail ++ t) (sym puts.rest);
  handed = ap (λ (n : ℕ). data_got n trail) puts.number ∙ law.handed ∙ ap (λ (t : List ℕ). took ++ t) (sym puts.data_in);
  written = ap (λ (t : List ℕ). sent ++ t) puts.out ∙ sym (append_assoc sent old.out frame)
      ∙ ap (λ (t : List ℕ). t ++ frame) law.written ∙ append_assoc preface (bytes_put trail) frame;
  said = ap (λ (n : ℕ). data_put n trail ++ data_on n frame) puts.number ∙ ap₂ (λ (a b : List ℕ). a ++ b) law.said puts.brings;
  granted = subst (λ (n : ℕ). IsGranted n (put frame ∷ trail)) (sym puts.number)
      (λ some. rw (← law.used_is, ← law.window_is, ← law.stream_is, ← law.connection_is) (puts.within some), law.granted);
  window_is = puts.window ∙ law.window_is;
  stream_is = puts.stream ∙ law.stream_is ∙ ap (λ (n : ℕ). raised n trail) (sym puts.number);
  connection_is = puts.connection ∙ law.connection_is;
  used_is = puts.used ∙ ap (λ (n : ℕ). n + flow_of frame) law.used_is;
  unended = (λ kind. sym law.finished_is ∙ puts.unended kind, law.unended);
  finished_is = puts.finished ∙ ap (λ (b : Bool). finished_after b frame) law.finished_is;
  waits_is = puts.waits ∙ ap (λ (o : Option ℕ). pinged o frame) law.waits_is;
  stream_given = ap (λ (n : ℕ). window_after (offered trail) frame + (given n trail + increment_of n frame)) puts.number
      ∙ (let both : window_after (offered trail) frame + (given old.number trail + increment_of old.number frame)
      ≡ flow_got_on old.number trail + new.stream_credit
      = omega (arith, law.stream_given, puts.stream_credit, puts.same_window (offered trail)) in both)
      ∙ ap (λ (n : ℕ). flow_got_on n trail + new.stream_credit) (sym puts.number);
  connection_given = omega (arith, law.connection_given, puts.connection_credit);
}

-- a frame is written without data
pub law_silent : (trail : List Step) (came sent took gave : List ℕ) (old new : Line) (frame : List ℕ) → Puts frame [] old new
    → Law trail came sent took gave old → Law (put frame ∷ trail) came sent took gave new
law_silent trail came sent took gave old new frame puts law =
    subst (λ (g : List ℕ). Law (put frame ∷ trail) came sent took g new) (append-nil gave)
    (law_put trail came sent took gave old new frame [] puts law)

-- the first bytes that wait are sent
pub law_sent : (trail : List Step) (came sent took gave : List ℕ) (old new : Line) (count : ℕ) → new ≡ record old { out = drop count old.out }
    → Law trail came sent took gave old → Law trail came (sent ++ take count old.out) took gave new
law_sent trail came sent took gave old new count is law = rw is (record {
  frames = law.frames;
  arrived = law.arrived;
  handed = law.handed;
  written = append_assoc sent (take count old.out) (drop count old.out)
      ∙ ap (λ (t : List ℕ). sent ++ t) (take-append-drop count old.out) ∙ law.written;
  said = law.said;
  granted = law.granted;
  window_is = law.window_is;
  stream_is = law.stream_is;
  connection_is = law.connection_is;
  used_is = law.used_is;
  unended = law.unended;
  finished_is = law.finished_is;
  waits_is = law.waits_is;
  stream_given = law.stream_given;
  connection_given = law.connection_given;
})
