-- The call's stream opens: until then no frame was on it.
use Rattle.std.proofs.Common.{◌≡◌, ◌≢◌, ℕ, ◌+◌, ◌==◌, Bool, true, false, List, [], ◌∷◌, ◌++◌, refl, sym, ap, ap₂, ◌∙◌, inl, inr, arith, if◌then◌else◌}
use Rattle.std.proofs.lemmas.Bool.{cases_lt}
use Rattle.http2.specs.Frame.{kind_of, stream_of, data_on, flow_of, flow_on, increment_of}
use Rattle.http2.specs.Trail.{Step, got, put, Line, Law, IsQuiet, AreQuiet, data_got, data_put, flow_got_on, raised, given, offered, IsGranted}
use Rattle.http2.proofs.Frames.{other_data, other_flow, other_increment, no_increment}

quiet_data : (n : ℕ) (frame : List ℕ) → IsQuiet frame → data_on n frame ≡ []
quiet_data n frame quiet = other_data n frame (kind_of frame) refl quiet.0

quiet_flow : (frame : List ℕ) → IsQuiet frame → flow_of frame ≡ 0
quiet_flow frame quiet = other_flow frame (kind_of frame) refl quiet.0

nothing_if : (b : Bool) → ◌≡◌ {A = ℕ} (if b then 0 else 0) 0
nothing_if true = refl
nothing_if false = refl

quiet_flow_on : (n : ℕ) (frame : List ℕ) → IsQuiet frame → flow_on n frame ≡ 0
quiet_flow_on n frame quiet =
    ap (λ (k : ℕ). if stream_of frame == n then k else 0) (quiet_flow frame quiet) ∙ nothing_if (stream_of frame == n)

quiet_increment : (n : ℕ) (frame : List ℕ) → n ≢ 0 → IsQuiet frame → increment_of n frame ≡ 0
quiet_increment n frame some quiet = elim (cases_lt (kind_of frame) 8) [
  | inl less ↦ other_increment n frame (kind_of frame) refl (λ e. absurd (omega (arith, less, e)))
  | inr most ↦ elim (cases_lt 8 (kind_of frame)) [
    | inl more ↦ other_increment n frame (kind_of frame) refl (λ e. absurd (omega (arith, more, e)))
    | inr least ↦
        let eight : kind_of frame ≡ 8 = omega (arith, most, least) in
        no_increment n frame eight (λ on. some (sym on ∙ quiet.1 eight))
  ]
]

quiet_got : (n : ℕ) (trail : List Step) → AreQuiet trail → data_got n trail ≡ []
quiet_got n [] quiet = refl
quiet_got n (got frame ∷ trail) (is, quiet) = ap₂ (λ (a b : List ℕ). a ++ b) (quiet_got n trail quiet) (quiet_data n frame is)
quiet_got n (put frame ∷ trail) (is, quiet) = quiet_got n trail quiet

quiet_put : (n : ℕ) (trail : List Step) → AreQuiet trail → data_put n trail ≡ []
quiet_put n [] quiet = refl
quiet_put n (got frame ∷ trail) (is, quiet) = quiet_put n trail quiet
quiet_put n (put frame ∷ trail) (is, quiet) = ap₂ (λ (a b : List ℕ). a ++ b) (quiet_put n trail quiet) (quiet_data n frame is)

quiet_flows : (n : ℕ) (trail : List Step) → AreQuiet trail → flow_got_on n trail ≡ 0
quiet_flows n [] quiet = refl
quiet_flows n (got frame ∷ trail) (is, quiet) = ap₂ (λ (a b : ℕ). a + b) (quiet_flows n trail quiet) (quiet_flow_on n frame is)
quiet_flows n (put frame ∷ trail) (is, quiet) = quiet_flows n trail quiet

quiet_raised : (n : ℕ) (trail : List Step) → n ≢ 0 → AreQuiet trail → raised n trail ≡ 0
quiet_raised n [] some quiet = refl
quiet_raised n (got frame ∷ trail) some (is, quiet) =
    ap₂ (λ (a b : ℕ). a + b) (quiet_raised n trail some quiet) (quiet_increment n frame some is)
quiet_raised n (put frame ∷ trail) some (is, quiet) = quiet_raised n trail some quiet

quiet_given : (n : ℕ) (trail : List Step) → n ≢ 0 → AreQuiet trail → given n trail ≡ 0
quiet_given n [] some quiet = refl
quiet_given n (got frame ∷ trail) some (is, quiet) = quiet_given n trail some quiet
quiet_given n (put frame ∷ trail) some (is, quiet) =
    ap₂ (λ (a b : ℕ). a + b) (quiet_given n trail some quiet) (quiet_increment n frame some is)

quiet_granted : (n : ℕ) (trail : List Step) → AreQuiet trail → IsGranted n trail
quiet_granted n [] quiet = tt
quiet_granted n (got frame ∷ trail) (is, quiet) = quiet_granted n trail quiet
quiet_granted n (put frame ∷ trail) (is, quiet) = (λ some. absurd (omega (arith, some, quiet_flow frame is)), quiet_granted n trail quiet)

-- the same law on the stream that opens
pub law_opened : (trail : List Step) (came sent took gave : List ℕ) (line : Line) (n : ℕ) → line.number ≢ 0 → n ≢ 0 → AreQuiet trail
    → Law trail came sent took gave line → Law trail came sent took gave (record line { number = n })
law_opened trail came sent took gave line n old new quiet law = record {
  frames = law.frames;
  arrived = law.arrived;
  handed = quiet_got n trail quiet ∙ sym (quiet_got line.number trail quiet) ∙ law.handed;
  written = law.written;
  said = quiet_put n trail quiet ∙ sym (quiet_put line.number trail quiet) ∙ law.said;
  granted = quiet_granted n trail quiet;
  window_is = law.window_is;
  stream_is = law.stream_is ∙ quiet_raised line.number trail old quiet ∙ sym (quiet_raised n trail new quiet);
  connection_is = law.connection_is;
  used_is = law.used_is;
  unended = law.unended;
  finished_is = law.finished_is;
  waits_is = law.waits_is;
  stream_given = ap (λ (k : ℕ). offered trail + k) (quiet_given n trail new quiet ∙ sym (quiet_given line.number trail old quiet))
      ∙ law.stream_given
      ∙ ap (λ (k : ℕ). k + line.stream_credit) (quiet_flows line.number trail quiet ∙ sym (quiet_flows n trail quiet));
  connection_given = law.connection_given;
}
