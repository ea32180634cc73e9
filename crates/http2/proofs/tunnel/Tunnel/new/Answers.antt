use Rattle.std.proofs.Common.{List, ℕ, Bool, [], ◌∷◌, None, ◌++◌, refl, ap, ◌∙◌, arith, if◌then◌else◌}
use Rattle.http2.specs.Frame.{parts_of}
use Rattle.http2.specs.Trail.{put, connected}
use Rattle.http2.specs.Control.{ControlValue, goes_on}
use Rattle.http2.specs.Controls.{control_view}
use Rattle.http2.specs.Call.{replied}
use Rattle.http2.proofs.Calls.{other_reply, is_going}
use Rattle.http2.proofs.tunnel.Tunnel.new.Goals as goal

pub returns : goal.returns
returns c =
    let asked = c.in_ok-ask.ensures.law in
    let first : List ℕ = asked.0 in
    let quiet = other_reply first 1 asked.1.kind (λ e. absurd (omega (arith, e))) (λ e. absurd (omega (arith, e))) in
    record {
      first = first;
      asks = asked.1;
      out = asked.2 ∙ ap (λ (t : List ℕ). t ++ first) c.in_ok-pipe.ensures.out;
      law = record {
        trail = put first ∷ connected;
        law = asked.3 connected [] [] [] [] c.in_ok-pipe.ensures.law;
        is_after = is_going first (put first ∷ connected) (control_view c.new-2.result) None _ refl
            (record { later = []; whole = refl; written = tt })
            (ap (λ (c : ControlValue). goes_on c) c.new-2.ensures.first)
            (ap (λ (b : Bool). replied connected ++ (if b then parts_of first ∷ [] else [])) quiet);
      };
    }
