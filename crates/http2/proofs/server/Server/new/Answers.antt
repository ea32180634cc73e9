use Rattle.std.proofs.Common.{[], refl, sym, ap, ◌∙◌, arith}
use Rattle.http2.specs.Trail.{greeted}
use Rattle.http2.specs.Serving.{ServingValue, on}
use Rattle.http2.proofs.Calls.{none_some}
use Rattle.http2.proofs.server.Server.new.Goals as goal

pub returns : goal.returns
returns c =
    let pipe = c.in_ok-pipe.ensures in
    let first = c.new.ensures.first in
    record {
      out = pipe.out;
      law = record {
        later = [];
        trail = greeted;
        arrived = refl;
        behind = λ _. refl;
        law = pipe.law;
        is_served = record {
          later = [];
          whole = refl;
          said = tt;
          quiet = λ _ _. (
            (λ e. absurd (omega (arith, e)), λ _. refl),
            ((λ e. absurd (omega (arith, e)), λ e. absurd (omega (arith, e))), tt),
          );
          going = λ _. (ap (λ (v : ServingValue). on v) first, refl);
          same = λ _. pipe.number ∙ sym (ap (λ (v : ServingValue). v.number) first);
          ended = λ o some. absurd (none_some some);
        };
      };
    }
