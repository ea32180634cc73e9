use Rattle.std.proofs.Common.{[], List, map, refl, sym, ap, arith}
use Rattle.http2.specs.StreamViews.{call_view}
use Rattle.http2.specs.declared.stream.Call.{Call}
use Rattle.http2.proofs.unary.UnaryServer.new.Goals as goal

pub returns : goal.returns
returns c =
    let wire = c.in_ok-wire.ensures in
    let first = c.new-2.ensures.first in
    record {
      out = wire.1;
      goes_on = refl;
      law = record {
        later = [];
        arrived = refl;
        unheard = λ _. refl;
        greeting = λ _ _. wire.0;
        frames = (record { whole = refl; small = omega arith }, (record { whole = refl; small = omega arith }, tt));
        heard = sym wire.0;
        written = wire.1;
        is = (
          [],
          refl,
          (
            first,
            ap (λ (cs : List Call). map call_view cs) c.new-3.ensures.items,
            refl,
          ),
        );
      };
    }
