use Rattle.stream_pumps.proofs.PumpLemmas.{closing_reported}
use Rattle.stream_pumps.proofs.pumps.serve_connection.Goals as goal

pub returns : goal.returns
returns g c = record {
  between = _;
  receives = c.receive_connection-end.ensures;
  closes = closing_reported c.step.result _ _ c.step.ensures.found (c.step.ensures.sure tt);
}
