use Rattle.stream_pumps.proofs.pumps.serve_stream.Goals as goal

pub returns : goal.returns
returns g c = record { between = _; receives = c.receive_requests.ensures; reported = c.lost.ensures }
