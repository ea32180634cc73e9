use Rattle.proxy_replay.proofs.RecordLaws.{replay_takes_events}
use Rattle.proxy_replay.proofs.laws.a_replay_of_a_record_takes_its_events.Goals as goal

pub returns : goal.returns
returns c = replay_takes_events
