use Rattle.std.proofs.Common.{◌<◌, ◌∙◌, length}
use Rattle.attributes.specs.Conn.{conn_view}
use Rattle.serve_log.proofs.RecorderLemmas.{begins_by, begins_none}
use Rattle.serve_log.proofs.recorder.Recorder.opened.Goals as goal

pub returns-in-Ok-clause-adds : goal.returns-in-Ok-clause-adds
returns-in-Ok-clause-adds g c =
    let room : c.args.place < length c.opened_here-connection.new.self.connections.items =
    rw c.opened_here-connection.ensures.connections c.in-Ok.ensures.room in
    begins_by _ c.args.number (conn_view c.args.facts.now) c.in-Ok.connection c.opened_here-connection.result _
    c.args.self.now.open_files c.begun_in.new.self.open_files c.opened_here-connection.new.self.open_files _
    c.in-Ok.ensures.number.0 c.in-Ok.ensures.facts c.in-Ok.ensures.number.1
    (rw c.begun_in.ensures.files c.take.ensures.nothing) c.opened_here-connection.ensures.opens c.put.ensures.nothing
    (c.put.ensures.place room)

pub returns-in-Ok-clause-others : goal.returns-in-Ok-clause-others
returns-in-Ok-clause-others g c = λ k other.
    c.put.ensures.others k other
    ∙ (rw c.opened_here-connection.ensures.connections (c.begun_in.ensures.connections k ∙ c.take.ensures.others k other))

pub returns-in-Err-clause-adds : goal.returns-in-Err-clause-adds
returns-in-Err-clause-adds g c =
    begins_none _ c.args.number (conn_view c.args.facts.now) _ c.args.self.now.open_files c.begun_in.new.self.open_files _
    (rw c.begun_in.ensures.files c.take.ensures.nothing) c.lose.ensures
    (c.begun_in.ensures.connections c.args.place ∙ c.take.ensures.place)

pub returns-in-Err-clause-others : goal.returns-in-Err-clause-others
returns-in-Err-clause-others g c = λ k other. c.begun_in.ensures.connections k ∙ c.take.ensures.others k other
