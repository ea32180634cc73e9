use Rattle.std.proofs.Common.{◌<◌, ◌∙◌, Some, length, refl, sym}
use Rattle.serve_log.proofs.RecorderLemmas.{receives_by, receives_none}
use Rattle.serve_log.proofs.recorder.Recorder.received.Goals as goal

pub returns-in-Some-clause-adds : goal.returns-in-Some-clause-adds
returns-in-Some-clause-adds g c =
    let room : c.args.place < length c.moved-connection.new.self.connections.items =
    rw c.moved-connection.ensures.connections (c.in-Some.ensures.room refl) in
    receives_by g.F.File.Write.contents c.args.bytes.now c.args.is_fresh c.is_some.result c.deliver-line.result _ _
    c.in-Some.connection c.moved-connection.result c.after_bytes.result c.args.self.now.open_files c.take.new.self.open_files
    c.moved-connection.new.self.open_files c.deliver-line.new.files _ c.take.ensures.nothing c.moved-connection.ensures.moves
    c.deliver-line.ensures.delivers c.deliver-line.ensures.out c.put.ensures.nothing (λ h. sym c.is_some.ensures ∙ h)
    c.after_bytes.ensures.same c.after_bytes.ensures.recorded c.after_bytes.ensures.lost (sym c.in-Some.ensures.found)
    (c.put.ensures.place room)

pub returns-in-Some-clause-others : goal.returns-in-Some-clause-others
returns-in-Some-clause-others g c = λ k other.
    c.put.ensures.others k other ∙ (rw c.moved-connection.ensures.connections (c.take.ensures.others k other))

pub returns-in-None-clause-adds : goal.returns-in-None-clause-adds
returns-in-None-clause-adds g c =
    receives_none g.F.File.Write.contents c.args.bytes.now c.args.is_fresh _ _ c.args.self.now.open_files _
    c.take.ensures.nothing (sym c.in-None.ensures.found) c.take.ensures.place
