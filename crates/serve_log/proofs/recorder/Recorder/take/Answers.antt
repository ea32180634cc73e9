use Rattle.std.proofs.Common.{None, sym}
use Rattle.std.proofs.lemmas.List.{get_or-set_other}
use Rattle.serve_log.proofs.OpenLemmas.{adds_nothing}
use Rattle.serve_log.proofs.RecorderLemmas.{place_room, place_taken, taken_room}
use Rattle.serve_log.proofs.recorder.Recorder.take.Goals as goal

pub returns-in-Some-clause-place : goal.returns-in-Some-clause-place
returns-in-Some-clause-place g c =
    rw c.in-Some.ensures.taken (place_taken c.args.self.now.connections.items c.args.place)

pub returns-in-Some-clause-room : goal.returns-in-Some-clause-room
returns-in-Some-clause-room g c = λ some.
    rw c.in-Some.ensures.taken
    (taken_room c.args.self.now.connections.items c.args.place _ (sym c.in-Some.ensures.found))

pub returns-in-Some-clause-others : goal.returns-in-Some-clause-others
returns-in-Some-clause-others g c = λ k other.
    rw c.in-Some.ensures.taken
    (get_or-set_other c.args.self.now.connections.items c.args.place k None None other)

pub returns-in-None-clause-nothing : goal.returns-in-None-clause-nothing
returns-in-None-clause-nothing g c = adds_nothing g.F.File.Write.contents c.args.self.now.open_files

pub returns-in-None-clause-place : goal.returns-in-None-clause-place
returns-in-None-clause-place g c =
    rw c.in-None.ensures.taken (place_taken c.args.self.now.connections.items c.args.place)

pub returns-in-None-clause-others : goal.returns-in-None-clause-others
returns-in-None-clause-others g c = λ k other.
    rw c.in-None.ensures.taken
    (get_or-set_other c.args.self.now.connections.items c.args.place k None None other)
