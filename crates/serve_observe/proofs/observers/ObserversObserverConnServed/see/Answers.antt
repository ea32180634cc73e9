use Rattle.std.proofs.Common.{◌∙◌, ap, is_some}
use Rattle.serve_loop.specs.Events.{event_view}
use Rattle.serve_observe.proofs.RecordLemmas.{event_recorded}
use Rattle.serve_observe.proofs.observers.ObserversObserverConnServed.see.Goals as goal

pub returns-clause-records : goal.returns-clause-records
returns-clause-records g c =
    event_recorded g.F.File.Write.contents (λ r. (r.connections.items, r.open_files)) c.args.service.now
    (is_some c.args.outcome) (event_view c.args.event.now) c.args.self.now.logs.recorder
    c.number-number.new.self.logs.recorder c.record_event-record.new.self.logs.recorder c.note.new.self.logs.recorder
    c.set_control.new.self.logs.recorder c.args.self.now.connections.next c.number-number.new.self.connections.next
    c.record_event-record.new.self.connections.next c.note.new.self.connections.next
    c.set_control.new.self.connections.next c.number-number.result c.number-number.ensures.record
    c.number-number.ensures.next c.number-number.ensures.number c.record_event-record.ensures.same
    c.record_event-record.ensures.records (ap (λ cs. cs.next) c.record_event-record.ensures.numbers)
    c.note.ensures.records (c.set_control.ensures.record ∙ c.look.ensures.record)
    (c.set_control.ensures.numbers ∙ c.look.ensures.numbers)
