use Rattle.std.proofs.Common.{true, subst}
use Rattle.attributes.specs.Conn.{conn_view}
use Rattle.serve_log.specs.Recording.{Begins, Ends, Receives, connection_at}
use Rattle.serve_observe.specs.Recording.{RecordsRequest}
use Rattle.serve_observe.proofs.RecordLemmas.{three_steps}
use Rattle.serve_observe.proofs.observers.Observers.record_client.Goals as goal

pub returns-clause-records : goal.returns-clause-records
returns-clause-records g c =
    let contents = g.F.File.Write.contents in
    let k = c.args.k in
    let request = c.args.request.now in
    three_steps c.args.self.now.logs.recorder c.record.new.self.logs.recorder c.record-position.new.self.logs.recorder
    c.record-2.new.self.logs.recorder
    (λ a b. Begins contents c.args.number (conn_view request.conn) (connection_at k b.connections.items) a.open_files b.open_files)
    (λ a b. Receives contents c.as_bytes.result.now true (connection_at k a.connections.items)
    (connection_at k b.connections.items) a.open_files b.open_files)
    (λ a b. Ends contents (connection_at k a.connections.items) a.open_files b.open_files)
    (λ a b. RecordsRequest contents k c.args.number request (a.connections.items, a.open_files) (b.connections.items, b.open_files))
    c.record.ensures.same c.record-position.ensures.same c.record.ensures.records c.record-position.ensures.records
    c.record-2.ensures.records
    (λ a b d e one two three. record {
      opened = (b.connections.items, b.open_files);
      received = (d.connections.items, d.open_files);
      opens = one;
      receives = subst (λ bytes. Receives contents bytes true (connection_at k b.connections.items)
          (connection_at k d.connections.items) b.open_files d.open_files) c.as_bytes.ensures.value two;
      ends = three;
    })
