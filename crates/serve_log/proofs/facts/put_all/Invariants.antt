-- The members so far are those of the facts so far.
use Rattle.std.proofs.Common.{◌≡◌, take}
use Rattle.attributes.specs.Conn.{conn_view}
use Rattle.serde_json.specs.View.{members_view}
use Rattle.serve_log.specs.private.PutFacts.{put_facts}
use Rattle.serve_log.proofs.facts.put_all.Given as goal

abbrev pub invariant-loop-fact : goal.invariant-loop-fact
invariant-loop-fact l =
    members_view l.members.entries ≡ put_facts (conn_view l.conn) (take l.fact-index l.facts) (members_view l.fn.members.entries)
