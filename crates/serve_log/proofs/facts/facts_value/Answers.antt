use Rattle.std.proofs.Common.{◌≡◌, ◌∙◌, [], ap}
use Rattle.attributes.specs.Conn.{conn_view}
use Rattle.serde_json.specs.Data.{object, no_members}
use Rattle.serde_json.specs.View.{members_view}
use Rattle.serde_json.proofs.Views.{view-Object}
use Rattle.program_texts.specs.WrittenFacts.{facts_by_name}
use Rattle.serve_log.specs.private.PutFacts.{put_facts}
use Rattle.serve_log.proofs.PutFacts.{puts_known}
use Rattle.serve_log.proofs.facts.facts_value.Goals as goal

pub returns : goal.returns
returns c =
    let f = conn_view c.args.conn.now in
    view-Object _ ∙ ap object (c.in_ok-put_all.ensures ∙ ap (put_facts f facts_by_name) (ap members_view c.new-members.ensures.empty) ∙ puts_known f)
