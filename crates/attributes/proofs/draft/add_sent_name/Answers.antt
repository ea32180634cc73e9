-- The Host field has a known name.
use Rattle.std.proofs.Common.{◌≡◌, codes, map}
use Rattle.std.specs.Char.{to_ascii_lowercase}
use Rattle.attributes.proofs.Drafts.{authority_at}
use Rattle.attributes.proofs.draft.add_sent_name.Goals as goal

pub returns-then-eq_ignore_ascii_case-clause-part :
    goal.returns-then-eq_ignore_ascii_case-clause-part
returns-then-eq_ignore_ascii_case-clause-part c =
    let same : map to_ascii_lowercase c.args.name.now ≡ codes "host" =
    c.eq_ignore_ascii_case.ensures.test.0 c.if-eq_ignore_ascii_case.true in
    rw same (authority_at c.args.text.now.items c.requires.names)
