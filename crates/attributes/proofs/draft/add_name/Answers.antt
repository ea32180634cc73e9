-- The Host field has a known name.
use Rattle.std.proofs.Common.{◌≡◌, ◌∙◌, true, codes, sym}
use Rattle.std.specs.Str.{bytes_eq}
use Rattle.attributes.proofs.Drafts.{authority_at}
use Rattle.attributes.proofs.draft.add_name.Goals as goal

pub returns-then-eq-clause-part : goal.returns-then-eq-clause-part
returns-then-eq-clause-part c =
    let test : bytes_eq c.args.name.now (codes "host") ≡ true = sym c.eq.ensures ∙ c.if-eq.true in
    rw test (authority_at c.args.text.now.items c.requires)
