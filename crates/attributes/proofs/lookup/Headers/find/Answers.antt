-- Headers as they are kept are texts.
use Rattle.attributes.proofs.Requests.{text_fields}
use Rattle.attributes.proofs.lookup.Headers.find.Goals as goal

pub returns-clause-texts : goal.returns-clause-texts
returns-clause-texts c =
    rw (← c.self.view_is)
    (text_fields c.self.inside.text.items c.self.inside.fields.items c.self.invariant.parts)
