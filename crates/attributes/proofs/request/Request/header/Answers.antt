-- The headers as they are kept are the map's entries, so what is found is what the map has.
use Rattle.std.proofs.Common.{◌≡◌, ◌∙◌, sym}
use Rattle.std.specs.FinMap.{entries, get-entries}
use Rattle.attributes.proofs.request.Request.header.Goals as goal

pub returns : goal.returns
returns c =
    let kept : c.self.inside.headers ≡ entries c.args.self.now.headers =
    rw (← c.self.view_is) (sym c.self.invariant.headers) in
    rw kept at c.find.ensures.value ∙ sym (get-entries c.args.self.now.headers c.args.name.now)
