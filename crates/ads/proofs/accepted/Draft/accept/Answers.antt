use Rattle.std.proofs.Common.{◌≡◌, [], refl, ap, sym, ◌∙◌, eqb-true}
use Rattle.std.specs.Prelude.{vec_len}
use Rattle.ads.specs.Answer.{replaced}
use Rattle.ads.specs.Views.{policies_view}
use Rattle.ads.proofs.PlaceLemmas.{replaced_nothing, replaced_twice, no_length}
use Rattle.ads.proofs.accepted.Draft.accept.Goals as goal

pub returns-then-is_empty-clause-policies : goal.returns-then-is_empty-clause-policies
returns-then-is_empty-clause-policies c old =
    let none : c.args.self.now.given.items ≡ [] =
    let zero : vec_len c.args.self.now.given ≡ 0 = eqb-true (vec_len c.args.self.now.given) 0 (sym c.if-is_empty.ensures) in
    no_length c.args.self.now.given.items (sym c.args.self.now.given.ok.0 ∙ zero) in
    rw (none, replaced_nothing old) refl

pub returns-else-is_empty-clause-policies : goal.returns-else-is_empty-clause-policies
returns-else-is_empty-clause-policies c old =
    ap (replaced old) c.place.ensures.placed
    ∙ replaced_twice old (policies_view c.args.self.now.given.items) (policies_view c.args.given.items)
