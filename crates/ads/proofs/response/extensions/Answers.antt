use Rattle.std.proofs.Common.{◌≡◌, ◌∙◌, ℕ, true, false, ap, sym, map, bytes_eq, Vec, Global}
use Rattle.std.specs.List.{list_any}
use Rattle.xds_wire.specs.View.{texts_view}
use Rattle.ads.proofs.ServingLemmas.{same_more, sent_more}
use Rattle.ads.proofs.response.extensions.Goals.{then-is_asked+in_ok-extension_bytes+in_ok-push, else-is_asked}
use Rattle.ads.proofs.response.extensions.Goals as goal

pub loop-resource-preserved : goal.loop-resource-preserved
loop-resource-preserved c =
    let names = texts_view c.args.names.now in
    let xs = c.args.resources.now in
    let i = c.loop-resource.resource-index in
    elim c.if-is_asked.branch [
      | then-is_asked+in_ok-extension_bytes+in_ok-push w ↦
          let is : true ≡ list_any (λ n. bytes_eq n c.deref.result.now) names = w.if-is_asked.ensures in
          let values : c.if-is_asked.values.items ≡ w.push.new.self.items =
          ap (λ (v : Vec (Vec ℕ Global) Global). v.items) w.values-is in
          sent_more names xs i c.resource-item.result c.loop-resource-test.true c.resource-item.is
          (λ (b : Vec ℕ Global). b.items) c.loop-resource.values.items c.if-is_asked.values.items w.in_ok-extension_bytes.field-0
          c.loop-resource.invariant (sym (rw c.deref.ensures at is)) w.in_ok-extension_bytes.ensures
          (values ∙ w.in_ok-push.ensures.items)
      | else-is_asked w ↦
          let not : false ≡ list_any (λ n. bytes_eq n c.deref.result.now) names = w.if-is_asked.ensures in
          same_more names xs i c.resource-item.result c.loop-resource-test.true c.resource-item.is
          (map (λ b. b.items) c.loop-resource.values.items)
          (map (λ b. b.items) c.if-is_asked.values.items) c.loop-resource.invariant
          (sym (rw c.deref.ensures at not))
          (ap (λ (v : Vec (Vec ℕ Global) Global). map (λ b. b.items) v.items) w.values-is)
    ]
