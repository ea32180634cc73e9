use Rattle.std.proofs.Common.{◌≡◌, ◌<◌, ◌∷◌, ◌++◌, [], List, length, slice_get, Some, ap, ap₂, ◌∙◌, arith}
use Rattle.std.proofs.lemmas.List.{length-append, map-append}
use Rattle.rbac_match.specs.Tokens.{Token}
use Rattle.rbac_match.specs.declared.list.Node.TheVariants.{Leaf}
use Rattle.rbac_match.specs.declared.matcher.Matcher.{Matcher}
use Rattle.rbac_match.specs.private.Nodes.{token_in, test_at}
use Rattle.rbac_match.proofs.NodeLists.{has_more, has_push, tokens_stay, test_added}
use Rattle.rbac_match.proofs.list.RuleList.add_leaf.Goals as goal

pub invariant_of-self-in_err-push : goal.invariant_of-self-in_err-push
invariant_of-self-in_err-push c =
    let leaves : List Matcher = c.self.inside.leaves in
    let longer = ap length c.in_ok-place.ensures.pushed ∙ length-append leaves (c.args.test.now ∷ []) in
    rw c.in_err-push.ensures.items
    (has_more (length leaves) (length c.push.new.self) c.self.inside.nodes.items (omega (arith, longer)) c.self.invariant)

pub invariant_of-self-2 : goal.invariant_of-self-2
invariant_of-self-2 c =
    let leaves : List Matcher = c.self.inside.leaves in
    let longer = ap length c.in_ok-place.ensures.pushed ∙ length-append leaves (c.args.test.now ∷ []) in
    let place : c.in_ok-place.place ≡ length leaves = c.in_ok-place.ensures.place in
    let here : c.in_ok-place.place < length c.push.new.self = omega (arith, longer, place) in
    rw c.in_ok-push.ensures.items
    (has_push (length c.push.new.self) c.self.inside.nodes.items (Leaf c.in_ok-place.place)
    (has_more (length leaves) (length c.push.new.self) c.self.inside.nodes.items (omega (arith, longer)) c.self.invariant)
    (here, tt))

pub returns : goal.returns
returns c =
    let leaves : List Matcher = c.self.inside.leaves in
    let m : Matcher = c.args.test.now in
    let last : slice_get (leaves ++ m ∷ []) c.in_ok-place.place ≡ Some m = rw c.in_ok-place.ensures.place (test_added leaves m) in
    rw (c.in_ok-push.ensures.items, c.in_ok-place.ensures.pushed, map-append (token_in (leaves ++ m ∷ [])) c.self.inside.nodes.items (Leaf c.in_ok-place.place ∷ []))
    (ap₂ (λ (a : List Token) (t : Token). a ++ t ∷ []) (tokens_stay leaves m c.self.inside.nodes.items c.self.invariant ∙ c.self.view_is)
    (ap test_at last))
