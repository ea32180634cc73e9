-- The headers are those of the draft's entries and the pseudo-headers, so the parts make its request.
use Rattle.std.proofs.Common.{◌≡◌, ◌∙◌, ℕ, List, ◌++◌, length, sym, ap, arith}
use Rattle.std.proofs.lemmas.Grind.{common_steps}
use Rattle.std.proofs.lemmas.List.{length-map}
use Rattle.std.specs.FinMap.{entries}
use Rattle.attributes.specs.Conn.{Facts, conn_view}
use Rattle.attributes.specs.Headers.{Entry, headers_of}
use Rattle.attributes.specs.private.Drafts.{own_entries}
use Rattle.attributes.specs.private.Parts.{entries_in, entry_in, part_of}
use Rattle.attributes.proofs.Finishing.{made, made_kept, method_at, method_there, target_at, target_there}
use Rattle.attributes.proofs.Spots.{length_part}
use Rattle.attributes.proofs.draft.Draft.finish.Goals as goal

pub end_of-method-requires : goal.end_of-method-requires
end_of-method-requires c =
    let t = c.self.inside.text.items in
    let es : List Entry = entries_in t c.self.inside.fields.items in
    let method : List ℕ = part_of t c.self.inside.method in
    let target : List ℕ = part_of t c.self.inside.target in
    let facts : Facts = conn_view c.args.conn.value in
    let kept : List Entry = c.in_ok-headers.headers in
    let joined : kept ≡ entries (headers_of (es ++ own_entries method target facts.scheme)) =
    c.in_ok-headers.ensures.joined ∙ ap (λ (ds : List Entry). entries (headers_of ds))
    (rw (c.as_str.ensures.value, c.deref-2.ensures) at c.in_ok-add_own.ensures.entries) in
    method_there es method target c.args.protocol facts kept joined

pub end_of-target-requires : goal.end_of-target-requires
end_of-target-requires c =
    let t = c.self.inside.text.items in
    let es : List Entry = entries_in t c.self.inside.fields.items in
    let method : List ℕ = part_of t c.self.inside.method in
    let target : List ℕ = part_of t c.self.inside.target in
    let facts : Facts = conn_view c.args.conn.value in
    let kept : List Entry = c.in_ok-headers.headers in
    let joined : kept ≡ entries (headers_of (es ++ own_entries method target facts.scheme)) =
    c.in_ok-headers.ensures.joined ∙ ap (λ (ds : List Entry). entries (headers_of ds))
    (rw (c.as_str.ensures.value, c.deref-2.ensures) at c.in_ok-add_own.ensures.entries) in
    target_there es method target c.args.protocol facts kept joined

pub text_of-requires : goal.text_of-requires
text_of-requires c =
    let t = c.self.inside.text.items in
    let es : List Entry = entries_in t c.self.inside.fields.items in
    let method : List ℕ = part_of t c.self.inside.method in
    let target : List ℕ = part_of t c.self.inside.target in
    let facts : Facts = conn_view c.args.conn.value in
    let kept : List Entry = c.in_ok-headers.headers in
    let joined : kept ≡ entries (headers_of (es ++ own_entries method target facts.scheme)) =
    c.in_ok-headers.ensures.joined ∙ ap (λ (ds : List Entry). entries (headers_of ds))
    (rw (c.as_str.ensures.value, c.deref-2.ensures) at c.in_ok-add_own.ensures.entries) in
    let target_is = target_at es method target c.args.protocol facts kept joined c.len-2.result c.end_of-target.result
    c.end_of-target.ensures
    (c.len-2.ensures ∙ sym (length_part t c.self.inside.target c.self.invariant.target))
    c.self.invariant.target.utf8 in
    target_is.spot

pub invariant_of-result : goal.invariant_of-result
invariant_of-result c =
    let t = c.self.inside.text.items in
    let es : List Entry = entries_in t c.self.inside.fields.items in
    let method : List ℕ = part_of t c.self.inside.method in
    let target : List ℕ = part_of t c.self.inside.target in
    let facts : Facts = conn_view c.args.conn.value in
    let kept : List Entry = c.in_ok-headers.headers in
    let joined : kept ≡ entries (headers_of (es ++ own_entries method target facts.scheme)) =
    c.in_ok-headers.ensures.joined ∙ ap (λ (ds : List Entry). entries (headers_of ds))
    (rw (c.as_str.ensures.value, c.deref-2.ensures) at c.in_ok-add_own.ensures.entries) in
    let method_is = method_at es method target c.args.protocol facts kept joined c.len.result c.end_of-method.result
    c.end_of-method.ensures
    (c.len.ensures ∙ sym (length_part t c.self.inside.method c.self.invariant.method))
    c.self.invariant.method.utf8 in
    let target_is = target_at es method target c.args.protocol facts kept joined c.len-2.result c.end_of-target.result
    c.end_of-target.ensures
    (c.len-2.ensures ∙ sym (length_part t c.self.inside.target c.self.invariant.target))
    c.self.invariant.target.utf8 in
    let items : c.len-lines.result ≡ length c.self.inside.fields.items = grind (arith, common_steps) in
    let count : c.len-lines.result ≡ length es =
    items ∙ sym (length-map c.self.inside.fields.items (entry_in t)) in
    rw (c.url_path.ensures, c.query.ensures)
    (made_kept es method target c.args.protocol facts kept joined c.len-lines.result count
    c.end_of-method.result c.end_of-target.result method_is target_is c.text_of.result.now
    c.cut_target-cut.result c.text_of.ensures c.cut_target-cut.ensures
    c.in_ok-headers.ensures.texts (rw c.deref.ensures at c.facts_are_sound.ensures) (omega (arith, c)))

pub returns : goal.returns
returns c =
    let t = c.self.inside.text.items in
    let es : List Entry = entries_in t c.self.inside.fields.items in
    let method : List ℕ = part_of t c.self.inside.method in
    let target : List ℕ = part_of t c.self.inside.target in
    let facts : Facts = conn_view c.args.conn.value in
    let kept : List Entry = c.in_ok-headers.headers in
    let joined : kept ≡ entries (headers_of (es ++ own_entries method target facts.scheme)) =
    c.in_ok-headers.ensures.joined ∙ ap (λ (ds : List Entry). entries (headers_of ds))
    (rw (c.as_str.ensures.value, c.deref-2.ensures) at c.in_ok-add_own.ensures.entries) in
    let method_is = method_at es method target c.args.protocol facts kept joined c.len.result c.end_of-method.result
    c.end_of-method.ensures
    (c.len.ensures ∙ sym (length_part t c.self.inside.method c.self.invariant.method))
    c.self.invariant.method.utf8 in
    let target_is = target_at es method target c.args.protocol facts kept joined c.len-2.result c.end_of-target.result
    c.end_of-target.ensures
    (c.len-2.ensures ∙ sym (length_part t c.self.inside.target c.self.invariant.target))
    c.self.invariant.target.utf8 in
    let items : c.len-lines.result ≡ length c.self.inside.fields.items = grind (arith, common_steps) in
    let count : c.len-lines.result ≡ length es =
    items ∙ sym (length-map c.self.inside.fields.items (entry_in t)) in
    rw (← c.self.view_is)
    (λ lines named. made es method target c.args.protocol facts kept joined c.len-lines.result count
    c.end_of-method.result c.end_of-target.result method_is target_is lines named)
