use Rattle.std.proofs.Common.{◌≡◌, ◌+◌, ◌++◌, ℕ, List, [], ◌∷◌, length, take, drop, get_or, refl, sym, ap, subst, ◌∙◌}
use Rattle.std.proofs.lemmas.List.{length_push}
use Rattle.std.specs.Char.{to_ascii_lowercase}
use Rattle.std.specs.Str.{str_to_ascii_lowercase}
use Rattle.rbac_match.specs.private.Search.{EndsWithMost, AreBorders}
use Rattle.rbac_match.proofs.Borders.{rest_more, are_borders_push, no_borders, first_border}
use Rattle.rbac_match.proofs.search.borders_of.Goals as goal

pub loop-byte-init : goal.loop-byte-init
loop-byte-init c =
    let part : List ℕ = c.args.part.now in
    let whole : part ≡ c.in-Some.field-0-0.now ∷ c.in-Some.rest.now = c.in-Some.ensures.cases.0 in
    let items : c.push.new.self.items ≡ [] ++ 0 ∷ [] =
    c.in_ok-push.ensures.items ∙ ap (λ (l : List ℕ). l ++ 0 ∷ []) c.in_ok-borders.ensures.items in
    let P : List ℕ → Type 0 = λ l. EndsWithMost (str_to_ascii_lowercase l) (drop 1 (take 1 (str_to_ascii_lowercase l))) 0 in
    let first : EndsWithMost (str_to_ascii_lowercase part) (drop 1 (take 1 (str_to_ascii_lowercase part))) 0 =
    subst P (sym whole) (first_border c.in-Some.field-0-0.now c.in-Some.rest.now) in
    let Q : List ℕ → Type 0 = AreBorders (str_to_ascii_lowercase part) in
    record {
      so_far = ap length items;
      are = subst Q (sym items)
          (are_borders_push (str_to_ascii_lowercase part) [] 0 0 refl (no_borders (str_to_ascii_lowercase part)) first);
      last = first;
    }

pub loop-byte-preserved : goal.loop-byte-preserved
loop-byte-preserved c =
    let part : List ℕ = c.args.part.now in
    let i : ℕ = c.loop-byte.byte-index in
    let first : ℕ = c.in-Some.field-0-0.now in
    let rest : List ℕ = c.in-Some.rest.now in
    let whole : part ≡ first ∷ rest = c.in-Some.ensures.cases.0 in
    let items : c.push-in-loop-byte.new.self.items ≡ c.loop-byte.borders.items ++ c.advance-border.result ∷ [] =
    c.in_ok-push-2.ensures.items ∙ ap (λ n. c.loop-byte.borders.items ++ n ∷ []) c.in_ok-position.ensures in
    let M : List ℕ → Type 0 = λ l. drop 1 (take (i + 1 + 1) (str_to_ascii_lowercase l))
    ≡ drop 1 (take (i + 1) (str_to_ascii_lowercase l)) ++ to_ascii_lowercase (get_or rest i 0) ∷ [] in
    let more = subst M (sym whole) (rest_more first rest i c.loop-byte-test.true) in
    let longest : EndsWithMost (str_to_ascii_lowercase part)
    (drop 1 (take (i + 1 + 1) (str_to_ascii_lowercase part))) c.advance-border.result =
    rw more (c.advance-border.ensures (drop 1 (take (i + 1) (str_to_ascii_lowercase part))) c.loop-byte.invariant.last) in
    let Q : List ℕ → Type 0 = AreBorders (str_to_ascii_lowercase part) in
    record {
      so_far = ap length items ∙ length_push c.loop-byte.borders.items c.advance-border.result
          ∙ ap (λ n. n + 1) c.loop-byte.invariant.so_far;
      are = subst Q (sym items) (are_borders_push (str_to_ascii_lowercase part) c.loop-byte.borders.items
          c.advance-border.result (i + 1) c.loop-byte.invariant.so_far c.loop-byte.invariant.are longest);
      last = longest;
    }
