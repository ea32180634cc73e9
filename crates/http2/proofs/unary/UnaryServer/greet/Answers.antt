use Rattle.std.proofs.Common.{◌≡◌, ◌++◌, ◌∙◌, ◌-◌, min, Some, List, ℕ, [], ap, ap₂, inr, length, refl, take, drop}
use Rattle.http2.specs.Trail.{preface}
use Rattle.http2.specs.Unary.{UnaryValue, unary_view}
use Rattle.http2.specs.declared.fault.Code.{Code}
use Rattle.http2.specs.declared.fault.Fault.TheVariants.{Connection}
use Rattle.http2.proofs.Begins.{next_of_preface, count_of_preface, other_than_preface, kept_octets, wrong_octets}
use Rattle.http2.proofs.Unaries.{law_greeted, law_refused}
use Rattle.http2.proofs.unary.UnaryServer.greet.Goals as goal

pub returns-clause-first : goal.returns-clause-first
returns-clause-first c =
    let old : UnaryValue = unary_view c.args.self.now in
    inr (count_of_preface c.min-count.result old.greeted c.as_slice-preface.result.now c.args.bytes.now c.as_slice-preface.ensures c.min-count.ensures)

pub returns-clause-law : goal.returns-clause-law
returns-clause-law c = λ most trail came sent gave law.
    let old : UnaryValue = unary_view c.args.self.now in
    let n : ℕ = c.min-count.result in
    let bytes : List ℕ = c.args.bytes.now in
    let same : take n bytes ≡ take n (drop old.greeted preface) =
    next_of_preface n old.greeted c.as_slice-preface.result.now bytes c.as_slice-preface.ensures c.if-ne.ensures in
    ([], tt, law_greeted most trail came sent (take n bytes) gave old _ n c.requires.open c.requires.begins refl same law)

pub returns-then-ne-clause-law : goal.returns-then-ne-clause-law
returns-then-ne-clause-law c = λ most trail came sent gave law.
    let old : UnaryValue = unary_view c.args.self.now in
    let n : ℕ = c.min-count.result in
    let m : ℕ = c.in_ok-wrong.wrong in
    let bytes : List ℕ = c.args.bytes.now in
    let said : List ℕ = c.as_slice-preface.result.now in
    let none : old.rest ≡ [] = law.greeting c.requires.begins c.requires.open in
    let count : n ≡ min (length bytes) (24 - old.greeted) =
    count_of_preface n old.greeted said bytes c.as_slice-preface.ensures c.min-count.ensures in
    let heard : c.hear.new.self.rest ≡ old.rest ++ take m bytes =
    c.in_ok-wrong.ensures.heard ∙ ap (λ (t : List ℕ). old.rest ++ t) (kept_octets n m old.greeted bytes old.rest count c.in_ok-wrong.ensures.count none) in
    c.tell.ensures.continues most trail (came ++ take m bytes) sent gave
    (law_refused most trail came sent (take m bytes) gave old _ c.requires.open c.requires.begins
    (ap₂ (λ (r o : List ℕ). record old { rest = r; out = o; over = Some (Connection Code.Protocol) }) heard c.hear.ensures.out)
    (wrong_octets n m old.greeted bytes old.rest count c.in_ok-wrong.ensures.count none
    (other_than_preface n old.greeted said bytes c.as_slice-preface.ensures c.if-ne.ensures)) law)
