use Rattle.std.proofs.Common.{◌≡◌, ℕ, ◌+◌, ◌<◌, List, Bool, true, false, Bor, sym, ◌∙◌, refl, length, map, take, get_or, true≢false, take_all, arith}
use Rattle.std.specs.Str.{bytes_eq}
use Rattle.std.proofs.lemmas.Slice.Eq.{bytes_eq-Decides}
use Rattle.proto_wire.specs.Merge.{SomeOf}
use Rattle.program_texts.proofs.Names.{some_at, none_more}
use Rattle.program_texts.proofs.members.is_among.Goals as goal

module _ (names : List (Bor (List ℕ))) (name : List ℕ) (i : ℕ) (d : Bor (List ℕ)) (below : i < length names)
    (b : Bool) (test : b ≡ bytes_eq (get_or names i d).now name) where
  found : b ≡ true → SomeOf (λ n. n ≡ name) (map (λ n. n.now) names)
  found met = some_at (λ n. n ≡ name) (λ (n : Bor (List ℕ)). n.now) names i d below
      ((bytes_eq-Decides (get_or names i d).now name).0 (sym test ∙ met))

  not_yet : b ≡ false → (SomeOf (λ n. n ≡ name) (map (λ n. n.now) (take i names)) → ⊥)
      → SomeOf (λ n. n ≡ name) (map (λ n. n.now) (take (i + 1) names)) → ⊥
  not_yet missed before = none_more (λ n. n ≡ name) (λ (n : Bor (List ℕ)). n.now) names i d below before
      (λ same. true≢false (sym ((bytes_eq-Decides (get_or names i d).now name).1 same) ∙ sym test ∙ missed))

pub returns-then-eq : goal.returns-then-eq
returns-then-eq c = (
  λ _. found c.args.names.now c.args.name.now _ _ c.loop-known-test.true _ c.eq.ensures c.if-eq.true,
  λ _. refl,
)

pub loop-known-preserved : goal.loop-known-preserved
loop-known-preserved c =
    not_yet c.args.names.now c.args.name.now _ _ c.loop-known-test.true _ c.eq.ensures c.if-eq.false
    c.loop-known.invariant

pub returns : goal.returns
returns c =
    let none = rw (take_all c.loop-known.known-index c.args.names.now (omega arith)) at c.loop-known.invariant in
    (λ bad. absurd (true≢false (sym bad)), λ some. absurd (none some))
