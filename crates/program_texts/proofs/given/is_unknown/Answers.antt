-- A name is unknown exactly where no fact is found under it.
use Rattle.std.proofs.Common.{◌≡◌, ◌↔◌, ◌∙◌, ℕ, Bool, true, false, not, List, Option, Some, None, ap, is_some, refl, sym, true≢false}
use Rattle.program_texts.specs.Facts.{IsFactName, name_of}
use Rattle.program_texts.specs.declared.fact.Fact.{Fact}
use Rattle.program_texts.proofs.given.is_unknown.Goals as goal

module _ (name : List ℕ) (b : Bool) where
  unknown : (found : Option Fact) → is_some found ≡ not b
      → ((fact : Fact) → (found ≡ Some fact) ↔ (name ≡ name_of fact)) → b ≡ true → IsFactName name → ⊥
  unknown None same exactly none is = let clash : None ≡ Some is.0 = (exactly is.0).1 is.1 in cc
  unknown (Some fact) same exactly none is = true≢false (same ∙ ap not none)

  known : (found : Option Fact) → is_some found ≡ not b
      → ((fact : Fact) → (found ≡ Some fact) ↔ (name ≡ name_of fact)) → b ≡ false → IsFactName name
  known None same exactly some = absurd (true≢false (sym (same ∙ ap not some)))
  known (Some fact) same exactly some = (fact, (exactly fact).0 refl)

pub returns : goal.returns
returns c = record {
  unknown = unknown c.args.name.now c.is_none.result c.named.result c.is_none.ensures c.named.ensures;
  known = known c.args.name.now c.is_none.result c.named.result c.is_none.ensures c.named.ensures;
}
