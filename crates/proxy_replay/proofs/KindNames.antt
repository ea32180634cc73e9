-- Each kind is found under its name, and no other is.
use Rattle.std.proofs.Common.{◌≡◌, ℕ, ◌↔◌, List, [], ◌∷◌, Option, Some, find, refl, sym, ap, ◌∙◌}
use Rattle.std.specs.Str.{bytes_eq}
use Rattle.attributes.proofs.Names.{find_passes}
use Rattle.attributes.proofs.TextOrder.{same_from_test}
use Rattle.proxy_replay.specs.Lines.{name_of}
use Rattle.proxy_replay.specs.declared.lines.EventKind.{EventKind}

abbrev every_kind : List EventKind
every_kind =
    EventKind.AdsUp ∷ EventKind.AdsBytes ∷ EventKind.AdsLost ∷ EventKind.HttpOpen ∷ EventKind.HttpBytes ∷
    EventKind.HttpClosed ∷ []

-- the first kind of this name
abbrev pub kind_named : List ℕ → Option EventKind
kind_named name = find (λ kind. bytes_eq (name_of kind) name) every_kind

pub named_own : (kind : EventKind) → kind_named (name_of kind) ≡ Some kind
named_own EventKind.AdsUp = refl
named_own EventKind.AdsBytes = refl
named_own EventKind.AdsLost = refl
named_own EventKind.HttpOpen = refl
named_own EventKind.HttpBytes = refl
named_own EventKind.HttpClosed = refl

pub exactly : (name : List ℕ) (r : Option EventKind) → r ≡ kind_named name
    → (kind : EventKind) → (r ≡ Some kind) ↔ (name ≡ name_of kind)
exactly name r is_found kind = (
  λ e. sym (same_from_test (name_of kind) name
      (find_passes (λ a. bytes_eq (name_of a) name) every_kind kind (sym is_found ∙ e))),
  λ e. is_found ∙ ap kind_named e ∙ named_own kind,
)

-- a name is that of one kind
pub one_kind : (a b : EventKind) → name_of a ≡ name_of b → a ≡ b
one_kind a b same = let e : Some a ≡ Some b = sym (named_own a) ∙ ap kind_named same ∙ named_own b in cc
