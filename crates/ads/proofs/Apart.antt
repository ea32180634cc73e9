-- A response that is accepted has no fault.
use Rattle.std.proofs.Common.{◌≡◌, inl, inr, ℕ, ◌≤◌, Bool, true, false, Option, Some, None, List, [], ◌∷◌, length, refl, sym, subst, ◌∙◌, arith, bytes_eq, if◌then◌else◌}
use Rattle.std.specs.Prelude.{IsSomeAnd}
use Rattle.std.specs.List.{AllZip}
use Rattle.std.proofs.lemmas.Slice.Eq.{bytes_eq-Decides}
use Rattle.attributes.specs.Limits.{LimitsValue}
use Rattle.proto_wire.specs.declared.refusal.Refusal.{Refusal}
use Rattle.rbac_policy.specs.Admission.{Admissible}
use Rattle.rbac_policy.proofs.Totality.{bytes_disjoint}
use Rattle.proto_wire.specs.Merge.{SomeOf}
use Rattle.xds_wire.specs.Discovery.{AnyMessage, ExtensionMessage, ResponseMessage}
use Rattle.xds_wire.proofs.DiscoveryLaws.{extension_disjoint, extension_unique}
use Rattle.ads.specs.Config.{ConfigValue, FilterValue}
use Rattle.ads.specs.Answer.{Accepted, AcceptedOf, Accepts, AcceptsAs, AdmittedValue, ExtensionIsRefused, no_filter, not_admitted, GivesAs, IsEnforcedOf, IsNamed, IsRefusedFor, IsResource, named, Refuses, bad_resource, doubled, refused, ResourceFault, unreadable, nameless, TwoOf}

-- what holds of a pair has no fault of its first part
zip_apart : {A B : Type 0} (R : A → B → Type 0) (P : A → Type 0) → ((x : A) (y : B) → R x y → P x → ⊥)
    → (xs : List A) (ys : List B) → AllZip R xs ys → SomeOf P xs → ⊥
zip_apart R P apart [] ys all some = some
zip_apart R P apart (x ∷ xs) [] all some = all
zip_apart R P apart (x ∷ xs) (y ∷ ys) (is, all) (inl bad) = apart x y is bad
zip_apart R P apart (x ∷ xs) (y ∷ ys) (is, all) (inr some) = zip_apart R P apart xs ys all some

resource_apart : (e : Refusal) (any : AnyMessage) (extension : ExtensionMessage) → IsResource any extension
    → ResourceFault any e → ⊥
resource_apart e any extension is (ResourceFault.wrong_type other reported) = other is.type_url
resource_apart e any extension is (unreadable same bad) = extension_disjoint any.value extension e is.reads bad
resource_apart e any extension is (nameless also same reads empty reported) =
    let one : also ≡ extension = extension_unique any.value also extension reads is.reads in
    is.name (subst (λ (x : ExtensionMessage). x.name ≡ []) one empty)

-- ---- the resources of a name

module _ (name : List ℕ) where
  -- one extension before others
  named_first : (x : ExtensionMessage) (xs : List ExtensionMessage) → x.name ≡ name
      → named name (x ∷ xs) ≡ x ∷ named name xs
  named_first x xs same = rw ((bytes_eq-Decides x.name name).1 same) refl

  named_behind : (P : List ExtensionMessage → Type 0) (x : ExtensionMessage) (xs : List ExtensionMessage)
      → P (named name xs) → P (x ∷ named name xs) → P (named name (x ∷ xs))
  named_behind P x xs behind here = by (bytes_eq x.name name)
    where
      by : (b : Bool) → P (if b then x ∷ named name xs else named name xs)
      by true = here
      by false = behind

  -- a resource of the name stands among the extensions of it
  named_some : (Q : ExtensionMessage → Type 0) (any_messages : List AnyMessage) (xs : List ExtensionMessage)
      → AllZip IsResource any_messages xs
      → SomeOf (λ any. (x : ExtensionMessage) × IsResource any x × (x.name ≡ name) × Q x) any_messages
      → SomeOf Q (named name xs)
  named_some Q [] xs all some = absurd some
  named_some Q (any ∷ any_messages) [] all some = absurd all
  named_some Q (any ∷ any_messages) (x ∷ xs) (is, all) (inl (also, is', same, q)) =
      let one : also ≡ x = extension_unique any.value also x is'.reads is.reads in
      let same' : x.name ≡ name = subst (λ (y : ExtensionMessage). y.name ≡ name) one same in
      rw (named_first x xs same') (inl (subst Q one q))
  named_some Q (any ∷ any_messages) (x ∷ xs) (is, all) (inr some) =
      let more = named_some Q any_messages xs all some in
      named_behind (SomeOf Q) x xs more (inr more)

  some_named : (any_messages : List AnyMessage) (xs : List ExtensionMessage) → AllZip IsResource any_messages xs
      → SomeOf (IsNamed name) any_messages → 1 ≤ length (named name xs)
  some_named [] xs all some = absurd some
  some_named (any ∷ any_messages) [] all some = absurd all
  some_named (any ∷ any_messages) (x ∷ xs) (is, all) (inl (also, is', same)) =
      let one : also ≡ x = extension_unique any.value also x is'.reads is.reads in
      rw (named_first x xs (subst (λ (y : ExtensionMessage). y.name ≡ name) one same)) (omega arith)
  some_named (any ∷ any_messages) (x ∷ xs) (is, all) (inr some) =
      let more = some_named any_messages xs all some in
      named_behind (λ ys. 1 ≤ length ys) x xs more (omega (arith, more))

  two_named : (any_messages : List AnyMessage) (xs : List ExtensionMessage) → AllZip IsResource any_messages xs
      → TwoOf (IsNamed name) any_messages → 2 ≤ length (named name xs)
  two_named [] xs all two = absurd two
  two_named (any ∷ any_messages) [] all two = absurd all
  two_named (any ∷ any_messages) (x ∷ xs) (is, all) (inl ((also, is', same), some)) =
      let one : also ≡ x = extension_unique any.value also x is'.reads is.reads in
      let more = some_named any_messages xs all some in
      rw (named_first x xs (subst (λ (y : ExtensionMessage). y.name ≡ name) one same)) (omega (arith, more))
  two_named (any ∷ any_messages) (x ∷ xs) (is, all) (inr two) =
      let more = two_named any_messages xs all two in
      named_behind (λ ys. 2 ≤ length ys) x xs more (omega (arith, more))

-- ---- what a filter is given

-- an extension holds one filter's message
holds_one : (o : Option AnyMessage) (P Q : AnyMessage → Type 0) (a b : List ℕ)
    → IsSomeAnd o (λ any. P any × (any.value ≡ a)) → IsSomeAnd o (λ any. Q any × (any.value ≡ b)) → a ≡ b
holds_one None P Q a b x y = absurd x
holds_one (Some any) P Q a b x y = sym x.1 ∙ y.1

-- where what is given is admissible
module _ {P : Type 0} (IsGiven : LimitsValue → FilterValue → List ℕ → P → Type 0)
    (admissible : (limits : LimitsValue) (f : FilterValue) (bytes : List ℕ) (p : P) → IsGiven limits f bytes p
    → Admissible bytes limits f.budget) where
  gives_one : (limits : LimitsValue) (f : FilterValue) (xs : List ExtensionMessage) (given : Option P)
      → GivesAs IsGiven limits f xs given → 2 ≤ length xs → ⊥
  gives_one limits f [] given gives two = absurd (omega arith)
  gives_one limits f (x ∷ []) given gives two = absurd (omega arith)
  gives_one limits f (x ∷ y ∷ xs) given gives two = gives

  gives_apart : (limits : LimitsValue) (f : FilterValue) (e : Refusal) (xs : List ExtensionMessage)
      (given : Option P) → GivesAs IsGiven limits f xs given
      → SomeOf (λ x. ExtensionIsRefused limits f x e) xs → ⊥
  gives_apart limits f e [] given gives some = some
  gives_apart limits f e (x ∷ []) given (bytes, p, holds, is_given, reported) (inl (no_filter none is)) =
      none bytes holds
  gives_apart limits f e (x ∷ []) given (bytes, p, holds, is_given, reported)
      (inl (not_admitted other also bad)) =
      let one : other ≡ bytes = holds_one x.typed_config _ _ other bytes also holds in
      bytes_disjoint limits e bytes f.budget (admissible limits f bytes p is_given) (rw one at bad)
  gives_apart limits f e (x ∷ []) given gives (inr some) = some
  gives_apart limits f e (x ∷ y ∷ xs) given gives some = gives

  -- ---- the response

  pub accepts_apart : (c : ConfigValue) (response : ResponseMessage) (old new : AcceptedOf P) (e : Refusal)
      → AcceptsAs IsGiven c response old new → Refuses c response e → ⊥
  accepts_apart c response old new e a (Refuses.wrong_type other reported) = other a.type_url
  accepts_apart c response old new e a (bad_resource some) =
      zip_apart IsResource (λ any. ResourceFault any e) (resource_apart e) response.resources a.extensions a.reads some
  accepts_apart c response old new e a (doubled some reported) =
      zip_apart (λ f. GivesAs IsGiven c.limits f (named f.name a.extensions)) (λ f. TwoOf (IsNamed f.name) response.resources)
      (λ f given gives two. gives_one c.limits f (named f.name a.extensions) given gives
      (two_named f.name response.resources a.extensions a.reads two))
      c.filters a.given a.gives some
  accepts_apart c response old new e a (refused some) =
      zip_apart (λ f. GivesAs IsGiven c.limits f (named f.name a.extensions))
      (λ f. SomeOf (IsRefusedFor c.limits f e) response.resources)
      (λ f given gives bad. gives_apart c.limits f e (named f.name a.extensions) given gives
      (named_some f.name (λ x. ExtensionIsRefused c.limits f x e) response.resources a.extensions a.reads bad))
      c.filters a.given a.gives some

-- what is enforced was admissible
enforced_admissible : (limits : LimitsValue) (f : FilterValue) (bytes : List ℕ) (a : AdmittedValue)
    → IsEnforcedOf limits f bytes a → Admissible bytes limits f.budget
enforced_admissible limits f bytes a (policies, enforced, admits, same) = (policies, admits.admissible)

pub answer_apart : (c : ConfigValue) (response : ResponseMessage) (old new : Accepted) (e : Refusal)
    → Accepts c response old new → Refuses c response e → ⊥
answer_apart = accepts_apart IsEnforcedOf enforced_admissible
