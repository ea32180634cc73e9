-- The value of a number, where its fields are those that a writer writes of the value.
use Rattle.std.proofs.Common.{◌≡◌, ℕ, ℤ, pos, negsuc, ◌==◌, ◌%◌, ◌^◌, true, Option, Some, None, unwrap_or, List, [], ◌∷◌, refl, sym, ap, subst, ◌∙◌, arith, to_z-of_z, inl, inr}
use Rattle.std.specs.Prelude.{IsUtf8, IfSome, FitsSigned}
use Rattle.std.specs.Int.{w32, w64, cast_unsigned, cast_signed}
use Rattle.std.specs.List.{AllByRecursion, AllZip}
use Rattle.std.proofs.lemmas.Bool.{cases_Bool, eqb-true}
use Rattle.proto_wire.specs.Fields.{Wire, varint, len}
use Rattle.proto_wire.specs.Values.{varints, payloads, last_of, bytes_at, varint_at, int32_at}
use Rattle.proto_wire.specs.Shortest.{field_of}
use Rattle.proto_wire.specs.Reading.{IsOptional}
use Rattle.xds_wire.specs.Envelope.{IsString, AreStrings, AreRepeated}
use Rattle.xds_wire.specs.Written.{string_fields, strings_fields, int32_fields, AreOptional, AreEach}

module _ (k : ℕ) (is : (k == k) ≡ true) where
  pub one_len : (bytes : List ℕ) → payloads k (field_of k (len bytes) ∷ []) ≡ bytes ∷ []
  one_len bytes = rw is refl

  first_len : (bytes : List ℕ) (fs : List Wire)
      → payloads k (field_of k (len bytes) ∷ fs) ≡ bytes ∷ payloads k fs
  first_len bytes fs = rw is refl

  one_varint : (n : ℕ) → varints k (field_of k (varint n) ∷ []) ≡ n ∷ []
  one_varint n = rw is refl

  pub bytes_back : (fs : List Wire) (t : List ℕ) → payloads k fs ≡ payloads k (string_fields k t)
      → t ≡ bytes_at k fs
  bytes_back fs [] same = sym (ap (λ (xs : List (List ℕ)). unwrap_or (last_of xs) []) same)
  bytes_back fs (b ∷ bytes) same =
      sym (ap (λ (xs : List (List ℕ)). unwrap_or (last_of xs) []) (same ∙ one_len (b ∷ bytes)))

  pub string_back : (fs : List Wire) (t : List ℕ) → payloads k fs ≡ payloads k (string_fields k t)
      → IsUtf8 t → IsString k fs t
  string_back fs t same utf8 = (bytes_back fs t same, utf8)

  pub strings_own : (ts : List (List ℕ)) → payloads k (strings_fields k ts) ≡ ts
  strings_own [] = refl
  strings_own (t ∷ ts) =
      first_len t (strings_fields k ts) ∙ ap (λ (xs : List (List ℕ)). t ∷ xs) (strings_own ts)

  pub strings_back : (fs : List Wire) (ts : List (List ℕ))
      → payloads k fs ≡ payloads k (strings_fields k ts) → AllByRecursion IsUtf8 ts
      → AreStrings k fs ts
  strings_back fs ts same all = (sym (same ∙ strings_own ts), all)

  -- what is known of a message: what is written of it reads back
  abbrev pub ReadsBack : {M : Type 0} → (List (List ℕ) → M → Type 0) → (M → List ℕ → Type 0)
      → (M → Type 0) → Type 0
  ReadsBack {M} Is Written Sound =
      (m : M) (bytes : List ℕ) → Sound m → Written m bytes → Is (bytes ∷ []) m

  pub merged_back : {M : Type 0} (Is : List (List ℕ) → M → Type 0) (Written : M → List ℕ → Type 0)
      (Sound : M → Type 0) → ReadsBack Is Written Sound → (fs group : List Wire) (o : Option M)
      → payloads k fs ≡ payloads k group → AreOptional Written k o group → IfSome o Sound
      → IsOptional Is k fs o
  merged_back Is Written Sound back fs group None same none sound = same ∙ ap (payloads k) none
  merged_back Is Written Sound back fs group (Some m) same (bytes, written, whole) sound =
      let own : payloads k fs ≡ bytes ∷ [] = same ∙ ap (payloads k) whole ∙ one_len bytes in
      ((λ none. absurd (cc (own, none))), subst (λ parts. Is parts m) (sym own) (back m bytes sound written))

  each_back : {M : Type 0} (Is : List (List ℕ) → M → Type 0) (Written : M → List ℕ → Type 0)
      (Sound : M → Type 0) → ReadsBack Is Written Sound → (group : List Wire) (ms : List M)
      → AreEach Written k ms group → AllByRecursion Sound ms
      → AllZip (λ part m. Is (part ∷ []) m) (payloads k group) ms
  each_back Is Written Sound back group [] none sound = rw none tt
  each_back Is Written Sound back group (m ∷ ms) (bytes, rest, written, more, whole) (sound, all) =
      let own : payloads k group ≡ bytes ∷ payloads k rest =
      ap (payloads k) whole ∙ first_len bytes rest in
      rw own (back m bytes sound written, each_back Is Written Sound back rest ms more all)

  pub repeated_back : {M : Type 0} (Is : List (List ℕ) → M → Type 0) (Written : M → List ℕ → Type 0)
      (Sound : M → Type 0) → ReadsBack Is Written Sound → (fs group : List Wire) (ms : List M)
      → payloads k fs ≡ payloads k group → AreEach Written k ms group → AllByRecursion Sound ms
      → AreRepeated Is k fs ms
  repeated_back Is Written Sound back fs group ms same each sound =
      rw same (each_back Is Written Sound back group ms each sound)

  -- the low bits of 64 in two's complement are those of 32
  low_bits : (n : ℤ) → FitsSigned w32 n → cast_unsigned w64 n % 2 ^ 32 ≡ cast_unsigned w32 n
  low_bits (pos n) fits = omega arith
  low_bits (negsuc n) fits = omega arith

  varint_own : (n : ℤ) → unwrap_or (last_of (varints k (int32_fields k n))) 0 ≡ cast_unsigned w64 n
  varint_own n = elim (cases_Bool (cast_unsigned w64 n == 0)) [
    | inl none ↦ rw none (sym (eqb-true _ _ none))
    | inr some ↦
        rw some (ap (λ (xs : List ℕ). unwrap_or (last_of xs) 0) (one_varint (cast_unsigned w64 n)))
  ]

  pub code_back : (fs : List Wire) (n : ℤ) → varints k fs ≡ varints k (int32_fields k n)
      → FitsSigned w32 n → n ≡ int32_at k fs
  code_back fs n same fits =
      let value : varint_at k fs ≡ cast_unsigned w64 n =
      ap (λ (xs : List ℕ). unwrap_or (last_of xs) 0) same ∙ varint_own n in
      sym (ap (λ v. cast_signed w32 (v % 2 ^ 32)) value ∙ ap (cast_signed w32) (low_bits n fits)
      ∙ to_z-of_z fits)
