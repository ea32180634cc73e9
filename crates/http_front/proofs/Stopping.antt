-- The part of a head at which its parser stopped: a method and a space, and a line that begins with white space.
use Rattle.std.proofs.Common.{◌≡◌, ◌≢◌, ◌∙◌, ◌↔◌, ℕ, zero, suc, ◌-◌, ◌<◌, ◌≤◌, Bool, true, false, List, [], ◌∷◌, ◌++◌, length, get_or, take, drop, ap, sym, refl, arith, append_assoc, ◌⊎◌, inl, inr}
use Rattle.std.specs.Prelude.{IsTrue}
use Rattle.std.proofs.lemmas.List.{length-append}
use Rattle.std.proofs.lemmas.List.Elements.{All-get_or}
use Rattle.std.proofs.Math.Seq.{get_or-append_seam, take-append_seam, take-length}
use Rattle.std.proofs.Math.ListN.{get_or-append}
use Rattle.http_header.specs.Token.{IsToken, is_token_byte}
use Rattle.httparse.specs.Grammar.{crlf, lf, print_end}
use Rattle.http_front.specs.private.Stops.{BeginsWithBlank, BeginsWithEnd, BeginsWithMethod, FoldsIn, HasEmptyLine, skip_ends}

-- ---- a method and a space

-- the bytes are those before the first space, and the rest
split_at : (line : List ℕ) (i : ℕ) → i < length line → get_or line i 0 ≡ 32
    → line ≡ take i line ++ 32 ∷ drop (suc i) line
split_at [] i inside is = absurd (omega arith)
split_at (b ∷ line) zero inside is = ap (λ c. c ∷ line) is
split_at (b ∷ line) (suc i) inside is = ap (λ l. b ∷ l) (split_at line i (omega arith) is)

-- so they begin with a method where those before it are a token
has_method : (bytes : List ℕ) (i : ℕ) → i < length (skip_ends bytes) → get_or (skip_ends bytes) i 0 ≡ 32
    → IsToken (take i (skip_ends bytes)) → BeginsWithMethod bytes
has_method bytes i inside is token =
    let line = skip_ends bytes in
    record { method = take i line; rest = drop (suc i) line; token = token; whole = split_at line i inside is }

-- no byte of a token is a space
not_space : (b : ℕ) → IsTrue (is_token_byte b) → b ≢ 32
unfolding is_token_byte
not_space b token is = let told : false ≡ true = rw is at token in absurd cc

-- the space after a method is in the line
space_after : (bytes : List ℕ) (m : BeginsWithMethod bytes)
    → (length m.method < length (skip_ends bytes)) × (get_or (skip_ends bytes) (length m.method) 0 ≡ 32)
space_after bytes m =
    (rw m.whole (omega (arith, length-append m.method (32 ∷ m.rest))), rw m.whole (get_or-append_seam m.method 32 m.rest 0))

-- and it is the first: those before the first space are the method
method_is : (bytes : List ℕ) (i : ℕ) → get_or (skip_ends bytes) i 0 ≡ 32
    → ((k : ℕ) → k < i → get_or (skip_ends bytes) k 0 ≢ 32) → BeginsWithMethod bytes → IsToken (take i (skip_ends bytes))
method_is bytes i is before m =
    let not_before : i < length m.method → ⊥ = λ inside.
    not_space (get_or m.method i 0) (All-get_or (λ b. IsTrue (is_token_byte b)) m.method i 0 inside m.token.1)
    (sym (get_or-append m.method (32 ∷ m.rest) 0 i inside) ∙ ap (λ l. get_or l i 0) (sym m.whole) ∙ is) in
    let not_after : length m.method < i → ⊥ = λ inside. before (length m.method) inside (space_after bytes m).1 in
    let same : i ≡ length m.method = omega (arith, not_before, not_after) in
    rw (same, m.whole, take-append_seam m.method (32 ∷ m.rest)) m.token

never_true : IsTrue false → ⊥
never_true told = let is : false ≡ true = told in absurd cc

-- so a test of those before the first space is one of a method, and without a space there is none
pub method_test : (bytes line : List ℕ) → line ≡ skip_ends bytes → (i : ℕ) → i < length line → get_or line i 0 ≡ 32
    → ((k : ℕ) → k < i → get_or line k 0 ≢ 32) → (r : Bool) → (IsTrue r ↔ IsToken (take i line))
    → IsTrue r ↔ BeginsWithMethod bytes
method_test bytes line same i inside is before r token = (
  λ told. has_method bytes i (rw (← same) inside) (rw (← same) is) (rw (← same) (token.0 told)),
  λ m. token.1 (rw same (method_is bytes i (rw (← same) is) (rw (← same) before) m)),
)

pub no_method : (bytes line : List ℕ) → line ≡ skip_ends bytes → ((k : ℕ) → k < length line → get_or line k 0 ≢ 32)
    → IsTrue false ↔ BeginsWithMethod bytes
no_method bytes line same none = (
  λ told. absurd (never_true told),
  λ m. let found = space_after bytes m in
      absurd (none (length m.method) (rw same found.0) (rw same found.1)),
)

-- ---- a folded line

-- where a line feed lies in bytes with one more: it is that one, or it lies in the others
cons_split : (b : ℕ) (bytes before next : List ℕ) → b ∷ bytes ≡ before ++ 10 ∷ next
    → ((b ≡ 10) × (before ≡ []) × (bytes ≡ next)) ⊎ ((rest : List ℕ) × (before ≡ b ∷ rest) × (bytes ≡ rest ++ 10 ∷ next))
cons_split b bytes [] next whole = inl (cc, refl, cc)
cons_split b bytes (c ∷ before) next whole =
    let same : b ≡ c = cc in let rest : bytes ≡ before ++ 10 ∷ next = cc in inr (before, ap (λ d. d ∷ before) (sym same), rest)

-- the end of a line has a byte, which is no white space
end_some : (bytes : List ℕ) → BeginsWithEnd bytes → 0 < length bytes
end_some bytes (crlf, rest, is) = omega (arith, ap length is)
end_some bytes (lf, rest, is) = omega (arith, ap length is)

not_both : (bytes : List ℕ) → BeginsWithBlank bytes → BeginsWithEnd bytes → ⊥
not_both [] blank end = blank
not_both (b ∷ bytes) blank (crlf, rest, is) = let same : b ≡ 13 = cc in never_true (rw same at blank)
not_both (b ∷ bytes) blank (lf, rest, is) = let same : b ≡ 10 = cc in never_true (rw same at blank)

-- more bytes at the end change nothing, nor do fewer if a line feed is left
end_more : (bytes more : List ℕ) → BeginsWithEnd bytes → BeginsWithEnd (bytes ++ more)
end_more bytes more (end, rest, is) = (end, rest ++ more, rw is (append_assoc (print_end end) rest more))

end_fewer : (bytes more : List ℕ) → BeginsWithEnd (bytes ++ 10 ∷ more) → BeginsWithEnd (bytes ++ 10 ∷ [])
end_fewer [] more end = (lf, [], refl)
end_fewer (b ∷ bytes) more (lf, rest, is) =
    let same : b ≡ 10 = cc in (lf, bytes ++ 10 ∷ [], ap (λ c. c ∷ bytes ++ 10 ∷ []) same)
end_fewer (b ∷ []) more (crlf, rest, is) =
    let same : b ≡ 13 = cc in (crlf, [], ap (λ c. c ∷ 10 ∷ []) same)
end_fewer (b ∷ c ∷ bytes) more (crlf, rest, is) =
    let first : b ≡ 13 = cc in let second : c ≡ 10 = cc in (crlf, bytes ++ 10 ∷ [], rw (first, second) refl)

-- an empty line in bytes with one more
more_empty : (b : ℕ) (bytes : List ℕ) → HasEmptyLine bytes → HasEmptyLine (b ∷ bytes)
more_empty b bytes e =
    record { before = b ∷ e.before; next = e.next; empty = e.empty; whole = ap (λ l. b ∷ l) e.whole }

split_empty : (b : ℕ) (bytes : List ℕ) → HasEmptyLine (b ∷ bytes)
    → ((b ≡ 10) × BeginsWithEnd bytes) ⊎ HasEmptyLine bytes
split_empty b bytes e = elim (cons_split b bytes e.before e.next e.whole) [
  | inl (is, nil, same) ↦ inl (is, rw same e.empty)
  | inr (rest, is, whole) ↦ inr (record { before = rest; next = e.next; empty = e.empty; whole = whole })
]

-- no line begins after the last line feed
none_empty : ¬ (HasEmptyLine (10 ∷ []))
none_empty e =
    let some = end_some e.next e.empty in
    omega (arith, some, ap length e.whole, length-append e.before (10 ∷ e.next))

folds_now : (next : List ℕ) → BeginsWithBlank next → FoldsIn (10 ∷ next)
folds_now next blank = record { before = []; next = next; blank = blank; whole = refl; inside = none_empty }

never_nil : ¬ (FoldsIn [])
never_nil f = omega (arith, ap length f.whole, length-append f.before (10 ∷ f.next))

never_after_empty : (next : List ℕ) → BeginsWithEnd next → ¬ (FoldsIn (10 ∷ next))
never_after_empty next empty f = elim (cons_split 10 next f.before f.next f.whole) [
  | inl (is, nil, same) ↦ not_both next (rw same f.blank) empty
  | inr (rest, is, whole) ↦
      let found : HasEmptyLine (10 ∷ rest ++ 10 ∷ []) =
      record { before = []; next = rest ++ 10 ∷ []; empty = end_fewer rest f.next (rw whole at empty); whole = refl } in
      f.inside (rw is found)
]

folds_later : (b : ℕ) (next : List ℕ) → (b ≡ 10 → ¬ (BeginsWithBlank next)) → (b ≡ 10 → ¬ (BeginsWithEnd next))
    → FoldsIn next ↔ FoldsIn (b ∷ next)
folds_later b next unfolded full = (put, taken)
  where
    put : FoldsIn next → FoldsIn (b ∷ next)
    put f = record {
      before = b ∷ f.before;
      next = f.next;
      blank = f.blank;
      whole = ap (λ l. b ∷ l) f.whole;
      inside = λ e. elim (split_empty b (f.before ++ 10 ∷ []) e) [
        | inl (is, end) ↦
            full is (rw (f.whole, ← append_assoc f.before (10 ∷ []) f.next) (end_more (f.before ++ 10 ∷ []) f.next end))
        | inr later ↦ f.inside later
      ];
    }

    taken : FoldsIn (b ∷ next) → FoldsIn next
    taken f = elim (cons_split b next f.before f.next f.whole) [
      | inl (is, nil, same) ↦ absurd (unfolded is (rw same f.blank))
      | inr (rest, is, whole) ↦ record {
        before = rest;
        next = f.next;
        blank = f.blank;
        whole = whole;
        inside = λ e. f.inside (rw is (more_empty b (rest ++ 10 ∷ []) e));
      }
    ]

-- what the code's tests of a byte, and of those after it, say
module _ (b : ℕ) (next : List ℕ) where
  pub other_byte : b ≢ 10 → FoldsIn next ↔ FoldsIn (b ∷ next)
  other_byte not = folds_later b next (λ is. absurd (not is)) (λ is. absurd (not is))

  pub folds_here : b ≡ 10 → (r : Bool) → (IsTrue r ↔ BeginsWithBlank next) → r ≡ true → IsTrue true ↔ FoldsIn (b ∷ next)
  folds_here is r blank told = (λ _. rw is (folds_now next (blank.0 told)), λ f. refl)

  pub ends_here : b ≡ 10 → (r : Bool) → (IsTrue r ↔ BeginsWithEnd next) → r ≡ true → IsTrue false ↔ FoldsIn (b ∷ next)
  ends_here is r end told =
      (λ no. absurd (never_true no), λ f. absurd (never_after_empty next (end.0 told) (rw is at f)))

  pub goes_on : (r q : Bool) → (IsTrue r ↔ BeginsWithBlank next) → r ≡ false → (IsTrue q ↔ BeginsWithEnd next) → q ≡ false
      → FoldsIn next ↔ FoldsIn (b ∷ next)
  goes_on r q blank no_blank end no_end =
      folds_later b next (λ _ it. never_true (rw no_blank at (blank.1 it))) (λ _ it. never_true (rw no_end at (end.1 it)))

-- ---- the search for one, from the front

-- what the code knows at a byte of the bytes that are left
whole_of : (head : List ℕ) → 1 ≤ length head → head ≡ get_or head 0 0 ∷ take (length head - 1) (drop 1 head)
whole_of [] some = absurd (omega arith)
whole_of (b ∷ bytes) some =
    let same : length (b ∷ bytes) - 1 ≡ length bytes = omega arith in
    ap (λ l. b ∷ l) (sym (ap (λ n. take n bytes) same ∙ take-length bytes))

module _ (all : Type 0) (head : List ℕ) (some : 1 ≤ length head) (left : FoldsIn head ↔ all) where
  pub folds_known : (r : Bool) → (IsTrue r ↔ FoldsIn (get_or head 0 0 ∷ take (length head - 1) (drop 1 head))) → IsTrue r ↔ all
  folds_known r known =
      let whole = whole_of head some in
      (λ told. left.0 (rw whole (known.0 told)), λ it. known.1 (rw (← whole) (left.1 it)))

  pub folds_on : (FoldsIn (take (length head - 1) (drop 1 head)) ↔ FoldsIn (get_or head 0 0 ∷ take (length head - 1) (drop 1 head)))
      → FoldsIn (take (length head - 1) (drop 1 head)) ↔ all
  folds_on later =
      let whole = whole_of head some in
      (λ it. left.0 (rw whole (later.0 it)), λ it. later.1 (rw (← whole) (left.1 it)))
