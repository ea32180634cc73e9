-- The elements of a list, one after the other, and which is the option `close`.
use Rattle.std.proofs.Common.{◌≡◌, ◌≢◌, ◌∙◌, ◌↔◌, ℕ, zero, suc, ◌+◌, ◌<◌, Bool, true, false, ◌||◌, codes, List, [], ◌∷◌, length, get_or, take, drop, map, cond, ap, sym, refl, arith, eq-eqb, ne_eqb}
use Rattle.std.specs.List.{list_any}
use Rattle.std.specs.Str.{bytes_eq}
use Rattle.std.proofs.lemmas.List.{drop_more}
use Rattle.std.proofs.lemmas.Slice.Eq.{bytes_eq-Decides}
use Rattle.attributes.specs.Headers.{Entry}
use Rattle.http_header.specs.Token.{lowercase}
use Rattle.httparse.specs.Grammar.{trim_ows}
use Rattle.httparse.specs.Spans.{header_bytes}
use Rattle.httparse.specs.declared.spans.HeaderSpan.{HeaderSpan}
use Rattle.http_front.specs.Closing.{between_commas, elements, is_close, lists_close, onto_first}
use Rattle.http_front.specs.Rules.{lowered}
use Rattle.http_front.proofs.Spans.{no_span}

-- the first text ends at the first comma
commas_at : (xs : List ℕ) (i : ℕ) → i < length xs → get_or xs i 0 ≡ 44 → ((k : ℕ) → k < i → get_or xs k 0 ≢ 44)
    → between_commas xs ≡ take i xs ∷ between_commas (drop (suc i) xs)
commas_at [] i inside comma before = absurd (omega arith)
commas_at (b ∷ bs) zero inside comma before =
    ap (λ t. cond t ([] ∷ between_commas bs) (onto_first b (between_commas bs))) (eq-eqb b 44 comma)
commas_at (b ∷ bs) (suc i) inside comma before =
    ap (λ t. cond t ([] ∷ between_commas bs) (onto_first b (between_commas bs))) (ne_eqb b 44 (before 0 (omega arith)))
    ∙ ap (onto_first b) (commas_at bs i (omega arith) comma (λ k below. before (suc k) (omega arith)))

no_commas : (xs : List ℕ) → ((k : ℕ) → k < length xs → get_or xs k 0 ≢ 44) → between_commas xs ≡ xs ∷ []
no_commas [] none = refl
no_commas (b ∷ bs) none =
    ap (λ t. cond t ([] ∷ between_commas bs) (onto_first b (between_commas bs))) (ne_eqb b 44 (none 0 (omega arith)))
    ∙ ap (onto_first b) (no_commas bs (λ k below. none (suc k) (omega arith)))

pub elements_at : (xs : List ℕ) (i : ℕ) → i < length xs → get_or xs i 0 ≡ 44 → ((k : ℕ) → k < i → get_or xs k 0 ≢ 44)
    → elements xs ≡ trim_ows (take i xs) ∷ elements (drop (suc i) xs)
unfolding elements
elements_at xs i inside comma before = ap (map trim_ows) (commas_at xs i inside comma before)

pub elements_whole : (xs : List ℕ) → ((k : ℕ) → k < length xs → get_or xs k 0 ≢ 44)
    → elements xs ≡ trim_ows xs ∷ []
unfolding elements
elements_whole xs none = ap (map trim_ows) (no_commas xs none)

-- what is not true
not_true : (r : Bool) → (r ≡ true → ⊥) → r ≡ false
not_true true fails = absurd (fails refl)
not_true false fails = refl

-- a test that says whether two texts are the same
same_test : (r : Bool) (a b : List ℕ) → ((r ≡ true) ↔ (a ≡ b)) → r ≡ bytes_eq a b
same_test r a b test = by_test (bytes_eq a b) refl
  where
    by_test : (t : Bool) → bytes_eq a b ≡ t → r ≡ bytes_eq a b
    by_test true is = test.1 ((bytes_eq-Decides a b).0 is) ∙ sym is
    by_test false is =
        not_true r (λ told. let other : bytes_eq a b ≡ true = (bytes_eq-Decides a b).1 (test.0 told) in absurd cc)
        ∙ sym is

pub close_test : (r : Bool) (element : List ℕ) → ((r ≡ true) ↔ (lowercase element ≡ codes "close"))
    → r ≡ is_close element
close_test r element test = same_test r (lowercase element) (codes "close") test

-- one field and those behind it
pub close_more : (bytes : List ℕ) (fields : List HeaderSpan) (i : ℕ) → i < length fields
    → list_any lists_close (map lowered (map (header_bytes bytes) (drop i fields)))
    ≡ (lists_close (lowered (header_bytes bytes (get_or fields i no_span)))
    || list_any lists_close (map lowered (map (header_bytes bytes) (drop (i + 1) fields))))
close_more bytes fields i inside =
    ap (λ (fs : List HeaderSpan). list_any lists_close (map lowered (map (header_bytes bytes) fs)))
    (drop_more fields i no_span inside)

-- a Connection field, and another
pub listed : (l : Entry) → l.0 ≡ codes "connection" → list_any is_close (elements l.1) ≡ lists_close l
listed l named =
    let is : bytes_eq l.0 (codes "connection") ≡ true = (bytes_eq-Decides l.0 (codes "connection")).1 named in
    rw is refl

pub not_listed : (l : Entry) → (l.0 ≡ codes "connection" → ⊥) → false ≡ lists_close l
not_listed l other =
    let is : bytes_eq l.0 (codes "connection") ≡ false =
    not_true (bytes_eq l.0 (codes "connection")) (λ told. other ((bytes_eq-Decides l.0 (codes "connection")).0 told)) in
    rw is refl
