-- Snapshots of files, read in order.
use Rattle.std.proofs.Common.{◌≡◌, ◌∙◌, ◌<◌, ◌≤◌, ◌+◌, ◌++◌, ℕ, zero, suc, List, [], ◌∷◌, String, Global, arith, ap, ap₂, drop, false, get_or, inl, inr, length, map, refl, string_bytes, sym, take, true}
use Rattle.std.proofs.lemmas.List.{append-nil, append_assoc, map-append, map_more}
use Rattle.std.proofs.lemmas.Bool.{false≢true}
use Rattle.std.proofs.lemmas.Bool.Decides.{Decides-eqb}
use Rattle.std.specs.Bool.{◌==◌}
use Rattle.std.specs.List.{AllZip}
use Rattle.std.specs.declared.io.Error.{Error as IoError}
use Rattle.ads.specs.Answer.{FirstOf}
use Rattle.ads.specs.Control.{ResourceValue}
use Rattle.ads.specs.Views.{resource_view, snapshot_view, snapshots_view}
use Rattle.ads.specs.declared.snapshot.Resource.{Resource}
use Rattle.ads.specs.declared.snapshot.Snapshot.{Snapshot}
use Rattle.program_jobs.specs.Jobs.{AreNamedSnapshots, IsMessageIn, IsNamedSnapshot, LacksFile}
use Rattle.command_line.specs.Words.{AreGrouped}
use Rattle.program_jobs.specs.declared.job_fault.JobFault.{JobFault}

-- parameters: what holds of a read element and what it gives, what that says of the element, and what is looked for
module _ {B C : Type 0} (R : B → C → Type 0) (Q P : B → Type 0) (reports : (x : B) (y : C) → R x y → Q x) where
  -- it holds at this place, and the elements before it were read
  pub first_at : {A : Type 0} (seen : A → B) (xs : List A) (i : ℕ) (d : A) (ys : List C)
      → i < length xs → AllZip R (map seen (take i xs)) ys → P (seen (get_or xs i d)) → FirstOf Q P (map seen xs)
  first_at seen [] i d ys within read p = absurd (omega arith)
  first_at seen (x ∷ xs) zero d ys within read p = inl p
  first_at seen (x ∷ xs) (suc i) d [] within read p = absurd read
  first_at seen (x ∷ xs) (suc i) d (y ∷ ys) within (here, rest) p =
      inr (reports (seen x) y here, first_at seen xs i d ys (omega arith) rest p)

  -- it holds first of one behind elements that were read
  pub first_behind : (xs others : List B) (ys : List C) → AllZip R xs ys → FirstOf Q P others
      → FirstOf Q P (xs ++ others)
  first_behind [] others ys read first = first
  first_behind (x ∷ xs) others [] read first = absurd read
  first_behind (x ∷ xs) others (y ∷ ys) (here, rest) first =
      inr (reports x y here, first_behind xs others ys rest first)

-- it holds first of one before others
pub first_before : {B : Type 0} (Q P : B → Type 0) (xs others : List B) → FirstOf Q P xs → FirstOf Q P (xs ++ others)
first_before Q P [] others first = absurd first
first_before Q P (x ∷ xs) others (inl p) = inl p
first_before Q P (x ∷ xs) others (inr (q, first)) = inr (q, first_before Q P xs others first)

-- where an element is paired with nothing, the elements are paired with no list
pub none_at : {A B C : Type 0} (R : B → C → Type 0) (seen : A → B) (xs : List A) (i : ℕ) (d : A) (ys : List C)
    → i < length xs → ((y : C) → ¬ (R (seen (get_or xs i d)) y)) → ¬ (AllZip R (map seen xs) ys)
none_at R seen [] i d ys within none all = absurd (omega arith)
none_at R seen (x ∷ xs) i d [] within none all = all
none_at R seen (x ∷ xs) zero d (y ∷ ys) within none (here, rest) = none y here
none_at R seen (x ∷ xs) (suc i) d (y ∷ ys) within none (here, rest) = none_at R seen xs i d ys (omega arith) none rest

-- a file has one message at most
pub one_message : (bytes a b : List ℕ) → IsMessageIn bytes a → IsMessageIn bytes b → a ≡ b
one_message bytes a b (inl (short, is)) (inl (also, same)) = ap (drop 5) (sym is ∙ same)
one_message bytes a b (inl frame) (inr (all, none)) = absurd (none a frame)
one_message bytes a b (inr (all, none)) (inl frame) = absurd (none b frame)
one_message bytes a b (inr (all, none)) (inr (same, also)) = all ∙ sym same

-- whether files are left
pub some_left : (n : ℕ) → false ≡ (n == 0) → n ≡ 0 → ⊥
some_left zero test none = false≢true test
some_left (suc n) test none = absurd (omega (arith, none))

pub none_left : (n : ℕ) → true ≡ (n == 0) → n ≡ 0
none_left n test = (Decides-eqb n 0).0 (sym test)

-- where files are left, they are enough for one snapshot, and those behind its files are for some snapshots again
pub enough : (names rest : ℕ) → AreGrouped names rest → (rest ≡ 0 → ⊥) → names ≤ rest
enough names rest (some, (zero, is)) left = absurd (left (omega (arith, is)))
enough names rest (some, (suc count, is)) left = omega (arith, is)

pub fewer : (names rest others : ℕ) → AreGrouped names rest → (rest ≡ 0 → ⊥) → others + names ≡ rest
    → AreGrouped names others
fewer names rest others (some, (zero, is)) left whole = absurd (left (omega (arith, is)))
fewer names rest others (some, (suc count, is)) left whole = (some, (count, omega (arith, is, whole)))

-- where no file is left, the snapshots are all
pub all_read : (holds : List ℕ → List ℕ → Type 0) (lacks : (List ℕ × IoError) → Type 0) (names paths : List (List ℕ))
    (rest : List (String Global)) (snapshots : List (List ResourceValue)) → length rest ≡ 0
    → ((more : List (List ResourceValue)) → AreNamedSnapshots holds lacks names (map string_bytes rest) more
    → AreNamedSnapshots holds lacks names paths (snapshots ++ more))
    → AreNamedSnapshots holds lacks names paths snapshots
all_read holds lacks names paths [] snapshots none so_far = rw (append-nil snapshots) at (so_far [] refl)
all_read holds lacks names paths (path ∷ rest) snapshots none so_far = absurd (omega (arith, none))

-- parameters: the files, the names of the filters, and all paths
module _ (holds : List ℕ → List ℕ → Type 0) (lacks : (List ℕ × IoError) → Type 0) (names paths : List (List ℕ))
    (rest first others : List (String Global)) (whole : rest ≡ first ++ others) where
  -- one snapshot more
  pub one_more : (items now : List Snapshot) (s : Snapshot) → now ≡ items ++ s ∷ []
      → IsNamedSnapshot holds lacks names (map string_bytes first) (snapshot_view s)
      → ((more : List (List ResourceValue)) → AreNamedSnapshots holds lacks names (map string_bytes rest) more
      → AreNamedSnapshots holds lacks names paths (snapshots_view items ++ more))
      → (more : List (List ResourceValue)) → AreNamedSnapshots holds lacks names (map string_bytes others) more
      → AreNamedSnapshots holds lacks names paths (snapshots_view now ++ more)
  one_more items now s pushed is so_far more are =
      rw (pushed, map-append snapshot_view items (s ∷ []), append_assoc (map snapshot_view items) (snapshot_view s ∷ []) more)
      (so_far (snapshot_view s ∷ more)
      (map string_bytes first, map string_bytes others, rw whole (map-append string_bytes first others), is, are))

  -- one of the files behind a snapshot cannot be read
  pub lacks_behind : (s : List ResourceValue) → IsNamedSnapshot holds lacks names (map string_bytes first) s
      → ((fault : JobFault) → LacksFile holds lacks (map string_bytes rest) fault → LacksFile holds lacks paths fault)
      → (fault : JobFault) → LacksFile holds lacks (map string_bytes others) fault → LacksFile holds lacks paths fault
  lacks_behind s is so_far fault lacking =
      so_far fault (rw (whole, map-append string_bytes first others)
      (first_behind (λ path (r : ResourceValue). holds path r.filter) _ _ (λ path r held. (r.filter, held))
      (map string_bytes first) (map string_bytes others) s is.1 lacking))

  -- one of the files of a snapshot cannot be read
  pub lacks_first : ((fault : JobFault) → LacksFile holds lacks (map string_bytes rest) fault → LacksFile holds lacks paths fault)
      → (fault : JobFault) → LacksFile holds lacks (map string_bytes first) fault → LacksFile holds lacks paths fault
  lacks_first so_far fault lacking =
      so_far fault (rw (whole, map-append string_bytes first others)
      (first_before _ _ (map string_bytes first) (map string_bytes others) lacking))

-- one filter more has the next name
pub one_filter : (names : List (String Global)) (i j : ℕ) (d : String Global) (items now : List Resource) (r : Resource)
    → i < length names → j ≡ i → now ≡ items ++ r ∷ [] → string_bytes r.name ≡ string_bytes (get_or names j d)
    → map (λ (f : ResourceValue). f.name) (map resource_view items) ≡ map string_bytes (take i names)
    → map (λ (f : ResourceValue). f.name) (map resource_view now) ≡ map string_bytes (take (i + 1) names)
one_filter names i j d items now r within place pushed is so_far =
    rw (pushed, map-append resource_view items (r ∷ []), map-append (λ (f : ResourceValue). f.name) (map resource_view items) (resource_view r ∷ []), map_more string_bytes names i d within)
    (ap₂ (λ (a : List (List ℕ)) (b : List ℕ). a ++ b ∷ []) so_far (is ∙ ap (λ k. string_bytes (get_or names k d)) place))
