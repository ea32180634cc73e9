-- What the files of a record get together, call after call.
use Rattle.std.proofs.Common.{◌≡◌, ◌≢◌, ◌⊎◌, ◌<◌, ◌≤◌, ◌+◌, ◌++◌, ℕ, zero, suc, Bool, true, false, eqb, List, [], ◌∷◌, Option, None, Some, drop, get_or, length, set, take, inl, inr, refl, sym, ap, ◌∙◌, add-one, append-nil, arith, subst}
use Rattle.std.specs.Prelude.{⊤}
use Rattle.std.proofs.lemmas.Bool.Decides.{eqb_tells}
use Rattle.std.proofs.lemmas.List.{drop-set-lt, take_all, take_more, take_more_set, with_items_is}
use Rattle.std.specs.Vec.{with_items}
use Rattle.std.specs.declared.alloc.Global.{Global}
use Rattle.std.specs.declared.vec.Vec.{Vec}
use Rattle.proxy_core.specs.Events.{EventValue}
use Rattle.serve_log.specs.Files.{AllTake, IsSameFile, NoneTake, OneTakes, Takes, counted}
use Rattle.serve_log.specs.Recording.{IsOut}
use Rattle.serve_log.specs.declared.record_file.RecordFile.{RecordFile}
use Rattle.serve_log.proofs.FileLemmas.{counted_then, none_then_takes, same_takes, takes_then, takes_then_none, unchanged}

-- ---- lists

-- the elements of a Vec after as many were written over them
pub written_over : {X : Type 0} (v : Vec X Global) (news : List X) → length news ≡ length v.items → (with_items v news).items ≡ news
written_over v news same = with_items_is v news (same ∙ sym v.ok.0)

-- all but the first
abbrev tail_of : {A : Type 0} → List A → List A
tail_of [] = []
tail_of (x ∷ xs) = xs

drop_tail : {A : Type 0} (xs : List A) (i : ℕ) → drop (suc i) xs ≡ tail_of (drop i xs)
drop_tail [] zero = refl
drop_tail [] (suc i) = refl
drop_tail (x ∷ xs) zero = refl
drop_tail (x ∷ xs) (suc i) = drop_tail xs i

get_first : {A : Type 0} (xs : List A) (i : ℕ) (d : A) → get_or xs i d ≡ get_or (drop i xs) 0 d
get_first [] zero d = refl
get_first [] (suc i) d = refl
get_first (x ∷ xs) zero d = refl
get_first (x ∷ xs) (suc i) d = get_first xs i d

-- what is left is the same after one more
pub left_more : {A : Type 0} (xs ys : List A) (i : ℕ) (y : A) → drop i xs ≡ drop i ys → drop (i + 1) (set xs i y) ≡ drop (i + 1) ys
left_more xs ys i y same =
    let after : i < i + 1 = omega arith in
    let next : drop (suc i) xs ≡ drop (suc i) ys = drop_tail xs i ∙ ap tail_of same ∙ sym (drop_tail ys i) in
    drop-set-lt (i + 1) xs i y after ∙ subst (λ n. drop n xs ≡ drop n ys) (sym (add-one i)) next

same_item : {A : Type 0} (xs ys : List A) (i : ℕ) (d : A) → drop i xs ≡ drop i ys → get_or xs i d ≡ get_or ys i d
same_item xs ys i d same = get_first xs i d ∙ ap (λ l. get_or l 0 d) same ∙ sym (get_first ys i d)

module _ {W : Type 0} (contents : W → Option (List ℕ)) where
  -- ---- all files

  -- one file more
  pub all_more : (events : List EventValue) (olds news : List (RecordFile W)) (l : ℕ) (old new : RecordFile W) (m : ℕ)
      → AllTake contents events olds news l → Takes contents events old new m
      → AllTake contents events (olds ++ old ∷ []) (news ++ new ∷ []) (l + m)
  all_more events [] [] l old new m h k =
      let none : l ≡ 0 = h in
      (m, 0, k, refl, omega (arith, none))
  all_more events [] (x ∷ news) l old new m h k = absurd h
  all_more events (x ∷ olds) [] l old new m h k = absurd h
  all_more events (x ∷ olds) (y ∷ news) l old new m (first, others, takes, rest, sum) k =
      (first, others + m, takes, all_more events olds news others old new m rest k, omega (arith, sum))

  -- all files take events, and then others
  pub all_then : (es fs : List EventValue) (xs ys zs : List (RecordFile W)) (l m : ℕ) → AllTake contents es xs ys l
      → AllTake contents fs ys zs m → AllTake contents (es ++ fs) xs zs (l + m)
  all_then es fs [] [] [] l m h k =
      let first : l ≡ 0 = h in
      let second : m ≡ 0 = k in
      omega (arith, first, second)
  all_then es fs [] [] (z ∷ zs) l m h k = absurd k
  all_then es fs [] (y ∷ ys) zs l m h k = absurd h
  all_then es fs (x ∷ xs) [] zs l m h k = absurd h
  all_then es fs (x ∷ xs) (y ∷ ys) [] l m h k = absurd k
  all_then es fs (x ∷ xs) (y ∷ ys) (z ∷ zs) l m (p, q, first, rest, sum) (r, s, second, others, total) = (
    p + r,
    q + s,
    takes_then contents x y z es fs p r first second,
    all_then es fs xs ys zs q s rest others,
    omega (arith, sum, total),
  )

  -- ---- no file

  pub none_same : (files : List (RecordFile W)) → NoneTake contents files files
  none_same [] = tt
  none_same (file ∷ files) = (unchanged contents file, none_same files)

  pub none_then : (xs ys zs : List (RecordFile W)) → NoneTake contents xs ys → NoneTake contents ys zs → NoneTake contents xs zs
  none_then [] [] [] h k = tt
  none_then [] [] (z ∷ zs) h k = absurd k
  none_then [] (y ∷ ys) zs h k = absurd h
  none_then (x ∷ xs) [] zs h k = absurd h
  none_then (x ∷ xs) (y ∷ ys) [] h k = absurd k
  none_then (x ∷ xs) (y ∷ ys) (z ∷ zs) (first, rest) (second, others) =
      (takes_then contents x y z [] [] 0 0 first second, none_then xs ys zs rest others)

  -- one file more
  none_and_one : (olds news : List (RecordFile W)) (old new : RecordFile W) → NoneTake contents olds news
      → Takes contents [] old new 0 → NoneTake contents (olds ++ old ∷ []) (news ++ new ∷ [])
  none_and_one [] [] old new h k = (k, tt)
  none_and_one [] (y ∷ news) old new h k = absurd h
  none_and_one (x ∷ olds) [] old new h k = absurd h
  none_and_one (x ∷ olds) (y ∷ news) old new (first, rest) k = (first, none_and_one olds news old new rest k)

  pub none_so_far : (i : ℕ) (olds files : List (RecordFile W)) (d y : RecordFile W) → i < length files → i < length olds
      → drop i files ≡ drop i olds → NoneTake contents (take i olds) (take i files) → Takes contents [] (get_or files i d) y 0
      → NoneTake contents (take (i + 1) olds) (take (i + 1) (set files i y))
  none_so_far i olds files d y below within same so_far takes =
      let item : get_or files i d ≡ get_or olds i d = same_item files olds i d same in
      let one : Takes contents [] (get_or olds i d) y 0 = subst (λ f. Takes contents [] f y 0) item takes in
      rw (take_more olds i d within, take_more_set files i y below)
      (none_and_one (take i olds) (take i files) (get_or olds i d) y so_far one)

  pub none_in_all : (i : ℕ) (olds files : List (RecordFile W)) → length files ≤ i → length olds ≤ i
      → NoneTake contents (take i olds) (take i files) → NoneTake contents olds files
  none_in_all i olds files over past h = rw (take_all i olds past, take_all i files over) at h

  -- the file in this place is as it was in all that matters
  pub none_at : (files : List (RecordFile W)) (i : ℕ) (d new : RecordFile W) → i < length files
      → IsSameFile (get_or files i d) new → NoneTake contents files (set files i new)
  none_at [] i d new below same = absurd (omega (arith, below))
  none_at (file ∷ files) zero d new below same = (same_takes contents file new same, none_same files)
  none_at (file ∷ files) (suc i) d new below same = (unchanged contents file, none_at files i d new (omega (arith, below)) same)

  pub none_at_same : (olds files : List (RecordFile W)) (i : ℕ) (d new : RecordFile W) → files ≡ olds → i < length files
      → IsSameFile (get_or files i d) new → NoneTake contents olds (set files i new)
  none_at_same olds files i d new is below same =
      subst (λ l. NoneTake contents l (set files i new)) is (none_at files i d new below same)

  -- there are as many files as before
  pub none_length : (olds news : List (RecordFile W)) → NoneTake contents olds news → length news ≡ length olds
  none_length [] [] h = refl
  none_length [] (y ∷ news) h = absurd h
  none_length (x ∷ olds) [] h = absurd h
  none_length (x ∷ olds) (y ∷ news) (first, rest) = ap suc (none_length olds news rest)

  pub all_length : (events : List EventValue) (olds news : List (RecordFile W)) (lost : ℕ) → AllTake contents events olds news lost
      → length news ≡ length olds
  all_length events [] [] lost h = refl
  all_length events [] (y ∷ news) lost h = absurd h
  all_length events (x ∷ olds) [] lost h = absurd h
  all_length events (x ∷ olds) (y ∷ news) lost (first, others, takes, rest, sum) = ap suc (all_length events olds news others rest)

  pub one_length : (number : ℕ) (events : List EventValue) (olds news : List (RecordFile W)) (lost : ℕ)
      → OneTakes contents number events olds news lost → length news ≡ length olds
  one_length number events [] [] lost h = refl
  one_length number events [] (y ∷ news) lost h = absurd h
  one_length number events (x ∷ olds) [] lost h = absurd h
  one_length number events (x ∷ olds) (y ∷ news) lost (inl (is, takes, rest)) = ap suc (none_length olds news rest)
  one_length number events (x ∷ olds) (y ∷ news) lost (inr (other, takes, rest)) = ap suc (one_length number events olds news lost rest)

  -- ---- one file

  -- none of the files has this number
  abbrev pub NoneHas : ℕ → List (RecordFile W) → Type 0
  NoneHas number [] = ⊤
  NoneHas number (file ∷ files) = (file.number ≢ number) × NoneHas number files

  -- no file is open that could take the events
  pub one_none : (number : ℕ) (events : List EventValue) (files : List (RecordFile W)) → NoneHas number files
      → OneTakes contents number events files files 0
  one_none number events [] h = refl
  one_none number events (file ∷ files) (other, others) = inr (other, unchanged contents file, one_none number events files others)

  -- whichever file has the number, none takes an event
  one_nothing_by : (number : ℕ) (file : RecordFile W) (files : List (RecordFile W)) → OneTakes contents number [] files files 0
      → ((eqb file.number number ≡ true) × (file.number ≡ number)) ⊎ ((eqb file.number number ≡ false) × (file.number ≢ number))
      → OneTakes contents number [] (file ∷ files) (file ∷ files) 0
  one_nothing_by number file files rest (inl (test, is)) = inl (is, unchanged contents file, none_same files)
  one_nothing_by number file files rest (inr (test, other)) = inr (other, unchanged contents file, rest)

  pub one_nothing : (number : ℕ) (files : List (RecordFile W)) → OneTakes contents number [] files files 0
  one_nothing number [] = refl
  one_nothing number (file ∷ files) =
      one_nothing_by number file files (one_nothing number files) (eqb_tells file.number number)

  pub all_nothing : (files : List (RecordFile W)) → AllTake contents [] files files 0
  all_nothing [] = refl
  all_nothing (file ∷ files) = (0, 0, unchanged contents file, all_nothing files, refl)

  pub none_more : (number : ℕ) (files : List (RecordFile W)) (file : RecordFile W) → NoneHas number files → file.number ≢ number
      → NoneHas number (files ++ file ∷ [])
  none_more number [] file h other = (other, tt)
  none_more number (x ∷ files) file (first, h) other = (first, none_more number files file h other)

  -- the file in this place is the first that has the number
  pub one_at : (number : ℕ) (events : List EventValue) (files : List (RecordFile W)) (i : ℕ) (d new : RecordFile W) (lost : ℕ)
      → i < length files → NoneHas number (take i files) → (get_or files i d).number ≡ number
      → Takes contents events (get_or files i d) new lost → OneTakes contents number events files (set files i new) lost
  one_at number events [] i d new lost below none is takes = absurd (omega (arith, below))
  one_at number events (file ∷ files) zero d new lost below none is takes = inl (is, takes, none_same files)
  one_at number events (file ∷ files) (suc i) d new lost below (other, none) is takes =
      inr (other, unchanged contents file, one_at number events files i d new lost (omega (arith, below)) none is takes)

  -- the file of this number takes events, and then others
  pub one_then : (number : ℕ) (es fs : List EventValue) (xs ys zs : List (RecordFile W)) (l m : ℕ)
      → OneTakes contents number es xs ys l → OneTakes contents number fs ys zs m
      → OneTakes contents number (es ++ fs) xs zs (l + m)
  one_then number es fs [] [] [] l m h k =
      let first : l ≡ 0 = h in
      let second : m ≡ 0 = k in
      omega (arith, first, second)
  one_then number es fs [] [] (z ∷ zs) l m h k = absurd k
  one_then number es fs [] (y ∷ ys) zs l m h k = absurd h
  one_then number es fs (x ∷ xs) [] zs l m h k = absurd h
  one_then number es fs (x ∷ xs) (y ∷ ys) [] l m h k = absurd k
  one_then number es fs (x ∷ xs) (y ∷ ys) (z ∷ zs) l m (inl (is, first, rest)) (inl (again, second, others)) =
      inl (is, takes_then contents x y z es fs l m first second, none_then xs ys zs rest others)
  one_then number es fs (x ∷ xs) (y ∷ ys) (z ∷ zs) l m (inl (is, first, rest)) (inr (other, second, others)) =
      absurd (other (first.number ∙ is))
  one_then number es fs (x ∷ xs) (y ∷ ys) (z ∷ zs) l m (inr (other, first, rest)) (inl (is, second, others)) =
      absurd (other (sym first.number ∙ is))
  one_then number es fs (x ∷ xs) (y ∷ ys) (z ∷ zs) l m (inr (other, first, rest)) (inr (again, second, others)) =
      inr (other, takes_then contents x y z [] [] 0 0 first second, one_then number es fs xs ys zs l m rest others)

  -- before that no file takes an event
  pub none_then_one : (number : ℕ) (events : List EventValue) (xs ys zs : List (RecordFile W)) (lost : ℕ)
      → NoneTake contents xs ys → OneTakes contents number events ys zs lost → OneTakes contents number events xs zs lost
  none_then_one number events [] [] [] lost h k = k
  none_then_one number events [] [] (z ∷ zs) lost h k = absurd k
  none_then_one number events [] (y ∷ ys) zs lost h k = absurd h
  none_then_one number events (x ∷ xs) [] zs lost h k = absurd h
  none_then_one number events (x ∷ xs) (y ∷ ys) [] lost h k = absurd k
  none_then_one number events (x ∷ xs) (y ∷ ys) (z ∷ zs) lost (first, rest) (inl (is, second, others)) =
      inl (sym first.number ∙ is, none_then_takes contents x y z events lost first second, none_then xs ys zs rest others)
  none_then_one number events (x ∷ xs) (y ∷ ys) (z ∷ zs) lost (first, rest) (inr (other, second, others)) =
      inr (λ e. other (first.number ∙ e), takes_then contents x y z [] [] 0 0 first second, none_then_one number events xs ys zs lost rest others)

  -- after that no file takes an event
  pub one_then_none : (number : ℕ) (events : List EventValue) (xs ys zs : List (RecordFile W)) (lost : ℕ)
      → OneTakes contents number events xs ys lost → NoneTake contents ys zs → OneTakes contents number events xs zs lost
  one_then_none number events [] [] [] lost h k = h
  one_then_none number events [] [] (z ∷ zs) lost h k = absurd k
  one_then_none number events [] (y ∷ ys) zs lost h k = absurd h
  one_then_none number events (x ∷ xs) [] zs lost h k = absurd h
  one_then_none number events (x ∷ xs) (y ∷ ys) [] lost h k = absurd k
  one_then_none number events (x ∷ xs) (y ∷ ys) (z ∷ zs) lost (inl (is, first, rest)) (second, others) =
      inl (is, takes_then_none contents x y z events lost first second, none_then xs ys zs rest others)
  one_then_none number events (x ∷ xs) (y ∷ ys) (z ∷ zs) lost (inr (other, first, rest)) (second, others) =
      inr (other, takes_then contents x y z [] [] 0 0 first second, one_then_none number events xs ys zs lost rest others)

  -- so many of these files took the event, and so many lines were lost
  abbrev pub TookSoFar : EventValue → ℕ → List (RecordFile W) → List (RecordFile W) → ℕ → ℕ → Type 0
  TookSoFar event i olds news first now =
      (lost : ℕ) × AllTake contents (event ∷ []) (take i olds) (take i news) lost × (now ≡ counted first lost)

  -- one file more
  pub took_more : (event : EventValue) (i : ℕ) (olds files : List (RecordFile W)) (d y : RecordFile W) (m first now next : ℕ)
      → i < length files → i < length olds → drop i files ≡ drop i olds → TookSoFar event i olds files first now
      → Takes contents (event ∷ []) (get_or files i d) y m → next ≡ counted now m
      → TookSoFar event (i + 1) olds (set files i y) first next
  took_more event i olds files d y m first now next below within same (lost, took, so_far) takes counts =
      let item : get_or files i d ≡ get_or olds i d = same_item files olds i d same in
      let one : Takes contents (event ∷ []) (get_or olds i d) y m = subst (λ f. Takes contents (event ∷ []) f y m) item takes in
      let more = all_more (event ∷ []) (take i olds) (take i files) lost (get_or olds i d) y m took one in (
        lost + m,
        rw (take_more olds i d within, take_more_set files i y below) more,
        counts ∙ ap (λ n. counted n m) so_far ∙ counted_then first lost m,
      )

  -- all files
  pub took_all : (event : EventValue) (i : ℕ) (olds files : List (RecordFile W)) (first now : ℕ) → length files ≤ i
      → length olds ≤ i → TookSoFar event i olds files first now
      → (lost : ℕ) × AllTake contents (event ∷ []) olds files lost × (now ≡ counted first lost)
  took_all event i olds files first now over past (lost, took, so_far) =
      (lost, rw (take_all i olds past, take_all i files over) at took, so_far)

  -- the file in this place is the first that has the number, and has lost a line
  pub out_at : (number : ℕ) (files : List (RecordFile W)) (i : ℕ) (y : RecordFile W) → i < length files
      → NoneHas number (take i files) → y.number ≡ number → y.is_whole ≡ false → IsOut number (set files i y)
  out_at number [] i y below none is broken = absurd (omega (arith, below))
  out_at number (file ∷ files) zero y below none is broken = inl (is, broken)
  out_at number (file ∷ files) (suc i) y below (other, none) is broken =
      inr (other, out_at number files i y (omega (arith, below)) none is broken)

  -- none has the number
  pub out_none : (number : ℕ) (files : List (RecordFile W)) → NoneHas number files → IsOut number files
  out_none number [] h = tt
  out_none number (file ∷ files) (other, none) = inr (other, out_none number files none)

  -- none of all files has the number, if none of so many has
  pub none_of_all : (number i : ℕ) (files : List (RecordFile W)) → length files ≤ i → NoneHas number (take i files)
      → NoneHas number files
  none_of_all number i files over none = subst (NoneHas number) (take_all i files over) none

  -- one more has another number
  pub none_next : (number i : ℕ) (files : List (RecordFile W)) (d : RecordFile W) → i < length files
      → NoneHas number (take i files) → (get_or files i d).number ≢ number → NoneHas number (take (i + 1) files)
  none_next number i files d below none other =
      subst (NoneHas number) (sym (take_more files i d below)) (none_more number (take i files) (get_or files i d) none other)
