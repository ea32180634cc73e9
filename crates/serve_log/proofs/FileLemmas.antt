-- What files of a record get, call after call.
use Rattle.std.proofs.Common.{◌<◌, ◌≤◌, take, get_or, set, ◌≡◌, ◌≢◌, ◌⊎◌, ◌+◌, ◌-◌, ◌^◌, ◌++◌, ◌&&◌, ℕ, zero, suc, Bool, true, false, List, [], ◌∷◌, Option, None, Some, length, min, inl, inr, refl, sym, ap, ◌∙◌, append_assoc, append-nil, arith, length-append, add-zero, subst, zero-add, true≢false}
use Rattle.std.specs.Prelude.{⊤}
use Rattle.std.proofs.lemmas.Grind.{flat_map-append}
use Rattle.std.specs.Io.KnownBytes.{Appends}
use Rattle.proxy_core.specs.Events.{EventValue}
use Rattle.serve_log.specs.Files.{AddsNothing, AddsToAll, AddsToOne, AllTake, Gets, IsSameFile, NoneTake, OneTakes, Takes, counted, files_of, has_none}
use Rattle.serve_log.specs.Lines.{event_line, event_text, file_of}
use Rattle.serve_log.specs.Writing.{Writes, line_of}
use Rattle.serve_log.specs.declared.open_files.OpenFiles.{OpenFiles}
use Rattle.serve_log.specs.declared.record_file.RecordFile.{RecordFile}

-- nothing is added
appends_none : (out : Option (List ℕ)) → Appends out out []
appends_none None = tt
appends_none (Some bytes) = sym (append-nil bytes)

-- these bytes are added, and then those
appends_then : (out mid new : Option (List ℕ)) (first more : List ℕ) → Appends out mid first → Appends mid new more
    → Appends out new (first ++ more)
appends_then None mid new first more h k = tt
appends_then (Some xs) None new first more h k = absurd h
appends_then (Some xs) (Some ys) None first more h k = absurd k
appends_then (Some xs) (Some ys) (Some zs) first more h k = k ∙ ap (λ l. l ++ more) h ∙ append_assoc xs first more

-- bytes that are added to none are all
appends_all : (out new : Option (List ℕ)) (bytes : List ℕ) → out ≡ Some [] → Appends out new bytes → new ≡ Some bytes
appends_all None new bytes is h = absurd cc
appends_all (Some xs) None bytes is h = absurd h
appends_all (Some xs) (Some ys) bytes is h =
    let none : xs ≡ [] = cc in
    ap Some (h ∙ ap (λ l. l ++ bytes) none)

-- nothing is written
pub writes_none : (out : Option (List ℕ)) (waiting : List ℕ) → Writes out out waiting waiting
writes_none out waiting = ([], appends_none out, refl)

-- bytes are written, more wait, and bytes are written again
pub writes_then : (out mid new : Option (List ℕ)) (waiting left more last : List ℕ)
    → Writes out mid waiting left → Writes mid new (left ++ more) last → Writes out new (waiting ++ more) last
writes_then out mid new waiting left more last (first, first_is, first_left) (second, second_is, second_left) = (
  first ++ second,
  appends_then out mid new first second first_is second_is,
  ap (λ l. l ++ more) first_left ∙ append_assoc first left more ∙ ap (λ l. first ++ l) second_left
      ∙ sym (append_assoc first second last),
)

pub counted_then : (so_far first more : ℕ) → counted (counted so_far first) more ≡ counted so_far (first + more)
counted_then so_far zero more = ap (counted so_far) (sym (zero-add more))
counted_then so_far (suc first) zero = ap (counted so_far) (sym (add-zero (suc first)))
counted_then so_far (suc first) (suc more) =
    let sum : suc (first + suc more) ≡ suc first + suc more = omega arith in
    let step : min (min (so_far + suc first) (2 ^ 64 - 1) + suc more) (2 ^ 64 - 1)
    ≡ min (so_far + suc (first + suc more)) (2 ^ 64 - 1) = omega arith in
    step ∙ ap (counted so_far) sum

and_true : (b : Bool) → (b && true) ≡ b
and_true true = refl
and_true false = refl

and_false : (b : Bool) → (b && false) ≡ false
and_false true = refl
and_false false = refl

false_and : (a b : Bool) → a ≡ false → (a && b) ≡ false
false_and true b h = absurd cc
false_and false b h = refl

none_is_left : (left : List EventValue) → 0 ≡ length left → (b : Bool) → (b && has_none left) ≡ b
none_is_left [] h b = and_true b
none_is_left (event ∷ left) h b = absurd cc

append_none : (kept left : List EventValue) → length left ≡ 0 → kept ++ left ≡ kept
append_none kept [] h = append-nil kept
append_none kept (event ∷ left) h = absurd cc

file_then : (es fs : List EventValue) → file_of (es ++ fs) ≡ file_of es ++ file_of fs
file_then es fs = flat_map-append event_line es fs

module _ {W : Type 0} (contents : W → Option (List ℕ)) where
  -- a file that is as it was takes nothing
  pub same_takes : (old new : RecordFile W) → IsSameFile old new → Takes contents [] old new 0
  same_takes old new same = record {
    kept = [];
    left = [];
    whole = refl;
    gets = rw (same.writer, same.waiting, append-nil old.out.waiting) (writes_none (contents old.out.writer) old.out.waiting);
    none = λ h. refl;
    ends = same.is_whole ∙ sym (and_true old.is_whole);
    count = refl;
    number = same.number;
    lines = same.lines;
  }

  -- a file was written, and took nothing
  pub takes_write : (b c : RecordFile W) → Writes (contents b.out.writer) (contents c.out.writer) b.out.waiting c.out.waiting
      → c.number ≡ b.number → c.lines ≡ b.lines → c.is_whole ≡ b.is_whole → Takes contents [] b c 0
  takes_write b c writes number lines is_whole = record {
    kept = [];
    left = [];
    whole = refl;
    gets = rw (append-nil b.out.waiting) writes;
    none = λ h. refl;
    ends = is_whole ∙ sym (and_true b.is_whole);
    count = refl;
    number = number;
    lines = lines;
  }

  -- a whole file took a line
  pub takes_line : (event : EventValue) (b c : RecordFile W) → c.out.writer ≡ b.out.writer
      → c.out.waiting ≡ b.out.waiting ++ event_line event → c.number ≡ b.number → c.lines ≡ counted b.lines 1
      → c.is_whole ≡ b.is_whole → b.is_whole ≡ true → Takes contents (event ∷ []) b c 0
  takes_line event b c writer waiting number lines is_whole whole = record {
    kept = event ∷ [];
    left = [];
    whole = refl;
    gets = rw (writer, waiting, append-nil (event_line event)) (writes_none (contents b.out.writer) (b.out.waiting ++ event_line event));
    none = λ broken. absurd (true≢false (sym whole ∙ broken));
    ends = is_whole ∙ sym (and_true b.is_whole);
    count = refl;
    number = number;
    lines = lines;
  }

  -- a file lost a line
  pub loses_line : (event : EventValue) (b c : RecordFile W) → c.out.writer ≡ b.out.writer → c.out.waiting ≡ b.out.waiting
      → c.number ≡ b.number → c.lines ≡ b.lines → c.is_whole ≡ false → Takes contents (event ∷ []) b c 1
  loses_line event b c writer waiting number lines broken = record {
    kept = [];
    left = event ∷ [];
    whole = refl;
    gets = rw (writer, waiting, append-nil b.out.waiting) (writes_none (contents b.out.writer) b.out.waiting);
    none = λ h. refl;
    ends = broken ∙ sym (and_false b.is_whole);
    count = refl;
    number = number;
    lines = lines;
  }

  pub unchanged : (file : RecordFile W) → Takes contents [] file file 0
  unchanged file =
      same_takes file file (record { number = refl; writer = refl; waiting = refl; lines = refl; is_whole = refl })

  gets_then : (a b c : RecordFile W) (es fs : List EventValue) → Gets contents es a b → Gets contents fs b c
      → Gets contents (es ++ fs) a c
  gets_then a b c es fs h k =
      let both = writes_then (contents a.out.writer) (contents b.out.writer) (contents c.out.writer)
      (a.out.waiting ++ file_of es) b.out.waiting (file_of fs) c.out.waiting h k in
      rw (file_then es fs, sym (append_assoc a.out.waiting (file_of es) (file_of fs))) both

  module _ (a b c : RecordFile W) (es fs : List EventValue) (l m : ℕ) (h : Takes contents es a b l) (k : Takes contents fs b c m) where
    -- nothing was lost before
    then_whole : h.left ≡ [] → Takes contents (es ++ fs) a c (l + m)
    then_whole none =
        let whole : es ≡ h.kept = h.whole ∙ ap (λ x. h.kept ++ x) none ∙ append-nil h.kept in
        let same : b.is_whole ≡ a.is_whole = h.ends ∙ ap (λ x. a.is_whole && has_none x) none ∙ and_true a.is_whole in
        record {
          kept = h.kept ++ k.kept;
          left = k.left;
          whole = ap (λ x. x ++ fs) whole ∙ ap (λ x. h.kept ++ x) k.whole ∙ sym (append_assoc h.kept k.kept k.left);
          gets = gets_then a b c h.kept k.kept h.gets k.gets;
          none = λ broken. ap (λ x. x ++ k.kept) (h.none broken) ∙ k.none (same ∙ broken);
          ends = k.ends ∙ ap (λ x. x && has_none k.left) same;
          count = ap (λ x. x + m) (h.count ∙ ap length none) ∙ zero-add m ∙ k.count;
          number = k.number ∙ h.number;
          lines = k.lines ∙ ap (λ x. counted x (length k.kept)) h.lines
              ∙ counted_then a.lines (length h.kept) (length k.kept)
              ∙ ap (counted a.lines) (sym (length-append h.kept k.kept));
        }

    -- something was lost before
    then_broken : (event : EventValue) (events : List EventValue) → h.left ≡ event ∷ events → Takes contents (es ++ fs) a c (l + m)
    then_broken event events some =
        let broken : b.is_whole ≡ false = h.ends ∙ ap (λ x. a.is_whole && has_none x) some ∙ and_false a.is_whole in
        let nothing : k.kept ≡ [] = k.none broken in
        let rest : fs ≡ k.left = k.whole ∙ ap (λ x. x ++ k.left) nothing in
        record {
          kept = h.kept;
          left = h.left ++ k.left;
          whole = ap (λ x. x ++ fs) h.whole ∙ append_assoc h.kept h.left fs ∙ ap (λ x. h.kept ++ (h.left ++ x)) rest;
          gets = (let both : Gets contents (h.kept ++ k.kept) a c = gets_then a b c h.kept k.kept h.gets k.gets in
              let same : h.kept ++ k.kept ≡ h.kept = ap (λ x. h.kept ++ x) nothing ∙ append-nil h.kept in
              rw same at both);
          none = h.none;
          ends = k.ends ∙ false_and b.is_whole (has_none k.left) broken ∙ sym (and_false a.is_whole)
              ∙ sym (ap (λ x. a.is_whole && has_none (x ++ k.left)) some);
          count = ap (λ x. x + m) h.count ∙ ap (λ x. length h.left + x) k.count ∙ sym (length-append h.left k.left);
          number = k.number ∙ h.number;
          lines = k.lines ∙ ap (λ x. counted b.lines (length x)) nothing ∙ h.lines;
        }

    then_by : (left : List EventValue) → h.left ≡ left → Takes contents (es ++ fs) a c (l + m)
    then_by [] is = then_whole is
    then_by (event ∷ events) is = then_broken event events is

    -- a file takes events, and then others
    pub takes_then : Takes contents (es ++ fs) a c (l + m)
    takes_then = then_by h.left refl

  -- an empty file took events, and nothing waits
  pub written_events : (old new : RecordFile W) (events : List EventValue) (lost : ℕ) → contents old.out.writer ≡ Some []
      → old.out.waiting ≡ [] → new.out.waiting ≡ [] → Takes contents events old new lost
      → (kept left : List EventValue) × (events ≡ kept ++ left) × (length left ≡ lost)
      × (contents new.out.writer ≡ Some (file_of kept))
  written_events old new events lost empty none done h =
      let (written, adds, rest) = h.gets in
      let whole : file_of h.kept ≡ written =
      sym (ap (λ l. l ++ file_of h.kept) none) ∙ rest ∙ ap (λ l. written ++ l) done ∙ append-nil written in (
        h.kept,
        h.left,
        h.whole,
        sym h.count,
        appends_all (contents old.out.writer) (contents new.out.writer) written empty adds ∙ ap Some (sym whole),
      )

  -- the same without a loss
  pub written_all : (old new : RecordFile W) (events : List EventValue) → contents old.out.writer ≡ Some []
      → old.out.waiting ≡ [] → new.out.waiting ≡ [] → Takes contents events old new 0
      → contents new.out.writer ≡ Some (file_of events)
  written_all old new events empty none done h =
      let (kept, left, whole, count, is) = written_events old new events 0 empty none done h in
      is ∙ ap (λ l. Some (file_of l)) (sym (whole ∙ append_none kept left count))

  -- a file takes events after a call in which it took none
  pub none_then_takes : (x y z : RecordFile W) (events : List EventValue) (lost : ℕ) → Takes contents [] x y 0
      → Takes contents events y z lost → Takes contents events x z lost
  none_then_takes x y z events lost h k =
      subst (λ n. Takes contents events x z n) (zero-add lost) (takes_then x y z [] events 0 lost h k)

  -- a whole file that loses no line is whole
  pub stays_whole : (events : List EventValue) (x y : RecordFile W) → Takes contents events x y 0 → x.is_whole ≡ true
      → y.is_whole ≡ true
  stays_whole events x y h whole = h.ends ∙ none_is_left h.left h.count x.is_whole ∙ whole

  pub none_stays_whole : (x y : RecordFile W) → Takes contents [] x y 0 → x.is_whole ≡ true → y.is_whole ≡ true
  none_stays_whole x y h whole = stays_whole [] x y h whole

  -- a file takes none in a call after it took events
  pub takes_then_none : (x y z : RecordFile W) (events : List EventValue) (lost : ℕ) → Takes contents events x y lost
      → Takes contents [] y z 0 → Takes contents events x z lost
  takes_then_none x y z events lost h k =
      subst (λ es. Takes contents es x z lost) (append-nil events)
      (subst (λ n. Takes contents (events ++ []) x z n) (add-zero lost) (takes_then x y z events [] lost 0 h k))
