-- What the open files of a record get, call after call.
use Rattle.std.proofs.Common.{◌≡◌, ◌≢◌, ◌⊎◌, ◌+◌, ◌++◌, ℕ, List, [], ◌∷◌, Option, inl, inr, refl, sym, ap, ◌∙◌, add_comm}
use Rattle.proxy_core.specs.Events.{EventValue}
use Rattle.serve_log.specs.Beginnings.{GoesOn, IsBegun}
use Rattle.serve_log.specs.Files.{AddsNothing, AddsToAll, AddsToOne, AllTake, IsSameFile, NoneTake, OneTakes, StayOpen, Takes, counted, files_of}
use Rattle.serve_log.specs.declared.open_files.OpenFiles.{OpenFiles}
use Rattle.serve_log.specs.declared.record_file.RecordFile.{RecordFile}
use Rattle.serve_log.specs.declared.updates.Updates.{Updates}
use Rattle.serve_log.proofs.FileLemmas.{counted_then, same_takes, takes_then, unchanged}
use Rattle.serve_log.proofs.FileListLemmas.{all_nothing, all_then, one_nothing, none_same, none_then, none_then_one, one_then, one_then_none}
use Rattle.serve_log.proofs.StayLemmas.{stay_next, stay_then}

module _ {W : Type 0} (contents : W → Option (List ℕ)) where
  module _ (a b c : OpenFiles W) where
    pub adds_all_then : (es fs : List EventValue) → AddsToAll contents es a b → AddsToAll contents fs b c
        → AddsToAll contents (es ++ fs) a c
    adds_all_then es fs h k = record {
      lost = h.lost + k.lost;
      takes = all_then contents es fs (files_of a) (files_of b) (files_of c) h.lost k.lost h.takes k.takes;
      counts = k.counts ∙ ap (λ n. counted n k.lost) h.counts ∙ counted_then a.faults.dropped h.lost k.lost;
    }

    pub adds_one_then : (number : ℕ) (es fs : List EventValue) → AddsToOne contents number es a b
        → AddsToOne contents number fs b c → AddsToOne contents number (es ++ fs) a c
    adds_one_then number es fs h k = record {
      lost = h.lost + k.lost;
      takes = one_then contents number es fs (files_of a) (files_of b) (files_of c) h.lost k.lost h.takes k.takes;
      counts = k.counts ∙ ap (λ n. counted n k.lost) h.counts ∙ counted_then a.faults.dropped h.lost k.lost;
    }

    pub nothing_then : (lost : ℕ) → AddsNothing contents 0 a b → AddsNothing contents lost b c → AddsNothing contents lost a c
    nothing_then lost h k = record {
      takes = none_then contents (files_of a) (files_of b) (files_of c) h.takes k.takes;
      counts = k.counts ∙ ap (λ n. counted n lost) h.counts;
    }

    pub nothing_then_one : (number : ℕ) (events : List EventValue) → AddsNothing contents 0 a b
        → AddsToOne contents number events b c → AddsToOne contents number events a c
    nothing_then_one number events h k = record {
      lost = k.lost;
      takes = none_then_one contents number events (files_of a) (files_of b) (files_of c) k.lost h.takes k.takes;
      counts = k.counts ∙ ap (λ n. counted n k.lost) h.counts;
    }

    pub one_then_nothing : (number : ℕ) (events : List EventValue) → AddsToOne contents number events a b
        → AddsNothing contents 0 b c → AddsToOne contents number events a c
    one_then_nothing number events h k = record {
      lost = h.lost;
      takes = one_then_none contents number events (files_of a) (files_of b) (files_of c) h.lost h.takes k.takes;
      counts = k.counts ∙ h.counts;
    }

  -- ---- no call

  pub adds_all_none : (a : OpenFiles W) → AddsToAll contents [] a a
  adds_all_none a = record { lost = 0; takes = all_nothing contents (files_of a); counts = refl }

  pub adds_one_none : (number : ℕ) (a : OpenFiles W) → AddsToOne contents number [] a a
  adds_one_none number a = record { lost = 0; takes = one_nothing contents number (files_of a); counts = refl }

  pub adds_nothing : (a : OpenFiles W) → AddsNothing contents 0 a a
  adds_nothing a = record { takes = none_same contents (files_of a); counts = refl }

  -- ---- one call

  -- the older files took the event, and then the one that is written
  pub all_files : (event : EventValue) (a b : OpenFiles W) (between l m : ℕ)
      → AllTake contents (event ∷ []) a.older.items b.older.items l → between ≡ counted a.faults.dropped l
      → Takes contents (event ∷ []) a.current b.current m → b.faults.dropped ≡ counted between m
      → AddsToAll contents (event ∷ []) a b
  all_files event a b between l m older older_counts current counts = record {
    lost = m + l;
    takes = (m, l, current, older, refl);
    counts = counts ∙ ap (λ n. counted n m) older_counts ∙ counted_then a.faults.dropped l m
        ∙ ap (counted a.faults.dropped) (add_comm l m);
  }

  -- the file that is written has the number, and took the event
  pub current_file : (number : ℕ) (event : EventValue) (a b : OpenFiles W) (m : ℕ) → a.current.number ≡ number
      → Takes contents (event ∷ []) a.current b.current m → b.older ≡ a.older → b.faults.dropped ≡ counted a.faults.dropped m
      → AddsToOne contents number (event ∷ []) a b
  current_file number event a b m is takes older counts = record {
    lost = m;
    takes = inl (is, takes, rw older (none_same contents a.older.items));
    counts = counts;
  }

  -- an older file may have the number, and took the event
  pub older_file : (number : ℕ) (event : EventValue) (a b : OpenFiles W) (m : ℕ) → a.current.number ≢ number
      → b.current ≡ a.current → OneTakes contents number (event ∷ []) a.older.items b.older.items m
      → b.faults.dropped ≡ counted a.faults.dropped m → AddsToOne contents number (event ∷ []) a b
  older_file number event a b m other current takes counts = record {
    lost = m;
    takes = inr (other, rw current (unchanged contents a.current), takes);
    counts = counts;
  }

  -- the file that is written, or an older one, changed in nothing that matters
  pub nothing_in_current : (a b : OpenFiles W) → IsSameFile a.current b.current → b.older ≡ a.older
      → b.faults.dropped ≡ a.faults.dropped → AddsNothing contents 0 a b
  nothing_in_current a b same older dropped = record {
    takes = (same_takes contents a.current b.current same, rw older (none_same contents a.older.items));
    counts = dropped;
  }

  pub nothing_in_older : (a b : OpenFiles W) → b.current ≡ a.current → NoneTake contents a.older.items b.older.items
      → b.faults.dropped ≡ a.faults.dropped → AddsNothing contents 0 a b
  nothing_in_older a b current h dropped = record {
    takes = (rw current (unchanged contents a.current), h);
    counts = dropped;
  }

  -- another file goes on, or is begun
  pub goes_on_after : (updates : Updates) (a b c : OpenFiles W) → Takes contents [] a.current b.current 0
      → StayOpen contents a.older.items b.older.items → GoesOn contents updates b c → GoesOn contents updates a c
  goes_on_after updates a b c same stay (inl (goes_on, others)) = inl (
    takes_then contents a.current b.current c.current [] [] 0 0 same goes_on,
    stay_then contents a.older.items b.older.items c.older.items stay others,
  )
  goes_on_after updates a b c same stay (inr (begun, others)) = inr (
    rw same.number at begun,
    stay_then contents (a.older.items ++ a.current ∷ []) (b.older.items ++ b.current ∷ []) c.older.items
        (stay_next contents a.older.items b.older.items a.current b.current stay same) others,
  )
