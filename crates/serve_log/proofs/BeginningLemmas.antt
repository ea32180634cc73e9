-- The events at the beginning of a file, part after part.
use Rattle.std.proofs.Common.{◌≡◌, ◌<◌, ◌+◌, ◌*◌, ◌++◌, ℕ, zero, suc, Bool, true, false, List, [], ◌∷◌, Option, append_assoc, append-nil, arith, drop, get_or, length, map, refl, subst, take, take-append-drop, zero-add, sym, ap, ap₂, ◌∙◌}
use Rattle.std.proofs.Math.Nat.{add-mul, one-mul, zero-mul}
use Rattle.std.proofs.lemmas.Grind.{flat_map-append}
use Rattle.std.proofs.lemmas.List.{map-append, take_more}
use Rattle.std.specs.List.{flat_map}
use Rattle.proxy_core.specs.Events.{EventValue, ads_bytes, ads_lost, ads_up}
use Rattle.serve_log.specs.Beginnings.{FeedsAgain, IsBeginning, IsNew, Joins, TakesBeginning, TakesBytes, TakesUpdates, empty_frames, forgotten, frames_of, last_bytes, last_events}
use Rattle.serve_log.specs.Files.{Takes}
use Rattle.serve_log.specs.Frames.{empty_response}
use Rattle.xds_wire.specs.Frames.{frame_of}
use Rattle.serve_log.specs.declared.record_file.RecordFile.{RecordFile}
use Rattle.serve_log.specs.declared.updates.AcceptedResponse.{AcceptedResponse}
use Rattle.serve_log.specs.declared.updates.Updates.{Updates}
use Rattle.serve_log.proofs.FileLemmas.{stays_whole, takes_then, takes_then_none, unchanged}

-- one frame more
pub empty_more : (count : ℕ) → empty_frames count ++ frame_of empty_response ≡ empty_frames (suc count)
empty_more zero = sym (append-nil (frame_of empty_response))
empty_more (suc count) =
    append_assoc (frame_of empty_response) (empty_frames count) (frame_of empty_response)
    ∙ ap (λ l. frame_of empty_response ++ l) (empty_more count)

-- so many frames, and then others
pub empty_then : (first more : ℕ) → empty_frames (first + more) ≡ empty_frames first ++ empty_frames more
empty_then zero more = ap empty_frames (zero-add more)
empty_then (suc first) more =
    let e : suc first + more ≡ suc (first + more) = omega arith in
    ap empty_frames e ∙ ap (λ l. frame_of empty_response ++ l) (empty_then first more)
    ∙ sym (append_assoc (frame_of empty_response) (empty_frames first) (empty_frames more))

-- so many and one more
one_more : (done size : ℕ) → done * size + size ≡ (done + 1) * size
one_more done size = sym (add-mul done 1 size ∙ ap (λ n. done * size + n) (one-mul size))

joins_then : (ps qs : List (List ℕ)) (first more : List ℕ) → Joins ps first → Joins qs more → Joins (ps ++ qs) (first ++ more)
joins_then ps qs first more h k =
    flat_map-append (λ (piece : List ℕ). piece) ps qs ∙ ap (λ l. l ++ flat_map (λ (piece : List ℕ). piece) qs) h ∙ ap (λ l. first ++ l) k

module _ {W : Type 0} (contents : W → Option (List ℕ)) where
  -- no bytes
  pub bytes_none : (file : RecordFile W) → TakesBytes contents [] file file
  bytes_none file = ([], refl, unchanged contents file)

  -- one piece
  pub bytes_one : (bytes : List ℕ) (a b : RecordFile W) → Takes contents (ads_bytes bytes ∷ []) a b 0 → TakesBytes contents bytes a b
  bytes_one bytes a b h = (bytes ∷ [], append-nil bytes, h)

  -- bytes, and then others
  pub bytes_then : (first more : List ℕ) (a b c : RecordFile W) → TakesBytes contents first a b → TakesBytes contents more b c
      → TakesBytes contents (first ++ more) a c
  bytes_then first more a b c (ps, ps_are, h) (qs, qs_are, k) = (
    ps ++ qs,
    joins_then ps qs first more ps_are qs_are,
    rw (map-append ads_bytes ps qs) (takes_then contents a b c (map ads_bytes ps) (map ads_bytes qs) 0 0 h k),
  )

  pub bytes_whole : (bytes : List ℕ) (a b : RecordFile W) → TakesBytes contents bytes a b → a.is_whole ≡ true → b.is_whole ≡ true
  bytes_whole bytes a b (pieces, are, h) whole = stays_whole contents (map ads_bytes pieces) a b h whole

  -- one piece more of the bytes
  pub put_more : (bytes done rest piece more : List ℕ) (a b c : RecordFile W) → done ++ rest ≡ bytes
      → TakesBytes contents done a b → piece ≡ take 65536 rest → more ≡ drop 65536 rest
      → Takes contents (ads_bytes piece ∷ []) b c 0
      → (all : List ℕ) × (all ++ more ≡ bytes) × TakesBytes contents all a c
  put_more bytes done rest piece more a b c are takes first others one =
      let joined : piece ++ more ≡ rest = ap₂ (λ x y. x ++ y) first others ∙ take-append-drop 65536 rest in (
        done ++ piece,
        append_assoc done piece more ∙ ap (λ l. done ++ l) joined ∙ are,
        bytes_then done piece a b c takes (bytes_one piece b c one),
      )

  -- no bytes are left
  pub put_all : (bytes done rest : List ℕ) (a b : RecordFile W) → done ++ rest ≡ bytes → rest ≡ []
      → TakesBytes contents done a b → TakesBytes contents bytes a b
  put_all bytes done rest a b are none takes =
      let is : done ≡ bytes = sym (append-nil done) ∙ ap (λ l. done ++ l) (sym none) ∙ are in
      subst (λ l. TakesBytes contents l a b) is takes

  -- one response more
  pub kept_more : (kept : List AcceptedResponse) (i : ℕ) (d : AcceptedResponse) (bytes : List ℕ) (a b c : RecordFile W)
      → i < length kept → bytes ≡ (get_or kept i d).bytes.items → TakesBytes contents (frames_of (take i kept)) a b
      → TakesBytes contents bytes b c → TakesBytes contents (frames_of (take (i + 1) kept)) a c
  kept_more kept i d bytes a b c below is so_far next =
      let one : frames_of (take (i + 1) kept) ≡ frames_of (take i kept) ++ bytes =
      ap frames_of (take_more kept i d below)
      ∙ flat_map-append (λ (response : AcceptedResponse). response.bytes.items) (take i kept) (get_or kept i d ∷ [])
      ∙ ap (λ l. frames_of (take i kept) ++ l) (append-nil (get_or kept i d).bytes.items ∙ sym is) in
      subst (λ l. TakesBytes contents l a c) (sym one) (bytes_then (frames_of (take i kept)) bytes a b c so_far next)

  -- so many frames, in two parts
  pub empty_parts : (count first more : ℕ) (a b c : RecordFile W) → first + more ≡ count
      → TakesBytes contents (empty_frames first) a b → TakesBytes contents (empty_frames more) b c
      → TakesBytes contents (empty_frames count) a c
  empty_parts count first more a b c sum h k =
      let is : empty_frames first ++ empty_frames more ≡ empty_frames count = sym (empty_then first more) ∙ ap empty_frames sum in
      subst (λ l. TakesBytes contents l a c) is (bytes_then (empty_frames first) (empty_frames more) a b c h k)

  pub empty_whole : (count first : ℕ) (a b : RecordFile W) → first ≡ count → TakesBytes contents (empty_frames first) a b
      → TakesBytes contents (empty_frames count) a b
  empty_whole count first a b is h = subst (λ n. TakesBytes contents (empty_frames n) a b) is h

  -- no line of so many frames
  pub times_none : (size : ℕ) (file : RecordFile W) → TakesBytes contents (empty_frames (0 * size)) file file
  times_none size file =
      subst (λ n. TakesBytes contents (empty_frames n) file file) (sym (zero-mul size)) (bytes_none file)

  -- one line more of so many frames
  pub times_more : (done size : ℕ) (a b c : RecordFile W) → TakesBytes contents (empty_frames (done * size)) a b
      → Takes contents (ads_bytes (empty_frames size) ∷ []) b c 0 → TakesBytes contents (empty_frames ((done + 1) * size)) a c
  times_more done size a b c h k =
      let sum : done * size + size ≡ (done + 1) * size = one_more done size in
      empty_parts ((done + 1) * size) (done * size) size a b c sum h (bytes_one (empty_frames size) b c k)

  -- the whole of what feeds a new core
  pub feeds_again : (updates : Updates) (a b c d : RecordFile W) (e : RecordFile W) → Takes contents (ads_up ∷ []) a b 0
      → TakesBytes contents (empty_frames (forgotten updates)) b c → TakesBytes contents (frames_of updates.kept.items) c d
      → (rest : List (List ℕ)) → Joins rest (last_bytes updates.is_up updates.unfinished.items)
      → Takes contents (map ads_bytes rest ++ last_events updates.is_up) d e 0
      → TakesUpdates contents updates a e
  feeds_again updates a b c d e up empty kept rest rest_is last =
      let both = bytes_then (empty_frames (forgotten updates)) (frames_of updates.kept.items) b c d empty kept in
      let pieces = both.0 ++ rest in
      let first = takes_then contents b d e (map ads_bytes both.0) (map ads_bytes rest ++ last_events updates.is_up) 0 0
      both.2 last in
      let all = takes_then contents a b e (ads_up ∷ []) _ 0 0 up first in (
        ads_up ∷ (map ads_bytes pieces ++ last_events updates.is_up),
        record {
          pieces = pieces;
          joins = joins_then both.0 rest (empty_frames (forgotten updates) ++ frames_of updates.kept.items)
              (last_bytes updates.is_up updates.unfinished.items) both.1 rest_is;
          are = refl;
        },
        rw (map-append ads_bytes both.0 rest, append_assoc (map ads_bytes both.0) (map ads_bytes rest) (last_events updates.is_up)) all,
      )

  -- the stream is up
  pub feeds_up : (updates : Updates) (a b c d e : RecordFile W) → updates.is_up ≡ true → Takes contents (ads_up ∷ []) a b 0
      → TakesBytes contents (empty_frames (forgotten updates)) b c → TakesBytes contents (frames_of updates.kept.items) c d
      → TakesBytes contents updates.unfinished.items d e → TakesUpdates contents updates a e
  feeds_up updates a b c d e is up empty kept (pieces, are, last) =
      feeds_again updates a b c d e up empty kept pieces (rw is are) (rw (is, append-nil (map ads_bytes pieces)) last)

  -- it is lost
  pub feeds_down : (updates : Updates) (a b c d e : RecordFile W) → updates.is_up ≡ false → Takes contents (ads_up ∷ []) a b 0
      → TakesBytes contents (empty_frames (forgotten updates)) b c → TakesBytes contents (frames_of updates.kept.items) c d
      → Takes contents (ads_lost ∷ []) d e 0 → TakesUpdates contents updates a e
  feeds_down updates a b c d e is up empty kept last =
      feeds_again updates a b c d e up empty kept [] (rw is refl) (rw is last)

  -- nothing has happened
  pub begins_new : (updates : Updates) (a b : RecordFile W) → IsNew updates → Takes contents [] a b 0
      → TakesBeginning contents updates a b
  begins_new updates a b is h = ([], record { none = λ _. refl; some = λ other. absurd (other is) }, h)

  -- something has happened
  pub begins_again : (updates : Updates) (a b : RecordFile W) → (IsNew updates → ⊥) → TakesUpdates contents updates a b
      → TakesBeginning contents updates a b
  begins_again updates a b other (events, are, h) =
      (events, record { none = λ is. absurd (other is); some = λ _. are }, h)

  -- and then the file takes no event
  pub begins_then : (updates : Updates) (a b c : RecordFile W) → TakesBeginning contents updates a b → Takes contents [] b c 0
      → TakesBeginning contents updates a c
  begins_then updates a b c (events, are, h) k = (events, are, takes_then_none contents a b c events 0 h k)
