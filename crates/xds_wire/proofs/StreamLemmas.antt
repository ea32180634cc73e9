-- Calls on a reader cut all the bytes that were fed.
use Rattle.std.proofs.Common.{◌≡◌, ℕ, Some, None, List, [], ◌∷◌, ◌++◌, refl, ap, ◌∙◌, sym, append_assoc, append-nil}
use Rattle.xds_wire.specs.Frames.{head_of, frames_of, Breaks, compressed, too_long, nothing, Tail, unfinished, broken, Cut}
use Rattle.xds_wire.specs.Stream.{Kept, start, Resumes, Feeds, Takes, Call, fed, taken, Runs, bytes_fed, messages_taken}
use Rattle.xds_wire.specs.declared.fault.FrameFault.{FrameFault}
use Rattle.xds_wire.proofs.CutLemmas.{frames_none, cut_of, cut_behind}

-- what breaks stays broken when more bytes come
breaks_append : (max : ℕ) (rest more : List ℕ) (fault : FrameFault) → Breaks max rest fault
    → Breaks max (rest ++ more) fault
breaks_append max rest more fault (compressed flag bytes is some e) =
    compressed flag (bytes ++ more) (ap (λ t. t ++ more) is) some e
breaks_append max rest more fault (too_long n bytes is fits long e) =
    too_long n (bytes ++ more)
    (ap (λ t. t ++ more) is ∙ append_assoc (head_of n) bytes more) fits long e

-- what is cut goes on with more bytes
pub cut_resumes : (bytes more : List ℕ) (max : ℕ) (ms ns : List (List ℕ)) (t u : Tail)
    → Cut bytes max ms t → Resumes max t more ns u → Cut (bytes ++ more) max (ms ++ ns) u
cut_resumes bytes more max ms ns (unfinished rest) u cut next =
    let whole : bytes ++ more ≡ frames_of ms ++ (rest ++ more) =
    ap (λ t. t ++ more) cut.whole ∙ append_assoc (frames_of ms) cut.rest more
    ∙ ap (λ r. frames_of ms ++ (r ++ more)) (sym cut.ends.0) in
    cut_behind (bytes ++ more) max ms ns (rest ++ more) u
    (record { whole = whole; allowed = cut.allowed }) next
cut_resumes bytes more max ms ns (broken fault) u cut (none, same) =
    let whole : bytes ++ more ≡ frames_of ms ++ (cut.rest ++ more) =
    ap (λ t. t ++ more) cut.whole ∙ append_assoc (frames_of ms) cut.rest more in
    rw (none, same, append-nil ms) (
    cut_of (bytes ++ more) max ms (cut.rest ++ more) (broken fault)
    (record { whole = whole; allowed = cut.allowed })
    (breaks_append max cut.rest more fault cut.ends)
    )

-- the bytes were cut to what was handed out and what is kept
pub record Holds (max : ℕ) (bytes : List ℕ) (out : List (List ℕ)) (kept : Kept) : Type 0 where
  pub limit : kept.max ≡ max
  pub cut : Cut bytes max (out ++ kept.messages) kept.tail

holds_start : (max : ℕ) → Holds max [] [] (start max)
holds_start max = record {
  limit = refl;
  cut = cut_of [] max [] [] (unfinished []) (frames_none [] max) (refl, nothing refl);
}

holds_fed : (max : ℕ) (bytes more : List ℕ) (out : List (List ℕ)) (old new : Kept)
    → Holds max bytes out old → Feeds old more new → Holds max (bytes ++ more) out new
holds_fed max bytes more out old new h (ms, next, is) =
    let resumed : Resumes max old.tail more ms new.tail = rw (← h.limit) next in
    let cut = cut_resumes bytes more max (out ++ old.messages) ms old.tail new.tail h.cut resumed in
    let messages : out ++ old.messages ++ ms ≡ out ++ new.messages =
    append_assoc out old.messages ms ∙ ap (λ k. out ++ k.messages) (sym is) in
    record { limit = ap (λ k. k.max) is ∙ h.limit; cut = rw (← messages) cut }

holds_taken : (max : ℕ) (bytes : List ℕ) (out : List (List ℕ)) (m : List ℕ) (old new : Kept)
    → Holds max bytes out old → Takes old (Some m) new → Holds max bytes (out ++ m ∷ []) new
holds_taken max bytes out m old new h is =
    let messages : out ++ old.messages ≡ out ++ m ∷ [] ++ new.messages =
    ap (λ k. out ++ k.messages) is ∙ sym (append_assoc out (m ∷ []) new.messages) in
    let tail : old.tail ≡ new.tail = ap (λ k. k.tail) is in
    record { limit = sym (ap (λ k. k.max) is) ∙ h.limit; cut = rw (← messages, ← tail) h.cut }

runs_hold : (calls : List Call) (max : ℕ) (bytes : List ℕ) (out : List (List ℕ)) (old new : Kept)
    → Holds max bytes out old → Runs old calls new
    → Holds max (bytes ++ bytes_fed calls) (out ++ messages_taken calls) new
runs_hold [] max bytes out old new h is = rw (is, append-nil bytes, append-nil out) h
runs_hold (fed more ∷ calls) max bytes out old new h (next, step, runs) =
    rw (← append_assoc bytes more (bytes_fed calls))
    (runs_hold calls max (bytes ++ more) out next new (holds_fed max bytes more out old next h step) runs)
runs_hold (taken (Some m) ∷ calls) max bytes out old new h (next, step, runs) =
    rw (← append_assoc out (m ∷ []) (messages_taken calls))
    (runs_hold calls max bytes (out ++ m ∷ []) next new (holds_taken max bytes out m old next h step) runs)
runs_hold (taken None ∷ calls) max bytes out old new h (next, step, runs) =
    runs_hold calls max bytes out next new (rw step.1 h) runs

-- all calls from the start
pub runs_cut : (max : ℕ) (calls : List Call) (kept : Kept) → Runs (start max) calls kept
    → Cut (bytes_fed calls) max (messages_taken calls ++ kept.messages) kept.tail
runs_cut max calls kept runs =
    let h = runs_hold calls max [] [] (start max) kept (holds_start max) runs in h.cut
