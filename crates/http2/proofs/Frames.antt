-- Facts on single frames.
use Rattle.std.proofs.Common.{◌≡◌, ◌≢◌, ◌≤◌, ◌<◌, ℕ, ◌+◌, ◌*◌, ◌/◌, ◌%◌, ◌==◌, Option, None, Some, Bool, true, false, List, [], ◌∷◌, length, drop, refl, sym, ap, ap₂, ◌∙◌, arith, if◌then◌else◌}
use Rattle.std.proofs.lemmas.Bool.{ne_eqb, eq-eqb}
use Rattle.std.proofs.lemmas.List.{get_or-drop}
use Rattle.http2.specs.Trail.{finished_after, pinged}
use Rattle.http2.specs.declared.fault.Fault.{Fault}
use Rattle.http2.specs.Faults.{wrong_setting, wrong_entries, or_else}
use Rattle.http2.specs.Frame.{byte, word_at, size_of, kind_of, flags_of, stream_of, payload_of, unpadded, ends_stream, data_on, flow_of, increment_of, window_first, window_in, window_by, window_after, is_ping_by, mark_of}

-- settings, one after the other
pub settings_step : (window : ℕ) (bytes : List ℕ) → 6 ≤ length bytes
    → window_in window bytes ≡ window_in (window_first window bytes) (drop 6 bytes)
settings_step window [] few = absurd (omega (arith, few))
settings_step window (a ∷ []) few = absurd (omega (arith, few))
settings_step window (a ∷ b ∷ []) few = absurd (omega (arith, few))
settings_step window (a ∷ b ∷ c ∷ []) few = absurd (omega (arith, few))
settings_step window (a ∷ b ∷ c ∷ d ∷ []) few = absurd (omega (arith, few))
settings_step window (a ∷ b ∷ c ∷ d ∷ e ∷ []) few = absurd (omega (arith, few))
settings_step window (a ∷ b ∷ c ∷ d ∷ e ∷ f ∷ more) few = refl

-- a frame of another type brings no data, and counts for nothing
pub other_flow : (frame : List ℕ) (kind : ℕ) → kind_of frame ≡ kind → kind ≢ 0 → flow_of frame ≡ 0
other_flow frame kind is not =
    ap (λ (b : Bool). if b then length (payload_of frame) else 0) (ne_eqb (kind_of frame) 0 (λ zero. not (sym is ∙ zero)))

abbrev data_if : Bool → ℕ → List ℕ → List ℕ
data_if kind stream frame = if kind then (if stream_of frame == stream then (if (flags_of frame / 8 % 2) == 1 then unpadded (payload_of frame) else payload_of frame) else []) else []

pub other_data : (stream : ℕ) (frame : List ℕ) (kind : ℕ) → kind_of frame ≡ kind → kind ≢ 0 → data_on stream frame ≡ []
other_data stream frame kind is not =
    ap (λ (b : Bool). data_if b stream frame) (ne_eqb (kind_of frame) 0 (λ zero. not (sym is ∙ zero)))

-- a DATA frame of the call without padding
abbrev pub data_by : ℕ → Bool → ℕ → List ℕ → List ℕ
data_by k s g p = if k == 0 then (if s then (if (g / 8 % 2) == 1 then unpadded p else p) else []) else []

pub plain_data : (number : ℕ) (frame payload : List ℕ) (flags : ℕ) → kind_of frame ≡ 0 → stream_of frame ≡ number → flags_of frame ≡ flags
    → payload_of frame ≡ payload → data_by 0 true flags payload ≡ payload → data_on number frame ≡ payload
plain_data number frame payload flags kind stream flags_is payload_is plain =
    ap (λ (k : ℕ). data_by k (stream_of frame == number) (flags_of frame) (payload_of frame)) kind
    ∙ ap (λ (s : Bool). data_by 0 s (flags_of frame) (payload_of frame)) (eq-eqb (stream_of frame) number stream)
    ∙ ap (λ (g : ℕ). data_by 0 true g (payload_of frame)) flags_is
    ∙ ap (λ (p : List ℕ). data_by 0 true flags p) payload_is ∙ plain

pub plain_flow : (frame payload : List ℕ) → kind_of frame ≡ 0 → payload_of frame ≡ payload → flow_of frame ≡ length payload
plain_flow frame payload kind is =
    ap (λ (k : ℕ). if k == 0 then length (payload_of frame) else 0) kind ∙ ap (λ (p : List ℕ). length p) is

-- settings are checked one after the other
pub entries_step : (pushes : ℕ) (bytes : List ℕ) → 6 ≤ length bytes
    → wrong_setting pushes (byte bytes 0 * 256 + byte bytes 1) (word_at bytes 2) ≡ None
    → wrong_entries pushes bytes ≡ wrong_entries pushes (drop 6 bytes)
entries_step pushes [] few fine = absurd (omega (arith, few))
entries_step pushes (a ∷ []) few fine = absurd (omega (arith, few))
entries_step pushes (a ∷ b ∷ []) few fine = absurd (omega (arith, few))
entries_step pushes (a ∷ b ∷ c ∷ []) few fine = absurd (omega (arith, few))
entries_step pushes (a ∷ b ∷ c ∷ d ∷ []) few fine = absurd (omega (arith, few))
entries_step pushes (a ∷ b ∷ c ∷ d ∷ e ∷ []) few fine = absurd (omega (arith, few))
entries_step pushes (a ∷ b ∷ c ∷ d ∷ e ∷ f ∷ more) few fine = ap (λ (o : Option Fault). or_else o (wrong_entries pushes more)) fine

-- four bytes of the payload are those behind the head
payload_word : (frame : List ℕ) → word_at (payload_of frame) 0 ≡ word_at frame 9
payload_word frame =
    ap₂ (λ (a b : ℕ). a * 16777216 + b * 65536 + byte (payload_of frame) 2 * 256 + byte (payload_of frame) 3)
    (get_or-drop 9 frame 0 0) (get_or-drop 9 frame 1 0)
    ∙ ap₂ (λ (c d : ℕ). byte frame 9 * 16777216 + byte frame 10 * 65536 + c * 256 + d)
    (get_or-drop 9 frame 2 0) (get_or-drop 9 frame 3 0)

-- what a frame adds to a window, by its parts
abbrev increment_by : ℕ → Bool → Bool → ℕ → ℕ
increment_by kind on four more = if kind == 8 then (if on then (if four then more % 2147483648 else 0) else 0) else 0

pub other_increment : (stream : ℕ) (frame : List ℕ) (kind : ℕ) → kind_of frame ≡ kind → kind ≢ 8 → increment_of stream frame ≡ 0
other_increment stream frame kind is not =
    ap (λ (b : Bool). if b then (if stream_of frame == stream then (if size_of frame == 4 then word_at frame 9 % 2147483648 else 0) else 0) else 0)
    (ne_eqb (kind_of frame) 8 (λ eight. not (sym is ∙ eight)))

pub this_increment : (stream : ℕ) (frame : List ℕ) (more : ℕ) → kind_of frame ≡ 8 → stream_of frame ≡ stream → size_of frame ≡ 4
    → word_at (payload_of frame) 0 ≡ more → more < 2147483648 → increment_of stream frame ≡ more
this_increment stream frame more kind on four is small =
    ap₂ (λ (k : ℕ) (b : Bool). increment_by k b (size_of frame == 4) (word_at frame 9)) kind (eq-eqb (stream_of frame) stream on)
    ∙ ap₂ (λ (b : Bool) (n : ℕ). increment_by 8 true b n) (eq-eqb (size_of frame) 4 four) (sym (payload_word frame) ∙ is)
    ∙ omega (arith, small)

pub no_increment : (stream : ℕ) (frame : List ℕ) → kind_of frame ≡ 8 → stream_of frame ≢ stream → increment_of stream frame ≡ 0
no_increment stream frame kind not =
    ap₂ (λ (k : ℕ) (b : Bool). increment_by k b (size_of frame == 4) (word_at frame 9)) kind (ne_eqb (stream_of frame) stream not)

-- what a frame does to the other sums, by its parts
pub same_window : (frame : List ℕ) (kind : ℕ) (payload : List ℕ) → kind_of frame ≡ kind → payload_of frame ≡ payload
    → ((w : ℕ) → window_by kind payload w ≡ w) → (w : ℕ) → window_after w frame ≡ w
same_window frame kind payload kind_is payload_is same w =
    ap₂ (λ (k : ℕ) (p : List ℕ). window_by k p w) kind_is payload_is ∙ same w

abbrev pub finished_by : ℕ → ℕ → Bool → Bool
finished_by kind flags before = if kind == 0 then (if (flags % 2) == 1 then true else before) else before

pub finished_is : (before : Bool) (frame : List ℕ) (kind flags : ℕ) → kind_of frame ≡ kind → flags_of frame ≡ flags
    → finished_after before frame ≡ finished_by kind flags before
finished_is before frame kind flags kind_is flags_is = ap₂ (λ (k f : ℕ). finished_by k f before) kind_is flags_is

pub other_finished : (before : Bool) (frame : List ℕ) (kind : ℕ) → kind_of frame ≡ kind → kind ≢ 0 → finished_after before frame ≡ before
other_finished before frame kind is not =
    ap (λ (b : Bool). if b then (if ends_stream frame then true else before) else before) (ne_eqb (kind_of frame) 0 (λ zero. not (sym is ∙ zero)))

pub no_ping : (waits : Option ℕ) (frame : List ℕ) (kind flags : ℕ) → kind_of frame ≡ kind → flags_of frame ≡ flags
    → is_ping_by kind flags ≡ false → pinged waits frame ≡ waits
no_ping waits frame kind flags kind_is flags_is quiet =
    ap (λ (b : Bool). if b then Some (mark_of frame) else waits) (ap₂ (λ (k f : ℕ). is_ping_by k f) kind_is flags_is ∙ quiet)

pub this_ping : (waits : Option ℕ) (frame payload : List ℕ) (mark : ℕ) → kind_of frame ≡ 6 → flags_of frame ≡ 0 → payload_of frame ≡ payload
    → word_at payload 0 * 4294967296 + word_at payload 4 ≡ mark → pinged waits frame ≡ Some mark
this_ping waits frame payload mark kind flags is by =
    ap (λ (b : Bool). if b then Some (mark_of frame) else waits) (ap₂ (λ (k f : ℕ). is_ping_by k f) kind flags)
    ∙ ap (λ (n : ℕ). Some n) (ap (λ (p : List ℕ). word_at p 0 * 4294967296 + word_at p 4) is ∙ by)
