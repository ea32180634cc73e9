-- Frames behind frames, and what is cut when more bytes come.
use Rattle.std.proofs.Common.{◌≡◌, ℕ, ◌<◌, List, [], ◌∷◌, ◌++◌, length, refl, ap, ◌∙◌, sym, arith, append-nil, append_assoc, length-append}
use Rattle.std.proofs.lemmas.List.Concat.{flat_map-append}
use Rattle.std.specs.List.{AllByRecursion}
use Rattle.xds_wire.specs.Frames.{head_of, frame_of, frames_of, IsLength, AreAllowed, IsTail, Tail, unfinished, Cut, part_of_message}

-- all of two lists
pub all_append : {A : Type 0} (P : A → Type 0) (xs ys : List A) → AllByRecursion P xs
    → AllByRecursion P ys → AllByRecursion P (xs ++ ys)
all_append P [] ys a b = b
all_append P (x ∷ xs) ys (first, a) b = (first, all_append P xs ys a b)

-- the bytes are the frames of these messages, and then the rest
pub record Frames (bytes : List ℕ) (max : ℕ) (messages : List (List ℕ)) (rest : List ℕ) : Type 0 where
  pub whole : bytes ≡ frames_of messages ++ rest
  pub allowed : AreAllowed max messages

-- no frame yet
pub frames_none : (bytes : List ℕ) (max : ℕ) → Frames bytes max [] bytes
frames_none bytes max = record { whole = refl; allowed = tt }

-- frames behind frames
pub frames_append : (bytes : List ℕ) (max : ℕ) (ms ns : List (List ℕ)) (behind rest : List ℕ)
    → Frames bytes max ms behind → Frames behind max ns rest → Frames bytes max (ms ++ ns) rest
frames_append bytes max ms ns behind rest a b = record {
  whole = a.whole ∙ ap (λ t. frames_of ms ++ t) b.whole
      ∙ sym (append_assoc (frames_of ms) (frames_of ns) rest)
      ∙ ap (λ t. t ++ rest) (sym (flat_map-append frame_of ms ns));
  allowed = all_append (λ m. IsLength max (length m)) ms ns a.allowed b.allowed;
}

-- one frame
pub frames_one : (bytes : List ℕ) (max : ℕ) (message rest : List ℕ) → IsLength max (length message)
    → bytes ≡ frame_of message ++ rest → Frames bytes max (message ∷ []) rest
frames_one bytes max message rest allowed whole = record {
  whole = whole ∙ ap (λ t. t ++ rest) (sym (append-nil (frame_of message)));
  allowed = (allowed, tt);
}

-- the frames, and the tail that they end with
pub cut_of : (bytes : List ℕ) (max : ℕ) (messages : List (List ℕ)) (rest : List ℕ) (tail : Tail)
    → Frames bytes max messages rest → IsTail max rest tail → Cut bytes max messages tail
cut_of bytes max messages rest tail a ends = record {
  rest = rest;
  whole = a.whole;
  allowed = a.allowed;
  ends = ends;
}

pub frames_of_cut : (bytes : List ℕ) (max : ℕ) (messages : List (List ℕ)) (tail : Tail)
    → (cut : Cut bytes max messages tail) → Frames bytes max messages cut.rest
frames_of_cut bytes max messages tail cut = record { whole = cut.whole; allowed = cut.allowed }

-- frames before what is cut
pub cut_behind : (bytes : List ℕ) (max : ℕ) (ms ns : List (List ℕ)) (behind : List ℕ) (tail : Tail)
    → Frames bytes max ms behind → Cut behind max ns tail → Cut bytes max (ms ++ ns) tail
cut_behind bytes max ms ns behind tail a cut =
    cut_of bytes max (ms ++ ns) cut.rest tail
    (frames_append bytes max ms ns behind cut.rest a (frames_of_cut behind max ns tail cut)) cut.ends

-- a frame is longer than a part of a head, so less is left behind it
pub rest_shorter : (head rest message behind : List ℕ) → length head < 5
    → head ++ rest ≡ frame_of message ++ behind → length behind < length rest
rest_shorter head rest message behind few whole =
    omega (
      arith,
      ap length whole,
      length-append head rest,
      length-append (frame_of message) behind,
      length-append (head_of (length message)) message,
    )

-- a message that is kept gets bytes, and is still not whole
pub cut_more_data : (max n : ℕ) (part bytes now : List ℕ) → IsLength max n → now ≡ part ++ bytes
    → length now < n → Cut (head_of n ++ part ++ bytes) max [] (unfinished (head_of n ++ now))
cut_more_data max n part bytes now allowed is short =
    let same : head_of n ++ now ≡ head_of n ++ part ++ bytes =
    ap (λ t. head_of n ++ t) is ∙ sym (append_assoc (head_of n) part bytes) in
    cut_of _ max [] (head_of n ++ part ++ bytes) (unfinished (head_of n ++ now))
    (frames_none _ max) (same, part_of_message n now allowed (sym same) short)

-- a message that is kept is whole, and frames are behind it
pub cut_whole_data : (max n : ℕ) (part bytes whole behind : List ℕ) (ns : List (List ℕ)) (tail : Tail)
    → IsLength max n → length whole ≡ n → part ++ bytes ≡ whole ++ behind → Cut behind max ns tail
    → Cut (head_of n ++ part ++ bytes) max (whole ∷ ns) tail
cut_whole_data max n part bytes whole behind ns tail allowed long is cut =
    let same : head_of n ++ part ++ bytes ≡ frame_of whole ++ behind =
    append_assoc (head_of n) part bytes ∙ ap (λ t. head_of n ++ t) is
    ∙ sym (append_assoc (head_of n) whole behind)
    ∙ ap (λ k. head_of k ++ whole ++ behind) (sym long) in
    let fits : IsLength max (length whole) = rw long allowed in
    cut_behind _ max (whole ∷ []) ns behind tail (frames_one _ max whole behind fits same) cut
