-- Bytes are cut in one way at most.
use Rattle.std.proofs.Common.{◌≡◌, ℕ, ◌+◌, ◌<◌, ◌^◌, List, [], ◌∷◌, ◌++◌, length, take, drop, refl, ap, ap₂, ◌∙◌, sym, arith, append_assoc, length-append}
use Rattle.std.proofs.lemmas.Nat.{from_be_bytes-to_be_bytes_4}
use Rattle.std.specs.Int.{w32, to_be_bytes, from_be_bytes}
use Rattle.std.specs.List.{AllByRecursion}
use Rattle.xds_wire.specs.Frames.{head_of, frame_of, frames_of, IsLength, AreAllowed, IsBeginning, nothing, part_of_head, part_of_message, Breaks, compressed, too_long, IsTail, Tail, unfinished, broken, Cut}
use Rattle.xds_wire.specs.declared.fault.FrameFault.{FrameFault}
use Rattle.proto_wire.proofs.PayloadLemmas.{fronts_unique as fronts_one}

-- one length, and the same bytes behind it
pub heads_one : (m n : ℕ) (a b : List ℕ) → m < 2 ^ 32 → n < 2 ^ 32 → head_of m ++ a ≡ head_of n ++ b
    → (m ≡ n) × (a ≡ b)
heads_one m n a b x y whole =
    let size : to_be_bytes w32 m ≡ to_be_bytes w32 n = ap (λ t. take 4 (drop 1 t)) whole in (
      sym (from_be_bytes-to_be_bytes_4 m x) ∙ ap (from_be_bytes w32) size
          ∙ from_be_bytes-to_be_bytes_4 n y,
      ap (λ t. drop 5 t) whole,
    )

-- one message, and the same bytes behind its frame
pub frame_one : (max : ℕ) (m n a b : List ℕ) → IsLength max (length m) → IsLength max (length n)
    → frame_of m ++ a ≡ frame_of n ++ b → (m ≡ n) × (a ≡ b)
frame_one max m n a b x y whole =
    let same = heads_one (length m) (length n) (m ++ a) (n ++ b) x.0 y.0 whole in
    fronts_one m n a b same.0 same.1

-- a whole frame is no beginning of one
pub begins_no_frame : (max : ℕ) (m a rest : List ℕ) → IsLength max (length m) → rest ≡ frame_of m ++ a
    → IsBeginning max rest → ⊥
begins_no_frame max m a rest x whole (nothing is) = cc (whole, is)
begins_no_frame max m a rest x whole (part_of_head size is short) =
    absurd (omega (arith, ap length (sym whole ∙ is)))
begins_no_frame max m a rest x whole (part_of_message n part fits is short) =
    let same = heads_one (length m) n (m ++ a) part x.0 fits.0 (sym whole ∙ is) in
    absurd (omega (arith, same.0, ap length same.1, length-append m a))

-- nor does it break
breaks_no_frame : (max : ℕ) (m a rest : List ℕ) (fault : FrameFault) → IsLength max (length m)
    → rest ≡ frame_of m ++ a → Breaks max rest fault → ⊥
breaks_no_frame max m a rest fault x whole (compressed flag more is some broken') =
    let first : flag ≡ 0 = cc (is, whole) in some first
breaks_no_frame max m a rest fault x whole (too_long n more is fits long broken') =
    let same = heads_one (length m) n (m ++ a) more x.0 fits (sym whole ∙ is) in
    absurd (omega (arith, same.0))

tail_no_frame : (max : ℕ) (m a rest : List ℕ) (tail : Tail) → IsLength max (length m)
    → rest ≡ frame_of m ++ a → IsTail max rest tail → ⊥
tail_no_frame max m a rest (unfinished bytes) x whole ends = begins_no_frame max m a rest x whole ends.1
tail_no_frame max m a rest (broken fault) x whole ends = breaks_no_frame max m a rest fault x whole ends

-- a beginning does not break
begins_not_breaks : (max : ℕ) (rest : List ℕ) (fault : FrameFault) → IsBeginning max rest
    → Breaks max rest fault → ⊥
begins_not_breaks max rest fault (nothing is) (compressed flag more is' some e) = cc (is, is')
begins_not_breaks max rest fault (nothing is) (too_long n more is' fits long e) = cc (is, is')
begins_not_breaks max rest fault (part_of_head size is short) (compressed flag more is' some e) =
    let first : flag ≡ 0 = cc (is, is') in some first
begins_not_breaks max rest fault (part_of_head size is short) (too_long n more is' fits long e) =
    absurd (omega (arith, ap length (sym is ∙ is')))
begins_not_breaks max rest fault (part_of_message n part x is short) (compressed flag more is' some e) =
    let first : flag ≡ 0 = cc (is, is') in some first
begins_not_breaks max rest fault (part_of_message n part x is short) (too_long m more is' fits long e) =
    let same = heads_one n m part more x.0 fits (sym is ∙ is') in
    absurd (omega (arith, same.0))

-- one fault
breaks_one : (max : ℕ) (rest : List ℕ) (e d : FrameFault) → Breaks max rest e → Breaks max rest d
    → e ≡ d
breaks_one max rest e d (compressed f a is some x) (compressed g b is' some' y) = x ∙ sym y
breaks_one max rest e d (compressed f a is some x) (too_long n b is' fits long y) =
    let first : f ≡ 0 = cc (is, is') in absurd (some first)
breaks_one max rest e d (too_long n a is fits long x) (compressed g b is' some y) =
    let first : g ≡ 0 = cc (is, is') in absurd (some first)
breaks_one max rest e d (too_long n a is fits long x) (too_long m b is' fits' long' y) = x ∙ sym y

tail_one : (max : ℕ) (rest : List ℕ) (t u : Tail) → IsTail max rest t → IsTail max rest u → t ≡ u
tail_one max rest (unfinished a) (unfinished b) x y = ap unfinished (x.0 ∙ sym y.0)
tail_one max rest (unfinished a) (broken e) x y = absurd (begins_not_breaks max rest e x.1 y)
tail_one max rest (broken e) (unfinished b) x y = absurd (begins_not_breaks max rest e y.1 x)
tail_one max rest (broken e) (broken d) x y = ap broken (breaks_one max rest e d x y)

-- one list of messages, and one rest
frames_one_list : (bytes : List ℕ) (max : ℕ) (ms ns : List (List ℕ)) (a b : List ℕ) (t u : Tail)
    → bytes ≡ frames_of ms ++ a → AreAllowed max ms → IsTail max a t
    → bytes ≡ frames_of ns ++ b → AreAllowed max ns → IsTail max b u
    → (ms ≡ ns) × (t ≡ u)
frames_one_list bytes max [] [] a b t u x fits ends y fits' ends' =
    let same : a ≡ b = sym x ∙ y in
    (refl, tail_one max b t u (rw same at ends) ends')
frames_one_list bytes max [] (n ∷ ns) a b t u x fits ends y fits' ends' =
    absurd (tail_no_frame max n (frames_of ns ++ b) a t fits'.0
    (sym x ∙ y ∙ append_assoc (frame_of n) (frames_of ns) b) ends)
frames_one_list bytes max (m ∷ ms) [] a b t u x fits ends y fits' ends' =
    absurd (tail_no_frame max m (frames_of ms ++ a) b u fits.0
    (sym y ∙ x ∙ append_assoc (frame_of m) (frames_of ms) a) ends')
frames_one_list bytes max (m ∷ ms) (n ∷ ns) a b t u x fits ends y fits' ends' =
    let whole : frame_of m ++ (frames_of ms ++ a) ≡ frame_of n ++ (frames_of ns ++ b) =
    sym (append_assoc (frame_of m) (frames_of ms) a) ∙ sym x ∙ y
    ∙ append_assoc (frame_of n) (frames_of ns) b in
    let first = frame_one max m n (frames_of ms ++ a) (frames_of ns ++ b) fits.0 fits'.0 whole in
    let more = frames_one_list (frames_of ms ++ a) max ms ns a b t u refl fits.1 ends first.1 fits'.1 ends' in
    (ap₂ (λ (x : List ℕ) (xs : List (List ℕ)). x ∷ xs) first.0 more.0, more.1)

-- one cut
pub cut_one : (bytes : List ℕ) (max : ℕ) (ms ns : List (List ℕ)) (t u : Tail)
    → Cut bytes max ms t → Cut bytes max ns u → (ms ≡ ns) × (t ≡ u)
cut_one bytes max ms ns t u a b =
    frames_one_list bytes max ms ns a.rest b.rest t u a.whole a.allowed a.ends b.whole b.allowed b.ends

-- the messages of frames that any frame may hold
abbrev pub AreFramed : List (List ℕ) → Type 0
AreFramed messages = AllByRecursion (λ message. length message < 2 ^ 32) messages

-- messages that are cut off frames are the first of theirs, and what is left are the frames of the others
pub frames_first : (ms messages : List (List ℕ)) (max : ℕ) (rest : List ℕ) → AreAllowed max ms
    → AreFramed messages → frames_of ms ++ rest ≡ frames_of messages
    → (others : List (List ℕ)) × (messages ≡ ms ++ others) × (rest ≡ frames_of others)
frames_first [] messages max rest allowed framed whole = (messages, refl, whole)
frames_first (m ∷ ms) [] max rest allowed framed whole = absurd cc
frames_first (m ∷ ms) (n ∷ ns) max rest allowed framed whole =
    let both : ℕ = length m + length n in
    let first = frame_one both m n (frames_of ms ++ rest) (frames_of ns)
    (allowed.0.0, omega arith) (framed.0, omega arith)
    (sym (append_assoc (frame_of m) (frames_of ms) rest) ∙ whole) in
    let more = frames_first ms ns max rest allowed.1 framed.1 first.1 in (
      more.0,
      ap₂ (λ (x : List ℕ) (xs : List (List ℕ)). x ∷ xs) (sym first.0) more.1,
      more.2,
    )

-- bytes that begin frames are cut to the first of their messages
pub cut_first : (bytes more : List ℕ) (max : ℕ) (messages ms : List (List ℕ)) (t : Tail)
    → AreFramed messages → bytes ++ more ≡ frames_of messages → (cut : Cut bytes max ms t)
    → (others : List (List ℕ)) × (messages ≡ ms ++ others) × (cut.rest ++ more ≡ frames_of others)
cut_first bytes more max messages ms t framed whole cut =
    frames_first ms messages max (cut.rest ++ more) cut.allowed framed
    (sym (append_assoc (frames_of ms) cut.rest more) ∙ ap (λ xs. xs ++ more) (sym cut.whole) ∙ whole)
