-- Bytes are cut in one way.
use Rattle.std.proofs.Common.{zero, suc, ◌≡◌, ◌≤◌, ◌+◌, ◌⊎◌, inl, inr, ◌<◌, ℕ, List, [], ◌∷◌, ◌++◌, length, take, drop, refl, sym, ap, ap₂, ◌∙◌, arith, append_assoc, append-nil, length-append}
use Rattle.std.proofs.Math.Seq.{drop-append_seam, take-append_seam}
use Rattle.std.proofs.lemmas.List.{get_or_append_left, get_or-take, length-take-le, length-drop, take-append-drop}
use Rattle.std.proofs.lemmas.Bool.{cases_lt}
use Rattle.std.specs.List.{AllByRecursion}
use Rattle.http2.specs.Frame.{byte, size_of, IsFrame, IsPart, head, payload, IsTooLarge, joined, data_on, data_of_all, AreCut}
use Rattle.http2.specs.Trail.{Step, got, put, bytes_got, data_got, bytes_put, data_put, preface, AreFrames, Line, Law}

-- the first bytes
byte_first : (xs ys : List ℕ) (k : ℕ) → k < length xs → byte (xs ++ ys) k ≡ byte xs k
byte_first xs ys k few = get_or_append_left xs ys 0 k few

-- a frame's size is that of bytes that it begins
size_first : (frame rest : List ℕ) → IsFrame frame → size_of (frame ++ rest) ≡ size_of frame
size_first frame rest is =
    let a = byte_first frame rest 0 (omega (arith, is.whole)) in
    let b = byte_first frame rest 1 (omega (arith, is.whole)) in
    let c = byte_first frame rest 2 (omega (arith, is.whole)) in
    omega (arith, a, b, c)

-- one first frame, and the same bytes behind it
first_one : (f g a b : List ℕ) → IsFrame f → IsFrame g → f ++ a ≡ g ++ b → (f ≡ g) × (a ≡ b)
first_one f g a b x y whole =
    let size : size_of f ≡ size_of g = sym (size_first f a x) ∙ ap (λ (t : List ℕ). size_of t) whole ∙ size_first g b y in
    let long : length f ≡ length g = omega (arith, size, x.whole, y.whole) in (
      sym (take-append_seam f a) ∙ ap₂ (λ (n : ℕ) (t : List ℕ). take n t) long whole ∙ take-append_seam g b,
      sym (drop-append_seam f a) ∙ ap₂ (λ (n : ℕ) (t : List ℕ). drop n t) long whole ∙ drop-append_seam g b,
    )

-- an end does not begin with a frame
no_frame : (f a b : List ℕ) → IsFrame f → b ≡ f ++ a → IsPart b ⊎ IsTooLarge b → ⊥
no_frame f a b x whole ends =
    let long = length-append f a in
    let same : length b ≡ length (f ++ a) = ap (λ (t : List ℕ). length t) whole in
    let size : size_of b ≡ size_of f = ap (λ (t : List ℕ). size_of t) whole ∙ size_first f a x in
    elim ends [
      | inl part ↦ elim part [
        | head few ↦ absurd (omega (arith, few, long, same, x.whole))
        | payload some small few ↦ absurd (omega (arith, few, long, same, size, x.whole))
      ]
      | inr large ↦ absurd (omega (arith, large.large, size, x.small))
    ]

-- frames that bytes begin with are the first of those that they are cut into
pub frames_first : (xs ys : List (List ℕ)) (a b : List ℕ) → AllByRecursion IsFrame xs → AllByRecursion IsFrame ys
    → IsPart b ⊎ IsTooLarge b → joined xs ++ a ≡ joined ys ++ b
    → (more : List (List ℕ)) × (ys ≡ xs ++ more) × (a ≡ joined more ++ b)
frames_first [] ys a b are others ends whole = (ys, refl, whole)
frames_first (x ∷ xs) [] a b (is, are) others ends whole =
    absurd (no_frame x (joined xs ++ a) b is (sym whole ∙ append_assoc x (joined xs) a) ends)
frames_first (x ∷ xs) (y ∷ ys) a b (is, are) (other, others) ends whole =
    let first = first_one x y (joined xs ++ a) (joined ys ++ b) is other
    (sym (append_assoc x (joined xs) a) ∙ whole ∙ append_assoc y (joined ys) b) in
    let more = frames_first xs ys a b are others ends first.1 in
    (more.0, ap₂ (λ (z : List ℕ) (zs : List (List ℕ)). z ∷ zs) (sym first.0) more.1, more.2)

all_last : (xs : List (List ℕ)) (y : List ℕ) (ys : List (List ℕ)) → AllByRecursion IsFrame (xs ++ y ∷ ys) → IsFrame y
all_last [] y ys (is, are) = is
all_last (x ∷ xs) y ys (is, are) = all_last xs y ys are

-- no more frames
cut_none : (more frames others : List (List ℕ)) (rest end : List ℕ) → others ≡ frames ++ more → rest ≡ joined more ++ end
    → AllByRecursion IsFrame others → IsPart rest ⊎ IsTooLarge rest → (frames ≡ others) × (rest ≡ end)
cut_none [] frames others rest end is behind are ends = (sym (is ∙ append-nil frames), behind)
cut_none (m ∷ more) frames others rest end is behind are ends =
    absurd (no_frame m (joined more ++ end) rest (all_last frames m more (rw is at are))
    (behind ∙ append_assoc m (joined more) end) ends)

-- one cutting
pub cut_one : (bytes : List ℕ) (frames others : List (List ℕ)) (rest end : List ℕ) → AreCut bytes frames rest
    → AreCut bytes others end → (frames ≡ others) × (rest ≡ end)
cut_one bytes frames others rest end a b =
    let more = frames_first frames others rest end a.are b.are b.ends (sym a.whole ∙ b.whole) in
    cut_none more.0 frames others rest end more.1 more.2 b.are a.ends

-- the frames of a trail that came, the oldest first
abbrev frames_got : List Step → List (List ℕ)
frames_got [] = []
frames_got (got frame ∷ trail) = frames_got trail ++ frame ∷ []
frames_got (put frame ∷ trail) = frames_got trail

joined_append : (xs ys : List (List ℕ)) → joined (xs ++ ys) ≡ joined xs ++ joined ys
joined_append [] ys = refl
joined_append (x ∷ xs) ys = ap (λ (t : List ℕ). x ++ t) (joined_append xs ys) ∙ sym (append_assoc x (joined xs) (joined ys))

data_append : (n : ℕ) (xs ys : List (List ℕ)) → data_of_all n (xs ++ ys) ≡ data_of_all n xs ++ data_of_all n ys
data_append n [] ys = refl
data_append n (x ∷ xs) ys = ap (λ (t : List ℕ). data_on n x ++ t) (data_append n xs ys)
    ∙ sym (append_assoc (data_on n x) (data_of_all n xs) (data_of_all n ys))

all_append : (xs : List (List ℕ)) (y : List ℕ) → AllByRecursion IsFrame xs → IsFrame y → AllByRecursion IsFrame (xs ++ y ∷ [])
all_append [] y are is = (is, tt)
all_append (x ∷ xs) y (first, are) is = (first, all_append xs y are is)

got_joined : (trail : List Step) → bytes_got trail ≡ joined (frames_got trail)
got_joined [] = refl
got_joined (got frame ∷ trail) = ap₂ (λ (a b : List ℕ). a ++ b) (got_joined trail) (sym (append-nil frame))
    ∙ sym (joined_append (frames_got trail) (frame ∷ []))
got_joined (put frame ∷ trail) = got_joined trail

got_data : (n : ℕ) (trail : List Step) → data_got n trail ≡ data_of_all n (frames_got trail)
got_data n [] = refl
got_data n (got frame ∷ trail) = ap₂ (λ (a b : List ℕ). a ++ b) (got_data n trail) (sym (append-nil (data_on n frame)))
    ∙ sym (data_append n (frames_got trail) (frame ∷ []))
got_data n (put frame ∷ trail) = got_data n trail

got_frames : (trail : List Step) → AreFrames trail → AllByRecursion IsFrame (frames_got trail)
got_frames [] are = tt
got_frames (got frame ∷ trail) (is, are) = all_append (frames_got trail) frame (got_frames trail are) is
got_frames (put frame ∷ trail) (is, are) = got_frames trail are

-- the core took a beginning of the data
pub data_first : (trail : List Step) (came sent took gave : List ℕ) (line : Line) (frames : List (List ℕ)) (rest : List ℕ)
    → Law trail came sent took gave line → AreCut came frames rest
    → (more : List ℕ) × (data_of_all line.number frames ≡ (took ++ line.data_in) ++ more)
data_first trail came sent took gave line frames rest law cut =
    let mine : List (List ℕ) = frames_got trail in
    let whole : joined mine ++ line.rest ≡ joined frames ++ rest =
    ap (λ (t : List ℕ). t ++ line.rest) (sym (got_joined trail)) ∙ sym law.arrived ∙ cut.whole in
    let more = frames_first mine frames line.rest rest (got_frames trail law.frames) cut.are cut.ends whole in (
      data_of_all line.number more.0,
      ap (λ (fs : List (List ℕ)). data_of_all line.number fs) more.1 ∙ data_append line.number mine more.0
          ∙ ap (λ (t : List ℕ). t ++ data_of_all line.number more.0) (sym (got_data line.number trail) ∙ law.handed),
    )

-- the frames of a trail that were written, the oldest first
abbrev frames_put : List Step → List (List ℕ)
frames_put [] = []
frames_put (got frame ∷ trail) = frames_put trail
frames_put (put frame ∷ trail) = frames_put trail ++ frame ∷ []

put_joined : (trail : List Step) → bytes_put trail ≡ joined (frames_put trail)
put_joined [] = refl
put_joined (got frame ∷ trail) = put_joined trail
put_joined (put frame ∷ trail) = ap₂ (λ (a b : List ℕ). a ++ b) (put_joined trail) (sym (append-nil frame))
    ∙ sym (joined_append (frames_put trail) (frame ∷ []))

put_data : (n : ℕ) (trail : List Step) → data_put n trail ≡ data_of_all n (frames_put trail)
put_data n [] = refl
put_data n (got frame ∷ trail) = put_data n trail
put_data n (put frame ∷ trail) = ap₂ (λ (a b : List ℕ). a ++ b) (put_data n trail) (sym (append-nil (data_on n frame)))
    ∙ sym (data_append n (frames_put trail) (frame ∷ []))

put_frames : (trail : List Step) → AreFrames trail → AllByRecursion IsFrame (frames_put trail)
put_frames [] are = tt
put_frames (got frame ∷ trail) (is, are) = put_frames trail are
put_frames (put frame ∷ trail) (is, are) = all_append (frames_put trail) frame (put_frames trail are) is

-- the peer reads a beginning of what the core gave
pub said_first : (trail : List Step) (came sent took gave : List ℕ) (line : Line) (bytes : List ℕ) (frames : List (List ℕ)) (rest : List ℕ)
    → Law trail came sent took gave line → sent ≡ preface ++ bytes → AreCut bytes frames rest
    → (more : List ℕ) × (gave ≡ data_of_all line.number frames ++ more)
said_first trail came sent took gave line bytes frames rest law begins cut =
    let mine : List (List ℕ) = frames_put trail in
    let behind : bytes ++ line.out ≡ bytes_put trail =
    ap (λ (t : List ℕ). drop 24 t) (sym (append_assoc preface bytes line.out)
    ∙ ap (λ (t : List ℕ). t ++ line.out) (sym begins) ∙ law.written) in
    let whole : joined frames ++ (rest ++ line.out) ≡ joined mine ++ [] =
    sym (append_assoc (joined frames) rest line.out) ∙ ap (λ (t : List ℕ). t ++ line.out) (sym cut.whole) ∙ behind
    ∙ put_joined trail ∙ sym (append-nil (joined mine)) in
    let more = frames_first frames mine (rest ++ line.out) [] cut.are (put_frames trail law.frames) (inl (head (omega arith))) whole in (
      data_of_all line.number more.0,
      sym law.said ∙ put_data line.number trail ∙ ap (λ (fs : List (List ℕ)). data_of_all line.number fs) more.1 ∙ data_append line.number frames more.0,
    )

-- a first frame of bytes, and what is behind it
first_of : (bytes : List ℕ) → 9 ≤ length bytes → size_of bytes ≤ 16384 → 9 + size_of bytes ≤ length bytes
    → IsFrame (take (9 + size_of bytes) bytes)
first_of bytes some small enough =
    let n : ℕ = 9 + size_of bytes in
    let long : length (take n bytes) ≡ n = length-take-le n bytes enough in
    let a : byte (take n bytes) 0 ≡ byte bytes 0 = get_or-take n bytes 0 0 (omega arith) in
    let b : byte (take n bytes) 1 ≡ byte bytes 1 = get_or-take n bytes 1 0 (omega arith) in
    let c : byte (take n bytes) 2 ≡ byte bytes 2 = get_or-take n bytes 2 0 (omega arith) in
    let size : size_of (take n bytes) ≡ size_of bytes = omega (arith, a, b, c) in
    record { whole = omega (arith, long, size); small = omega (arith, size, small) }

-- bytes are cut in some way
each_within : (most : ℕ) (bytes : List ℕ) → length bytes ≤ most → (frames : List (List ℕ)) × (rest : List ℕ) × AreCut bytes frames rest
each_within zero bytes few = ([], bytes, record { whole = refl; are = tt; ends = inl (head (omega (arith, few))) })
each_within (suc most) bytes few = elim (cases_lt (length bytes) 9) [
  | inl short ↦ ([], bytes, record { whole = refl; are = tt; ends = inl (head short) })
  | inr some ↦ elim (cases_lt 16384 (size_of bytes)) [
    | inl large ↦ ([], bytes, record { whole = refl; are = tt; ends = inr (record { head = some; large = large }) })
    | inr small ↦ elim (cases_lt (length bytes) (9 + size_of bytes)) [
      | inl part ↦ ([], bytes, record { whole = refl; are = tt; ends = inl (payload some small part) })
      | inr enough ↦
          let n : ℕ = 9 + size_of bytes in
          let less : length (drop n bytes) ≤ most = omega (arith, length-drop n bytes, few) in
          let more = each_within most (drop n bytes) less in
          let cut = more.2 in (
            take n bytes ∷ more.0,
            more.1,
            record {
              whole = sym (take-append-drop n bytes) ∙ ap (λ (t : List ℕ). take n bytes ++ t) cut.whole
                  ∙ sym (append_assoc (take n bytes) (joined more.0) more.1);
              are = (first_of bytes some small enough, cut.are);
              ends = cut.ends;
            },
          )
    ]
  ]
]

pub each_cut : (bytes : List ℕ) → (frames : List (List ℕ)) × (rest : List ℕ) × AreCut bytes frames rest
each_cut bytes = each_within (length bytes) bytes (omega arith)
