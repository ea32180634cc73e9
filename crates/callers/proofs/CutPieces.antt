-- Pieces of bytes are cut in order.
use Rattle.std.proofs.Common.{◌≡◌, ◌<◌, ◌+◌, ◌++◌, [], List, ℕ, length, take, get_or, sym, ap, ◌∙◌, Bor}
use Rattle.std.specs.List.{flat_map}
use Rattle.std.proofs.lemmas.List.{flat_map_more, take_more}
use Rattle.xds_wire.specs.Frames.{Cut, Tail, unfinished, broken}
use Rattle.xds_wire.specs.Frames.{error_of}
use Rattle.xds_wire.specs.Stream.{Feeds, IsBrokenBy, IsUnfinished, Kept}
use Rattle.xds_wire.specs.declared.fault.FrameError.{FrameError}
use Rattle.xds_wire.specs.declared.fault.FrameFault.{FrameFault}
use Rattle.xds_wire.proofs.StreamLemmas.{cut_resumes}

module _ (pieces : List (Bor (List ℕ))) where
  -- the bytes of pieces
  abbrev pub bytes_of : List (Bor (List ℕ)) → List ℕ
  bytes_of some = flat_map (λ p. p.now) some

  -- one piece more
  pub one_more : (most i : ℕ) (d : Bor (List ℕ)) → i < length pieces → (old new : Kept) (messages : List (List ℕ))
      → old.max ≡ most → old.messages ≡ [] → Cut (bytes_of (take i pieces)) most messages old.tail
      → Feeds old (get_or pieces i d).now new
      → Cut (bytes_of (take (i + 1) pieces)) most (messages ++ new.messages) new.tail × (new.max ≡ most)
  one_more most i d lt old new messages same none cut (given, resumes, is) =
      let all : bytes_of (take i pieces) ++ (get_or pieces i d).now ≡ bytes_of (take (i + 1) pieces) =
      flat_map_more (λ p. p.now) [] (take i pieces) (get_or pieces i d) ∙ ap bytes_of (sym (take_more pieces i d lt)) in
      let taken : new.messages ≡ given = ap (λ (k : Kept). k.messages) is ∙ ap (λ (ms : List (List ℕ)). ms ++ given) none in
      let room : new.max ≡ most = ap (λ (k : Kept). k.max) is ∙ same in (
        rw (← all, taken) (cut_resumes (bytes_of (take i pieces)) (get_or pieces i d).now most messages given old.tail new.tail cut
            (rw same at resumes)),
        room,
      )

-- the tail of whole frames, if it is not broken
pub unbroken : (bytes : List ℕ) (most : ℕ) (messages : List (List ℕ)) (tail : Tail) → IsUnfinished tail
    → Cut bytes most messages tail → (rest : List ℕ) × Cut bytes most messages (unfinished rest)
unbroken bytes most messages (unfinished rest) is cut = (rest, cut)
unbroken bytes most messages (broken fault) is cut = absurd is

-- the tail of whole frames, if it is broken
pub breaks : (bytes : List ℕ) (most : ℕ) (messages : List (List ℕ)) (tail : Tail) (e : FrameError)
    → IsBrokenBy tail e → Cut bytes most messages tail
    → (fault : FrameFault) × (e ≡ error_of fault) × Cut bytes most messages (broken fault)
breaks bytes most messages (unfinished rest) e is cut = absurd is
breaks bytes most messages (broken fault) e is cut = (fault, is, cut)
