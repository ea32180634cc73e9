-- Fields that are written behind others.
use Rattle.std.proofs.Common.{◌≡◌, ℕ, ◌+◌, ◌<◌, List, [], ◌∷◌, ◌++◌, length, map, take, get_or, refl, sym, ap, ◌∙◌, append-nil, append_assoc}
use Rattle.std.specs.Borrow.{Bor}
use Rattle.std.proofs.lemmas.List.{map_more, map-append}
use Rattle.proto_wire.specs.Fields.{Wire, len}
use Rattle.proto_wire.specs.Shortest.{field_of}
use Rattle.proto_wire.specs.private.Writing.{Keeps}
use Rattle.proto_wire.proofs.ShortestLemmas.{shortest_append}
use Rattle.xds_wire.specs.View.{texts_view}
use Rattle.xds_wire.specs.Written.{strings_fields, AreEach}
use Rattle.xds_wire.specs.private.Writing.{Adds}

-- nothing is written
pub adds_none : (before : List ℕ) → Adds before [] before
adds_none before = ([], refl, sym (append-nil before))

-- fields behind fields
pub adds_more : (a b c : List ℕ) (fs gs : List Wire) → Adds a fs b → Adds b gs c → Adds a (fs ++ gs) c
adds_more a b c fs gs (x, first, at) (y, more, at') = (
  x ++ y,
  shortest_append fs gs x y first more,
  at' ∙ ap (λ t. t ++ y) at ∙ append_assoc a x y,
)

-- what was there stays in front
pub adds_keep : (a b : List ℕ) (fs : List Wire) → Adds a fs b → Keeps a b
adds_keep a b fs (x, first, at) = (x, at)

pub keeps_same : (a b : List ℕ) → b ≡ a → Keeps a b
keeps_same a b is = ([], is ∙ sym (append-nil a))

pub keeps_more : (a b c : List ℕ) → Keeps a b → Keeps b c → Keeps a c
keeps_more a b c (x, at) (y, at') = (x ++ y, at' ∙ ap (λ t. t ++ y) at ∙ append_assoc a x y)

-- one string more
pub adds_text : (a b c : List ℕ) (k i : ℕ) (texts : List (Bor (List ℕ))) (d : Bor (List ℕ))
    → i < length texts → Adds a (strings_fields k (texts_view (take i texts))) b
    → Adds b (field_of k (len (get_or texts i d).now) ∷ []) c
    → Adds a (strings_fields k (texts_view (take (i + 1) texts))) c
adds_text a b c k i texts d within so_far one =
    let now = λ (t : Bor (List ℕ)). t.now in
    let field = λ (t : List ℕ). field_of k (len t) in
    let text = (get_or texts i d).now in
    let grown : strings_fields k (texts_view (take (i + 1) texts))
    ≡ strings_fields k (texts_view (take i texts)) ++ field text ∷ [] =
    ap (map field) (map_more now texts i d within)
    ∙ map-append field (texts_view (take i texts)) (text ∷ []) in
    rw grown (adds_more a b c (strings_fields k (texts_view (take i texts))) (field text ∷ []) so_far one)

-- a message behind others
each_push : {M : Type 0} (Written : M → List ℕ → Type 0) (k : ℕ) (ms : List M) (m : M) (fs : List Wire)
    (bytes : List ℕ) → AreEach Written k ms fs → Written m bytes
    → AreEach Written k (ms ++ m ∷ []) (fs ++ field_of k (len bytes) ∷ [])
each_push Written k [] m fs bytes none one =
    (bytes, [], one, refl, ap (λ t. t ++ field_of k (len bytes) ∷ []) none)
each_push Written k (n ∷ ms) m fs bytes (first, rest, is, more, whole) one = (
  first,
  rest ++ field_of k (len bytes) ∷ [],
  is,
  each_push Written k ms m rest bytes more one,
  ap (λ t. t ++ field_of k (len bytes) ∷ []) whole,
)

-- one message more
pub each_more : {A M : Type 0} (Written : M → List ℕ → Type 0) (view : A → M) (k i : ℕ)
    (items : List A) (d : A) (fs : List Wire) (bytes : List ℕ)
    → i < length items → AreEach Written k (map view (take i items)) fs
    → Written (view (get_or items i d)) bytes
    → AreEach Written k (map view (take (i + 1) items)) (fs ++ field_of k (len bytes) ∷ [])
each_more {A} {M} Written view k i items d fs bytes within so_far one =
    rw (map_more view items i d within)
    (each_push Written k (map view (take i items)) (view (get_or items i d)) fs bytes so_far one)

-- the last of several groups of fields
pub adds_last : (a b : List ℕ) (fs : List Wire) → Adds a fs b → Adds a (fs ++ []) b
adds_last a b fs added = rw (append-nil fs) added
