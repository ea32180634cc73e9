-- One step more in the histories.
use Rattle.std.proofs.Common.{◌≡◌, ◌<◌, ℕ, zero, suc, ◌==◌, Bool, true, false, not, true≢false, List, [], ◌∷◌, ◌++◌, length, take, drop, get_or, set, refl, sym, ap, subst, ◌∙◌, if◌then◌else◌}
use Rattle.std.proofs.lemmas.Bool.{eqb-true, eq-eqb}
use Rattle.std.proofs.lemmas.List.{get_or-set_same, get_or-set_other, length-set, take-append-drop}
use Rattle.std.proofs.Math.Logic.{∥∥₁_map}
use Rattle.serve_loop.specs.declared.parties.Parties.{Parties}
use Rattle.serve_loop.specs.declared.stream.Stream.{Stream}
use Rattle.serve_loop.specs.declared.stream.Stream.TheVariants.{Place, Updates}
use Rattle.serve_loop.specs.History.{EventValue, accepted, connected, received, closed, drain, Step, event, sent, Effect, Turn, took, gave, waiting_at, open_at, MayFollow}
use Rattle.serve_loop.specs.Law.{ArePlaced, Belong, GoesOn, IsAfter, IsKept}

module _ {F : Type 0} (wire wire' : List (Step F)) (turns turns' : List (Turn F)) (seen seen' : List (EventValue F)) where
  -- nothing happened
  pub belong_still : wire' ≡ wire → turns' ≡ turns → seen' ≡ seen → Belong wire turns seen → Belong wire' turns' seen'
  belong_still w t s b = record {
    wire_is = rw (w, t) b.wire_is;
    seen_is = rw (s, t) b.seen_is;
    in_order = rw t b.in_order;
    orderly = rw w b.orderly;
  }

  -- an event was taken and seen
  pub belong_took : (e : EventValue F) → MayFollow wire (event e) → wire' ≡ event e ∷ wire
      → (effect : Effect) × (turns' ≡ took e effect ∷ turns) → seen' ≡ e ∷ seen → Belong wire turns seen → Belong wire' turns' seen'
  belong_took e may w (effect, t) s b = record {
    wire_is = rw (w, t) (ap (λ (l : List (Step F)). event e ∷ l) b.wire_is);
    seen_is = rw (s, t) (ap (λ (l : List (EventValue F)). e ∷ l) b.seen_is);
    in_order = rw t b.in_order;
    orderly = rw w (may, b.orderly);
  }

  -- first bytes of those that waited were sent
  pub belong_gave : (s : Stream) (bytes left : List ℕ) → waiting_at s turns ≡ bytes ++ left → open_at s wire ≡ true
      → wire' ≡ sent s bytes ∷ wire → turns' ≡ gave s bytes ∷ turns → seen' ≡ seen → Belong wire turns seen → Belong wire' turns' seen'
  belong_gave s bytes left parts open' w t same_seen b = record {
    wire_is = rw (w, t) (ap (λ (l : List (Step F)). sent s bytes ∷ l) b.wire_is);
    seen_is = rw (same_seen, t) b.seen_is;
    in_order = rw t ((left, parts), b.in_order);
    orderly = rw w (open', b.orderly);
  }

  pub belong_gave_first : (s : Stream) (n : ℕ) (bytes : List ℕ) → bytes ≡ waiting_at s turns → open_at s wire ≡ true
      → wire' ≡ sent s (take n bytes) ∷ wire → turns' ≡ gave s (take n (waiting_at s turns)) ∷ turns → seen' ≡ seen
      → Belong wire turns seen → Belong wire' turns' seen'
  belong_gave_first s n bytes are open' w t same_seen b =
      belong_gave s (take n (waiting_at s turns)) (drop n (waiting_at s turns)) (sym (take-append-drop n (waiting_at s turns))) open'
      (w ∙ ap (λ (l : List ℕ). sent s (take n l) ∷ wire) are) t same_seen b

put_at : (c : Bool) (places : List Bool) (k j : ℕ) (b : Bool) → k < length places → (j == k) ≡ c
    → (if c then b else get_or places j false) ≡ get_or (set places k b) j false
put_at true places k j b within is =
    sym (ap (λ (n : ℕ). get_or (set places k b) n false) (eqb-true j k is) ∙ get_or-set_same places k b false within)
put_at false places k j b within is =
    sym (get_or-set_other places k j b false (λ e. true≢false (sym (eq-eqb j k e) ∙ is)))

-- a place and others, after one was put
put_place : (places : List Bool) (k j : ℕ) (b : Bool) → k < length places
    → (if j == k then b else get_or places j false) ≡ get_or (set places k b) j false
put_place places k j b within = put_at (j == k) places k j b within refl

choose : (c b x y : Bool) → x ≡ y → (if c then b else x) ≡ (if c then b else y)
choose c b x y e = ap (λ (z : Bool). if c then b else z) e

module _ {F : Type 0} (wire wire' : List (Step F)) (places : List Bool) (is_up is_ending : Bool) where
  pub kept_still : wire' ≡ wire → IsKept wire places is_up is_ending → IsKept wire' places is_up is_ending
  kept_still w k = rw w k

  pub kept_received : (s : Stream) (bytes : List ℕ) → wire' ≡ event (received s bytes) ∷ wire
      → IsKept wire places is_up is_ending → IsKept wire' places is_up is_ending
  kept_received s bytes w k = record {
    open_places = λ j. rw w (k.open_places j);
    updates = rw w k.updates;
    ending = rw w k.ending;
    placed = rw w k.placed;
  }

  pub kept_sent : (s : Stream) (bytes : List ℕ) → wire' ≡ sent s bytes ∷ wire
      → IsKept wire places is_up is_ending → IsKept wire' places is_up is_ending
  kept_sent s bytes w k = record {
    open_places = λ j. rw w (k.open_places j);
    updates = rw w k.updates;
    ending = rw w k.ending;
    placed = rw w k.placed;
  }

  pub kept_drain : wire' ≡ event drain ∷ wire → IsKept wire places is_up is_ending → IsKept wire' places is_up true
  kept_drain w k = record {
    open_places = λ j. rw w (k.open_places j);
    updates = rw w k.updates;
    ending = rw w refl;
    placed = rw w k.placed;
  }

  pub kept_accepted : (at : ℕ) (facts : F) → at < length places → wire' ≡ event (accepted at facts) ∷ wire
      → IsKept wire places is_up is_ending → IsKept wire' (set places at true) is_up is_ending
  kept_accepted at facts within w k = record {
    open_places = λ j. rw w (choose (j == at) true _ _ (k.open_places j) ∙ put_place places at j true within);
    updates = rw w k.updates;
    ending = rw w k.ending;
    placed = rw w (subst (λ (n : ℕ). ArePlaced n (event (accepted at facts) ∷ wire)) (sym (length-set places at true)) (within, k.placed));
  }

  pub kept_closed : (at : ℕ) → at < length places → wire' ≡ event (closed (Place at)) ∷ wire
      → IsKept wire places is_up is_ending → IsKept wire' (set places at false) is_up is_ending
  kept_closed at within w k = record {
    open_places = λ j. rw w (choose (j == at) false _ _ (k.open_places j) ∙ put_place places at j false within);
    updates = rw w k.updates;
    ending = rw w k.ending;
    placed = rw w (subst (λ (n : ℕ). ArePlaced n wire) (sym (length-set places at false)) k.placed);
  }

  pub kept_connected : wire' ≡ event connected ∷ wire → IsKept wire places is_up is_ending → IsKept wire' places true is_ending
  kept_connected w k = record {
    open_places = λ j. rw w (k.open_places j);
    updates = rw w refl;
    ending = rw w k.ending;
    placed = rw w k.placed;
  }

  pub kept_disconnected : wire' ≡ event (closed Updates) ∷ wire
      → IsKept wire places is_up is_ending → IsKept wire' places false is_ending
  kept_disconnected w k = record {
    open_places = λ j. rw w (k.open_places j);
    updates = rw w refl;
    ending = rw w k.ending;
    placed = rw w k.placed;
  }

-- nothing has happened yet
pub belong_new : {F : Type 0} (wire : List (Step F)) (turns : List (Turn F)) (seen : List (EventValue F))
    → wire ≡ [] → turns ≡ [] → seen ≡ [] → Belong wire turns seen
belong_new wire turns seen w t s = record {
  wire_is = rw (w, t) refl;
  seen_is = rw (s, t) refl;
  in_order = rw t tt;
  orderly = rw w tt;
}

pub kept_new : {F : Type 0} (wire : List (Step F)) (places : List Bool) → wire ≡ []
    → ((k : ℕ) → get_or places k false ≡ false) → IsKept wire places false false
kept_new wire places w closed' = record {
  open_places = λ k. rw w (sym (closed' k));
  updates = rw w refl;
  ending = rw w refl;
  placed = rw w tt;
}

-- a wait in which the server was not told to end, and one in which it was
pub waited_on : {F : Type 0} (wire wire' : List (Step F)) (drains : Bool) → not drains ≡ true
    → wire' ≡ (if drains then event drain ∷ wire else wire) → wire' ≡ wire
waited_on wire wire' true is e = absurd (true≢false (sym is))
waited_on wire wire' false is e = e

pub waited_told : {F : Type 0} (wire wire' : List (Step F)) (drains : Bool) → not drains ≡ false
    → wire' ≡ (if drains then event drain ∷ wire else wire) → wire' ≡ event drain ∷ wire
waited_told wire wire' true is e = e
waited_told wire wire' false is e = absurd (true≢false is)

-- one closed place more
pub closed_more : (places : List Bool) → ((k : ℕ) → get_or places k false ≡ false)
    → (k : ℕ) → get_or (places ++ false ∷ []) k false ≡ false
closed_more [] closed' zero = refl
closed_more [] closed' (suc k) = refl
closed_more (p ∷ places) closed' zero = closed' 0
closed_more (p ∷ places) closed' (suc k) = closed_more places (λ j. closed' (suc j)) k

-- what a network was opened by, and what a service is set up with, are the same if both are
both : {A B : Type 0} (a a' : A) (b b' : B) → a' ≡ a → b' ≡ b → ◌≡◌ {A = A × B} (a', b') (a, b)
both {A} {B} a a' b b' same_a same_b =
    let first : A → A × B = λ x. (x, b') in
    let second : B → A × B = λ y. (a, y) in
    ap first same_a ∙ ap second same_b

module _ {F Opening Setup : Type 0} (turns turns' : List (Turn F)) (opening opening' : Opening) (setup setup' : Setup)
    (same_opening : opening' ≡ opening) (same_setup : setup' ≡ setup) where
  pub goes_still : turns' ≡ turns → (past : List (Turn F)) (first : Opening × Setup) → IsAfter past first turns (opening, setup)
      → IsAfter past first turns' (opening', setup')
  goes_still t past first h = record {
    more = h.more;
    whole = t ∙ h.whole;
    same = both opening opening' setup setup' same_opening same_setup ∙ h.same;
  }

  pub goes_took : (e : EventValue F) → (effect : Effect) × (turns' ≡ took e effect ∷ turns) → (past : List (Turn F))
      (first : Opening × Setup) → IsAfter past first turns (opening, setup) → IsAfter past first turns' (opening', setup')
  goes_took e (effect, t) past first h = record {
    more = took e effect ∷ h.more;
    whole = t ∙ ap (λ (l : List (Turn F)). took e effect ∷ l) h.whole;
    same = both opening opening' setup setup' same_opening same_setup ∙ h.same;
  }

  pub goes_gave : (s : Stream) (bytes : List ℕ) → turns' ≡ gave s bytes ∷ turns → (past : List (Turn F)) (first : Opening × Setup)
      → IsAfter past first turns (opening, setup) → IsAfter past first turns' (opening', setup')
  goes_gave s bytes t past first h = record {
    more = gave s bytes ∷ h.more;
    whole = t ∙ ap (λ (l : List (Turn F)). gave s bytes ∷ l) h.whole;
    same = both opening opening' setup setup' same_opening same_setup ∙ h.same;
  }

module _ {F N S O Opening Setup : Type 0} (opening : N → Opening) (turns : S → List (Turn F)) (setup : S → Setup)
    (old new : Parties F N S O) (goes_on : GoesOn opening turns setup old new) where
  -- what the network was opened by and what the service is set up with stay while they go on
  both_stay : ◌≡◌ {A = Opening × Setup} (opening new.network, setup new.service) (opening old.network, setup old.service)
  both_stay = (goes_on (turns old.service) (opening old.network, setup old.service)
      (record { more = []; whole = refl; same = refl })).same

  pub opening_stays : opening new.network ≡ opening old.network
  opening_stays = ap (λ (p : Opening × Setup). p.0) both_stay

  pub setup_stays : setup new.service ≡ setup old.service
  setup_stays = ap (λ (p : Opening × Setup). p.1) both_stay

  -- so does the number of places
  pub counted_on : (places : Setup → ℕ) (n : ℕ) → n ≡ places (setup old.service) → n ≡ places (setup new.service)
  counted_on places n is = is ∙ ap places (sym setup_stays)

-- so where connections are accepted is known
pub placed_on : {F : Type 0} (wire : List (Step F)) (places : List Bool) (is_up is_ending : Bool) (n : ℕ) → length places ≡ n
    → ∥ IsKept wire places is_up is_ending ∥₁ → ∥ ArePlaced n wire ∥₁
placed_on wire places is_up is_ending n counted kept = ∥∥₁_map kept (λ (k : IsKept wire places is_up is_ending).
    subst (λ (m : ℕ). ArePlaced m wire) counted k.placed)
