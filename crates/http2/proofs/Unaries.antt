-- What each step of a server of unary calls does to its law.
use Rattle.std.proofs.Common.{◌≡◌, ◌≢◌, ◌<◌, ◌≤◌, ◌⊎◌, inl, inr, Result, Ok, Err, OnOk, OnErr, ℕ, zero, suc, ◌+◌, Bool, true, false, if◌then◌else◌, Option, Some, None, List, [], ◌∷◌, ◌++◌, length, take, drop, refl, sym, ap, ap₂, ◌∙◌, subst, arith, append_assoc, append-nil}
use Rattle.std.proofs.lemmas.List.{take-append-drop}
use Rattle.std.proofs.Math.Seq.{take-add}
use Rattle.http2.specs.Frame.{IsFrame, IsTooLarge, Parts, parts_of}
use Rattle.http2.specs.Trail.{Step, got, put, preface, bytes_got}
use Rattle.http2.specs.Served.{is_answer, answered}
use Rattle.http2.specs.Streams.{CallValue}
use Rattle.http2.specs.Exchange.{ExchangeValue, Event, on, Takes}
use Rattle.http2.specs.Exchanged.{answers_to, calls_in, Puts, answer, Comes, Goes, code_of, IsAway, IsWrong, Breaks, by_frame, by_size, by_preface, by_memory, by_memory_at, Answers, silent, spoken, Acts, went, broke, spent}
use Rattle.http2.specs.Unary.{UnaryValue, IsAt, UnaryLaw, reply, away, AreUnasked, Continues, Receives}
use Rattle.http2.specs.declared.fault.Fault.{Fault}
use Rattle.http2.specs.declared.wire.Wire.{Wire}
use Rattle.std.specs.declared.alloc.AllocError.{AllocError}
use Rattle.http2.specs.declared.fault.Code.{Code}
use Rattle.http2.specs.declared.fault.Fault.TheVariants.{Memory, Connection}
use Rattle.http2.proofs.Begins.{first_empty}
use Rattle.http2.proofs.Calls.{none_some}

-- what a law has while the connection goes on
pub going : (most : ℕ) (trail : List Step) (gave : List CallValue) (u : UnaryValue) → u.over ≡ None → IsAt most trail gave u u.over
    → Goes most trail u.exchange (gave ++ u.calls)
going most trail gave u none is = subst (λ (o : Option Fault). IsAt most trail gave u o) none is

-- a law of a value by another's that has the same bytes that came
module _ (most : ℕ) (trail : List Step) (came sent : List ℕ) (gave : List CallValue) (u : UnaryValue) (law : UnaryLaw most trail came sent gave u) where
  pub arrived_at : (greeted : ℕ) → greeted ≡ u.greeted → came ≡ take greeted preface ++ law.later
  arrived_at greeted same = law.arrived ∙ ap (λ (n : ℕ). take n preface ++ law.later) (sym same)

  pub unheard_at : (greeted : ℕ) → greeted ≡ u.greeted → greeted < 24 → bytes_got trail ≡ []
  unheard_at greeted same less = law.unheard (subst (λ (n : ℕ). n < 24) same less)

  pub greeting_at : (greeted : ℕ) (rest : List ℕ) (over : Option Fault) → greeted ≡ u.greeted → rest ≡ u.rest
      → (over ≡ None → u.over ≡ None) → greeted < 24 → over ≡ None → rest ≡ []
  greeting_at greeted rest over same rest_is still less none = rest_is ∙ law.greeting (subst (λ (n : ℕ). n < 24) same less) (still none)

  -- no frame is whole before the preface is
  unframed : (greeted : ℕ) (frame rest : List ℕ) → IsFrame frame → u.over ≡ None → greeted ≡ u.greeted → u.rest ≡ frame ++ rest
      → greeted < 24 → ⊥
  unframed greeted frame rest is none same whole less =
      let empty : frame ≡ [] =
      first_empty frame rest (sym whole ∙ law.greeting (subst (λ (n : ℕ). n < 24) same less) none) in
      let zero : length frame ≡ 0 = ap (λ (l : List ℕ). length l) empty in
      absurd (omega (arith, zero, is.whole))

  -- nothing came behind the preface before it is whole
  nothing_later : u.over ≡ None → u.greeted < 24 → law.later ≡ []
  nothing_later none less = law.heard ∙ ap₂ (λ (a b : List ℕ). a ++ b) (law.unheard less) (law.greeting less none)

-- the calls behind those that were given
calls_after : (gave calls later new : List CallValue) → later ≡ calls ++ new → gave ++ later ≡ (gave ++ calls) ++ new
calls_after gave calls later new is = ap (λ (cs : List CallValue). gave ++ cs) is ∙ sym (append_assoc gave calls new)

-- a frame was looked at, and nothing was written
silent_goes : (most : ℕ) (trail : List Step) (old new : ExchangeValue) (frame : List ℕ) (event : Event) (calls later : List CallValue)
    → Takes old frame (on new event) → answers_to frame event ≡ [] → later ≡ calls ++ calls_in event
    → Goes most trail old calls → Goes most (got frame ∷ trail) new later
silent_goes most trail old new frame event calls later takes none are goes = (
  got frame ∷ goes.0,
  ap (λ (t : List Step). got frame ∷ t) goes.1,
  (
    old,
    calls,
    answered goes.0,
    event,
    goes.2,
    takes,
    are,
    sym (append-nil (answered goes.0)) ∙ ap (λ (ps : List Parts). answered goes.0 ++ ps) (sym none),
  ),
)

-- ..., and its answer was
spoken_goes : (most : ℕ) (trail : List Step) (old new : ExchangeValue) (frame said : List ℕ) (event : Event) (calls later : List CallValue)
    → Takes old frame (on new event) → answers_to frame event ≡ parts_of said ∷ [] → is_answer said ≡ true
    → later ≡ calls ++ calls_in event → Goes most trail old calls → Goes most (put said ∷ got frame ∷ trail) new later
spoken_goes most trail old new frame said event calls later takes one is are goes =
    let owed : List Parts = answered goes.0 ++ parts_of said ∷ [] in
    let known : Comes most (put said ∷ got frame ∷ goes.0) new later owed = (
      new,
      (old, calls, answered goes.0, event, goes.2, takes, are, ap (λ (ps : List Parts). answered goes.0 ++ ps) (sym one)),
      answer is refl,
    ) in (
      put said ∷ got frame ∷ goes.0,
      ap (λ (t : List Step). put said ∷ got frame ∷ t) goes.1,
      subst (λ (ps : List Parts). Comes most (put said ∷ got frame ∷ goes.0) new later ps)
          (ap (λ (b : Bool). answered goes.0 ++ (if b then parts_of said ∷ [] else [])) (sym is)) known,
    )

-- what is done with a frame
acts_answers : (most : ℕ) (trail : List Step) (came sent : List ℕ) (gave : List CallValue) (u v : UnaryValue) (frame : List ℕ) (event : Event)
    → IsFrame frame → u.over ≡ None → v.over ≡ None → v.greeted ≡ u.greeted → u.rest ≡ frame ++ v.rest
    → Takes u.exchange frame (on v.exchange event) → Answers (answers_to frame event) u.out v.out → v.calls ≡ u.calls ++ calls_in event
    → UnaryLaw most trail came sent gave u → (steps : List Step) × AreUnasked steps × UnaryLaw most (steps ++ trail) came sent gave v
acts_answers most trail came sent gave u v frame event is none going_on greeted rest takes (silent owes out) calls law = (
  got frame ∷ [],
  tt,
  record {
    later = law.later;
    arrived = arrived_at most trail came sent gave u law v.greeted greeted;
    unheard = λ less. absurd (unframed most trail came sent gave u law v.greeted frame v.rest is none greeted rest less);
    greeting = λ less _. absurd (unframed most trail came sent gave u law v.greeted frame v.rest is none greeted rest less);
    frames = (is, law.frames);
    heard = law.heard ∙ ap (λ (t : List ℕ). bytes_got trail ++ t) rest ∙ sym (append_assoc (bytes_got trail) frame v.rest);
    written = ap (λ (t : List ℕ). sent ++ t) out ∙ law.written;
    is = subst (λ (o : Option Fault). IsAt most (got frame ∷ trail) gave v o) (sym going_on)
        (silent_goes most trail u.exchange v.exchange frame event (gave ++ u.calls) (gave ++ v.calls) takes owes
        (calls_after gave u.calls v.calls (calls_in event) calls) (going most trail gave u none law.is));
  },
)
acts_answers most trail came sent gave u v frame event is none going_on greeted rest takes (spoken said is_said answers owes out) calls law = (
  put said ∷ got frame ∷ [],
  (reply answers, tt),
  record {
    later = law.later;
    arrived = arrived_at most trail came sent gave u law v.greeted greeted;
    unheard = λ less. absurd (unframed most trail came sent gave u law v.greeted frame v.rest is none greeted rest less);
    greeting = λ less _. absurd (unframed most trail came sent gave u law v.greeted frame v.rest is none greeted rest less);
    frames = (is_said, (is, law.frames));
    heard = law.heard ∙ ap (λ (t : List ℕ). bytes_got trail ++ t) rest ∙ sym (append_assoc (bytes_got trail) frame v.rest);
    written = ap (λ (t : List ℕ). sent ++ t) out ∙ sym (append_assoc sent u.out said) ∙ ap (λ (t : List ℕ). t ++ said) law.written;
    is = subst (λ (o : Option Fault). IsAt most (put said ∷ got frame ∷ trail) gave v o) (sym going_on)
        (spoken_goes most trail u.exchange v.exchange frame said event (gave ++ u.calls) (gave ++ v.calls) takes owes answers
        (calls_after gave u.calls v.calls (calls_in event) calls) (going most trail gave u none law.is));
  },
)

-- a frame was looked at, and the connection is over
acts_over : (most : ℕ) (trail : List Step) (came sent : List ℕ) (gave : List CallValue) (u v : UnaryValue) (frame : List ℕ) (f : Fault)
    → IsFrame frame → u.over ≡ None → v.over ≡ Some f → v.greeted ≡ u.greeted → u.rest ≡ frame ++ v.rest
    → Breaks u.exchange (got frame ∷ []) v.greeted v.rest f → v.out ≡ u.out
    → UnaryLaw most trail came sent gave u → (steps : List Step) × AreUnasked steps × UnaryLaw most (steps ++ trail) came sent gave v
acts_over most trail came sent gave u v frame f is none end greeted rest breaks out law = (
  got frame ∷ [],
  tt,
  record {
    later = law.later;
    arrived = arrived_at most trail came sent gave u law v.greeted greeted;
    unheard = λ less. absurd (unframed most trail came sent gave u law v.greeted frame v.rest is none greeted rest less);
    greeting = λ less _. absurd (unframed most trail came sent gave u law v.greeted frame v.rest is none greeted rest less);
    frames = (is, law.frames);
    heard = law.heard ∙ ap (λ (t : List ℕ). bytes_got trail ++ t) rest ∙ sym (append_assoc (bytes_got trail) frame v.rest);
    written = ap (λ (t : List ℕ). sent ++ t) out ∙ law.written;
    is = subst (λ (o : Option Fault). IsAt most (got frame ∷ trail) gave v o) (sym end) (record {
      before = trail;
      came = got frame ∷ [];
      away = [];
      whole = refl;
      are_away = tt;
      c = u.exchange;
      more = u.calls;
      goes = going most trail gave u none law.is;
      breaks = breaks;
    });
  },
)

pub law_acted : (most : ℕ) (trail : List Step) (came sent : List ℕ) (gave : List CallValue) (u v : UnaryValue) (frame : List ℕ) (end : Option Fault)
    → IsFrame frame → u.over ≡ None → v.over ≡ end → v.greeted ≡ u.greeted → u.rest ≡ frame ++ v.rest
    → Acts frame u.exchange v.exchange u.out v.out u.calls v.calls end
    → UnaryLaw most trail came sent gave u → (steps : List Step) × AreUnasked steps × UnaryLaw most (steps ++ trail) came sent gave v
law_acted most trail came sent gave u v frame end is none ends greeted rest (went event going_on takes answers calls) law =
    acts_answers most trail came sent gave u v frame event is none (ends ∙ going_on) greeted rest takes answers calls law
law_acted most trail came sent gave u v frame end is none ends greeted rest (broke f stops takes out) law =
    acts_over most trail came sent gave u v frame f is none (ends ∙ stops) greeted rest (by_frame frame refl takes) out law
law_acted most trail came sent gave u v frame end is none ends greeted rest (spent stops out) law =
    acts_over most trail came sent gave u v frame Memory is none (ends ∙ stops) greeted rest (by_memory_at frame refl refl) out law

-- the connection is over for another reason
pub law_over : (most : ℕ) (trail : List Step) (came sent : List ℕ) (gave : List CallValue) (u v : UnaryValue) (f : Fault)
    → u.over ≡ None → v.over ≡ Some f → v.greeted ≡ u.greeted → v.rest ≡ u.rest → v.out ≡ u.out
    → Breaks u.exchange [] v.greeted v.rest f → UnaryLaw most trail came sent gave u → UnaryLaw most trail came sent gave v
law_over most trail came sent gave u v f none end greeted rest out breaks law = record {
  later = law.later;
  arrived = arrived_at most trail came sent gave u law v.greeted greeted;
  unheard = unheard_at most trail came sent gave u law v.greeted greeted;
  greeting = greeting_at most trail came sent gave u law v.greeted v.rest v.over greeted rest (λ _. none);
  frames = law.frames;
  heard = law.heard ∙ ap (λ (t : List ℕ). bytes_got trail ++ t) (sym rest);
  written = ap (λ (t : List ℕ). sent ++ t) out ∙ law.written;
  is = subst (λ (o : Option Fault). IsAt most trail gave v o) (sym end) (record {
    before = trail;
    came = [];
    away = [];
    whole = refl;
    are_away = tt;
    c = u.exchange;
    more = u.calls;
    goes = going most trail gave u none law.is;
    breaks = breaks;
  });
}

-- a frame was written that answers none
quiet_goes : (most : ℕ) (trail : List Step) (old new : ExchangeValue) (frame : List ℕ) (calls : List CallValue) → Puts old frame new
    → is_answer frame ≡ false → Goes most trail old calls → Goes most (put frame ∷ trail) new calls
quiet_goes most trail old new frame calls puts quiet goes =
    let known : Comes most (put frame ∷ goes.0) new calls (answered goes.0) = (old, goes.2, puts) in (
      put frame ∷ goes.0,
      ap (λ (t : List Step). put frame ∷ t) goes.1,
      subst (λ (ps : List Parts). Comes most (put frame ∷ goes.0) new calls ps)
          (sym (append-nil (answered goes.0)) ∙ ap (λ (b : Bool). answered goes.0 ++ (if b then parts_of frame ∷ [] else [])) (sym quiet)) known,
    )

pub law_wrote : (most : ℕ) (trail : List Step) (came sent : List ℕ) (gave : List CallValue) (u v : UnaryValue) (frame : List ℕ)
    → IsFrame frame → u.over ≡ None → v.over ≡ u.over → v.greeted ≡ u.greeted → v.rest ≡ u.rest → v.out ≡ u.out ++ frame → v.calls ≡ u.calls
    → Puts u.exchange frame v.exchange → is_answer frame ≡ false
    → UnaryLaw most trail came sent gave u → UnaryLaw most (put frame ∷ trail) came sent gave v
law_wrote most trail came sent gave u v frame is none same greeted rest out calls puts quiet law = record {
  later = law.later;
  arrived = arrived_at most trail came sent gave u law v.greeted greeted;
  unheard = unheard_at most trail came sent gave u law v.greeted greeted;
  greeting = greeting_at most trail came sent gave u law v.greeted v.rest v.over greeted rest (λ _. none);
  frames = (is, law.frames);
  heard = law.heard ∙ ap (λ (t : List ℕ). bytes_got trail ++ t) (sym rest);
  written = ap (λ (t : List ℕ). sent ++ t) out ∙ sym (append_assoc sent u.out frame) ∙ ap (λ (t : List ℕ). t ++ frame) law.written;
  is = subst (λ (o : Option Fault). IsAt most (put frame ∷ trail) gave v o) (sym (same ∙ none))
      (subst (λ (cs : List CallValue). Goes most (put frame ∷ trail) v.exchange (gave ++ cs)) (sym calls)
      (quiet_goes most trail u.exchange v.exchange frame (gave ++ u.calls) puts quiet (going most trail gave u none law.is)));
}

-- GOAWAY was written, once the connection is over
away_is : (most : ℕ) (trail : List Step) (gave : List CallValue) (u v : UnaryValue) (frame : List ℕ) (f : Fault) → IsAway (code_of f) frame
    → v.greeted ≡ u.greeted → v.rest ≡ u.rest → IsAt most trail gave u (Some f) → IsAt most (put frame ∷ trail) gave v (Some f)
away_is most trail gave u v frame f away_so greeted rest is = record {
  before = is.before;
  came = is.came;
  away = put frame ∷ is.away;
  whole = ap (λ (t : List Step). put frame ∷ t) is.whole;
  are_away = (away_so, is.are_away);
  c = is.c;
  more = is.more;
  goes = is.goes;
  breaks = subst (λ (r : List ℕ). Breaks is.c is.came v.greeted r f) (sym rest)
      (subst (λ (n : ℕ). Breaks is.c is.came n u.rest f) (sym greeted) is.breaks);
}

pub law_away : (most : ℕ) (trail : List Step) (came sent : List ℕ) (gave : List CallValue) (u v : UnaryValue) (frame : List ℕ) (f : Fault)
    → IsFrame frame → u.over ≡ Some f → v.over ≡ u.over → v.greeted ≡ u.greeted → v.rest ≡ u.rest → v.out ≡ u.out ++ frame
    → IsAway (code_of f) frame
    → UnaryLaw most trail came sent gave u → UnaryLaw most (put frame ∷ trail) came sent gave v
law_away most trail came sent gave u v frame f is some same greeted rest out away_so law = record {
  later = law.later;
  arrived = arrived_at most trail came sent gave u law v.greeted greeted;
  unheard = unheard_at most trail came sent gave u law v.greeted greeted;
  greeting = greeting_at most trail came sent gave u law v.greeted v.rest v.over greeted rest (λ still. sym same ∙ still);
  frames = (is, law.frames);
  heard = law.heard ∙ ap (λ (t : List ℕ). bytes_got trail ++ t) (sym rest);
  written = ap (λ (t : List ℕ). sent ++ t) out ∙ sym (append_assoc sent u.out frame) ∙ ap (λ (t : List ℕ). t ++ frame) law.written;
  is = subst (λ (o : Option Fault). IsAt most (put frame ∷ trail) gave v o) (sym (same ∙ some))
      (away_is most trail gave u v frame f away_so greeted rest (subst (λ (o : Option Fault). IsAt most trail gave u o) some law.is));
}

-- the state of what has changed in nothing that counts for it
is_same : (most : ℕ) (trail : List Step) (gave : List CallValue) (u v : UnaryValue) (o : Option Fault) → (o ≡ None → v.exchange ≡ u.exchange)
    → (o ≡ None → v.calls ≡ u.calls) → v.greeted ≡ u.greeted → v.rest ≡ u.rest → IsAt most trail gave u o → IsAt most trail gave v o
is_same most trail gave u v None exchange calls greeted rest is =
    subst (λ (e : ExchangeValue). Goes most trail e (gave ++ v.calls)) (sym (exchange refl))
    (subst (λ (cs : List CallValue). Goes most trail u.exchange (gave ++ cs)) (sym (calls refl)) is)
is_same most trail gave u v (Some f) exchange calls greeted rest is = record {
  before = is.before;
  came = is.came;
  away = is.away;
  whole = is.whole;
  are_away = is.are_away;
  c = is.c;
  more = is.more;
  goes = is.goes;
  breaks = subst (λ (r : List ℕ). Breaks is.c is.came v.greeted r f) (sym rest)
      (subst (λ (n : ℕ). Breaks is.c is.came n u.rest f) (sym greeted) is.breaks);
}

-- the first bytes that wait are sent
pub law_sent : (most : ℕ) (trail : List Step) (came sent : List ℕ) (gave : List CallValue) (u v : UnaryValue) (count : ℕ)
    → v ≡ record u { out = drop count u.out } → UnaryLaw most trail came sent gave u → UnaryLaw most trail came (sent ++ take count u.out) gave v
law_sent most trail came sent gave u v count same law = rw same (record {
  later = law.later;
  arrived = law.arrived;
  unheard = law.unheard;
  greeting = law.greeting;
  frames = law.frames;
  heard = law.heard;
  written = append_assoc sent (take count u.out) (drop count u.out)
      ∙ ap (λ (t : List ℕ). sent ++ t) (take-append-drop count u.out) ∙ law.written;
  is = is_same most trail gave u (record u { out = drop count u.out }) u.over (λ _. refl) (λ _. refl) refl refl law.is;
})

-- bytes came behind the preface, while the connection goes on
pub law_heard : (most : ℕ) (trail : List Step) (came sent bytes : List ℕ) (gave : List CallValue) (u v : UnaryValue) → u.over ≡ None
    → (u.greeted < 24 → ⊥) → v ≡ record u { rest = u.rest ++ bytes }
    → UnaryLaw most trail came sent gave u → UnaryLaw most trail (came ++ bytes) sent gave v
law_heard most trail came sent bytes gave u v none begun same law = rw same (record {
  later = law.later ++ bytes;
  arrived = ap (λ (t : List ℕ). t ++ bytes) law.arrived ∙ append_assoc (take u.greeted preface) law.later bytes;
  unheard = law.unheard;
  greeting = λ less _. absurd (begun less);
  frames = law.frames;
  heard = ap (λ (t : List ℕ). t ++ bytes) law.heard ∙ append_assoc (bytes_got trail) u.rest bytes;
  written = law.written;
  is = subst (λ (o : Option Fault). IsAt most trail gave (record u { rest = u.rest ++ bytes }) o) (sym none) (going most trail gave u none law.is);
})

-- the first call that waits is given
pub law_called : (most : ℕ) (trail : List Step) (came sent : List ℕ) (gave : List CallValue) (u v : UnaryValue) (call : CallValue) → u.over ≡ None
    → u.calls ≡ call ∷ v.calls → v ≡ record u { calls = v.calls }
    → UnaryLaw most trail came sent gave u → UnaryLaw most trail came sent (gave ++ call ∷ []) v
law_called most trail came sent gave u v call none first same law = rw same (record {
  later = law.later;
  arrived = law.arrived;
  unheard = law.unheard;
  greeting = law.greeting;
  frames = law.frames;
  heard = law.heard;
  written = law.written;
  is = subst (λ (o : Option Fault). IsAt most trail (gave ++ call ∷ []) (record u { calls = v.calls }) o) (sym none)
      (subst (λ (cs : List CallValue). Goes most trail u.exchange cs)
      (ap (λ (cs : List CallValue). gave ++ cs) first ∙ sym (append_assoc gave (call ∷ []) v.calls)) (going most trail gave u none law.is));
})

-- at least so many, since fewer cannot be
at_least : (n k : ℕ) → (k < n → ⊥) → n ≤ k
at_least zero k never = omega arith
at_least (suc n) zero never = absurd (never (omega arith))
at_least (suc n) (suc k) never =
    let below : n ≤ k = at_least n k (λ less. never (omega (arith, less))) in
    omega (arith, below)

-- nothing follows in the preface, so the preface is whole where too large a frame follows
whole_preface : (most : ℕ) (trail : List Step) (came sent : List ℕ) (gave : List CallValue) (u : UnaryValue) → u.over ≡ None
    → IsTooLarge u.rest → UnaryLaw most trail came sent gave u → 24 ≤ u.greeted
whole_preface most trail came sent gave u none long law = at_least 24 u.greeted (λ less.
    let empty = ap (λ (t : List ℕ). length t) (law.greeting less none) in
    omega (arith, long.head, empty))

-- what follows cannot be looked at
pub stopped_at : (most : ℕ) (trail : List Step) (came sent : List ℕ) (gave : List CallValue) (u v : UnaryValue) (f : Fault)
    → u.over ≡ None → v.over ≡ Some f → v.greeted ≡ u.greeted → v.rest ≡ u.rest → v.out ≡ u.out
    → (f ≡ Memory) ⊎ ((f ≡ Connection Code.FrameSize) × IsTooLarge u.rest)
    → UnaryLaw most trail came sent gave u → UnaryLaw most trail came sent gave v
stopped_at most trail came sent gave u v f none end greeted rest out (inl memory) law =
    law_over most trail came sent gave u v f none end greeted rest out (by_memory refl memory) law
stopped_at most trail came sent gave u v f none end greeted rest out (inr (large, long)) law =
    law_over most trail came sent gave u v f none end greeted rest out
    (by_size refl (rw greeted (whole_preface most trail came sent gave u none long law))
    (subst (λ (t : List ℕ). IsTooLarge t) (sym rest) long) large) law

-- memory ran out
pub law_spent : (most : ℕ) (trail : List Step) (came sent : List ℕ) (gave : List CallValue) (u v : UnaryValue)
    → u.over ≡ None → v.over ≡ Some Memory → v.greeted ≡ u.greeted → v.rest ≡ u.rest → v.out ≡ u.out
    → UnaryLaw most trail came sent gave u → UnaryLaw most trail came sent gave v
law_spent most trail came sent gave u v none end greeted rest out law =
    law_over most trail came sent gave u v Memory none end greeted rest out (by_memory refl refl) law

-- more of the preface came
pub law_greeted : (most : ℕ) (trail : List Step) (came sent part : List ℕ) (gave : List CallValue) (u v : UnaryValue) (n : ℕ) → u.over ≡ None
    → u.greeted < 24 → v ≡ record u { greeted = u.greeted + n } → part ≡ take n (drop u.greeted preface)
    → UnaryLaw most trail came sent gave u → UnaryLaw most trail (came ++ part) sent gave v
law_greeted most trail came sent part gave u v n none less same is law = rw same (record {
  later = [];
  arrived = ap₂ (λ (a b : List ℕ). a ++ b)
      (law.arrived ∙ ap (λ (t : List ℕ). take u.greeted preface ++ t) (nothing_later most trail came sent gave u law none less)
      ∙ append-nil (take u.greeted preface)) is
      ∙ sym (take-add u.greeted n preface) ∙ sym (append-nil (take (u.greeted + n) preface));
  unheard = λ _. law.unheard less;
  greeting = λ _ _. law.greeting less none;
  frames = law.frames;
  heard = sym (nothing_later most trail came sent gave u law none less) ∙ law.heard;
  written = law.written;
  is = subst (λ (o : Option Fault). IsAt most trail gave (record u { greeted = u.greeted + n }) o) (sym none) (going most trail gave u none law.is);
})

-- another octet than the preface's came
pub law_refused : (most : ℕ) (trail : List Step) (came sent bytes : List ℕ) (gave : List CallValue) (u v : UnaryValue) → u.over ≡ None
    → u.greeted < 24 → v ≡ record u { rest = u.rest ++ bytes; over = Some (Connection Code.Protocol) } → IsWrong u.greeted bytes
    → UnaryLaw most trail came sent gave u → UnaryLaw most trail (came ++ bytes) sent gave v
law_refused most trail came sent bytes gave u v none less same wrong law = rw same (record {
  later = law.later ++ bytes;
  arrived = ap (λ (t : List ℕ). t ++ bytes) law.arrived ∙ append_assoc (take u.greeted preface) law.later bytes;
  unheard = law.unheard;
  greeting = λ _ still. absurd (none_some (sym still));
  frames = law.frames;
  heard = ap (λ (t : List ℕ). t ++ bytes) law.heard ∙ append_assoc (bytes_got trail) u.rest bytes;
  written = law.written;
  is = record {
    before = trail;
    came = [];
    away = [];
    whole = refl;
    are_away = tt;
    c = u.exchange;
    more = u.calls;
    goes = going most trail gave u none law.is;
    breaks = by_preface refl less (subst (λ (r : List ℕ). IsWrong u.greeted (r ++ bytes)) (sym (law.greeting less none)) wrong) refl;
  };
})

-- what was written unasked, and then this
unasked_append : (xs ys : List Step) → AreUnasked xs → AreUnasked ys → AreUnasked (xs ++ ys)
unasked_append [] ys x y = y
unasked_append (got frame ∷ xs) ys x y = unasked_append xs ys x y
unasked_append (put frame ∷ xs) ys (is, x) y = (is, unasked_append xs ys x y)

-- one step after another
pub continued : (u v w : UnaryValue) → Continues u v → Continues v w → Continues u w
continued u v w first second = λ most trail came sent gave law.
    let mid = first most trail came sent gave law in
    let last = second most (mid.0 ++ trail) came sent gave mid.2 in (
      last.0 ++ mid.0,
      unasked_append last.0 mid.0 last.1 mid.1,
      subst (λ (t : List Step). UnaryLaw most t came sent gave w) (sym (append_assoc last.0 mid.0 trail)) last.2,
    )

-- bytes came, and then there was such a step
pub received : (bytes : List ℕ) (u v w : UnaryValue) → Receives bytes u v → Continues v w → Receives bytes u w
received bytes u v w first second = λ most trail came sent gave law.
    let mid = first most trail came sent gave law in
    let last = second most (mid.0 ++ trail) (came ++ bytes) sent gave mid.2 in (
      last.0 ++ mid.0,
      unasked_append last.0 mid.0 last.1 mid.1,
      subst (λ (t : List Step). UnaryLaw most t (came ++ bytes) sent gave w) (sym (append_assoc last.0 mid.0 trail)) last.2,
    )

-- GOAWAY was written, if there was memory for it
pub away_if : (r : Result (Unit {0}) AllocError) (most : ℕ) (trail : List Step) (came sent : List ℕ) (gave : List CallValue) (u : UnaryValue)
    (old new : Wire) (v : UnaryValue) (f : Fault) → u.over ≡ Some f → u.rest ≡ old.rest → u.out ≡ old.out → new.rest ≡ old.rest
    → v ≡ record u { rest = new.rest; out = new.out }
    → OnOk r ((frame : List ℕ) × IsFrame frame × IsAway (code_of f) frame × (new.out ≡ old.out ++ frame))
    → OnErr r (new ≡ old)
    → UnaryLaw most trail came sent gave u → (steps : List Step) × AreUnasked steps × UnaryLaw most (steps ++ trail) came sent gave v
away_if (Ok x) most trail came sent gave u old new v f some rest_is out_is rest same wrote fault law = rw same (
  put wrote.0 ∷ [],
  (away wrote.2.kind wrote.2.on_none, tt),
  law_away most trail came sent gave u (record u { rest = new.rest; out = new.out }) wrote.0 f wrote.1 some refl refl (rest ∙ sym rest_is)
      (wrote.3 ∙ ap (λ (t : List ℕ). t ++ wrote.0) (sym out_is)) wrote.2 law,
)
away_if (Err e) most trail came sent gave u old new v f some rest_is out_is rest same wrote fault law = rw (same, fault) (
  [],
  tt,
  rw (← rest_is, ← out_is) law,
)

-- what is done with a frame, if there was memory for its answer
pub acts_of : (r : Result (Unit {0}) AllocError) (end : Option Fault) (frame : List ℕ) (old new : ExchangeValue) (waits after : List ℕ)
    (calls later : List CallValue) (event : Event) → OnOk r (end ≡ None) → OnErr r (end ≡ Some Memory) → Takes old frame (on new event)
    → OnOk r (Answers (answers_to frame event) waits after) → OnErr r (after ≡ waits) → OnOk r (later ≡ calls ++ calls_in event)
    → Acts frame old new waits after calls later end
acts_of (Ok x) end frame old new waits after calls later event none memory takes answers same kept =
    went event none takes answers kept
acts_of (Err e) end frame old new waits after calls later event none memory takes answers same kept = spent memory same

-- what stays stays, whatever the result
pub on_err_refl : {X : Type 0} (x : X) (r : Result (Unit {0}) AllocError) → OnErr r (x ≡ x)
on_err_refl x (Ok y) = tt
on_err_refl x (Err e) = refl

-- a connection that was over still is
pub still_over : {P : Type 0} (before after : Option Fault) → (before ≢ None → after ≡ before) → (before ≢ None) ⊎ P → (after ≢ None) ⊎ P
still_over before after same (inl some) = inl (λ none. some (sym (same some) ∙ none))
still_over before after same (inr holds) = inr holds
