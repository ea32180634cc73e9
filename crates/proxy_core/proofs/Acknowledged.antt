-- The rules of each filter are those that were acknowledged last.
use Rattle.std.proofs.Common.{◌≡◌, ◌⊎◌, inl, inr, ℕ, ◌≤◌, Bool, true, false, Option, Some, None, List, [], ◌∷◌, ◌++◌, length, map, refl, sym, ap, subst, ◌∙◌, append_assoc, append-nil, arith, bytes_eq, if◌then◌else◌}
use Rattle.std.specs.List.{AllByRecursion, AllZip}
use Rattle.std.proofs.lemmas.Slice.Eq.{bytes_eq-Decides}
use Rattle.proto_wire.specs.declared.refusal.Refusal.{Refusal}
use Rattle.xds_wire.specs.Discovery.{AnyMessage, ExtensionMessage, RequestMessage}
use Rattle.proto_wire.specs.Merge.{SomeOf}
use Rattle.xds_wire.specs.Frames.{frame_of}
use Rattle.xds_wire.proofs.DiscoveryLaws.{extension_unique}
use Rattle.ads.specs.Config.{ConfigValue, FilterValue}
use Rattle.ads.specs.Answer.{AnswersAs, GivesAs, IsNamed, IsResource, ack, nack, no_memory, ack_of, nack_of, named, replaced, status_of}
use Rattle.proxy_core.specs.Acknowledging.{GaveLast, GaveRules, HasLast, HoldsRules, IsAckFor, IsSentIn, LastOf}
use Rattle.proxy_core.specs.Events.{EventValue, ads_up, ads_bytes, ads_lost, http_open, http_bytes, http_closed}
use Rattle.proxy_core.specs.Run.{Acknowledged, AreExchanges, AreRules, AreSent, Exchange, GivesStream, Happens, IsHistory, Moment, Rules, UpdateStream, acknowledged_after, acknowledged_in, connection_in, stream_in}
use Rattle.proxy_core.proofs.Exactly.{AllGoOn, all_go_on, connection_of}

-- ---- what was put out

abbrev AreSentIn : List ℕ → List Exchange → Type 0
AreSentIn bytes exchanges = AllByRecursion (λ x. IsSentIn bytes x.reply) exchanges

all_sent : (exchanges : List Exchange) (whole before bytes : List ℕ) → whole ≡ before ++ bytes
    → AreSent exchanges bytes → AreSentIn whole exchanges
all_sent [] whole before bytes is sent = tt
all_sent (x ∷ exchanges) whole before bytes is (more, (message, written, short, goes), others) = (
  (before, bytes, more, is, (message, written, short, goes)),
  all_sent exchanges whole (before ++ frame_of message) more
      (is ∙ ap (λ (b : List ℕ). before ++ b) goes ∙ sym (append_assoc before (frame_of message) more)) others,
)

stream_sent : (c : ConfigValue) (past : List Moment) (m : Moment) (s : Option UpdateStream) (bytes : List ℕ)
    → GivesStream c past m bytes s → AreSentIn m.output.ads m.exchanges
stream_sent c past m None bytes (is, none, asks) = rw none tt
stream_sent c past m (Some s) bytes (replies, is_broken, stream, sent, is, none) =
    rw is (all_sent m.exchanges replies [] replies refl sent)

moment_sent : (event : EventValue) (c : ConfigValue) (past : List Moment) (m : Moment) → Happens c past m event
    → AreSentIn m.output.ads m.exchanges
moment_sent ads_up c past m (bytes, frame, (is, none, asks)) = rw none tt
moment_sent (ads_bytes bytes) c past m gives = stream_sent c past m (stream_in past) bytes gives
moment_sent ads_lost c past m (is, none, asks) = rw none tt
moment_sent (http_open k facts) c past m (output, opens, (is, none, asks)) = rw none tt
moment_sent (http_bytes k bytes) c past m gives = rw (connection_of c past m (connection_in k past) bytes gives) tt
moment_sent (http_closed k) c past m (is, none, asks) = rw none tt

-- ---- one response

-- the first extension of a name is that of a resource
named_is : (name : List ℕ) (any_messages : List AnyMessage) (xs : List ExtensionMessage) (x : ExtensionMessage)
    (more : List ExtensionMessage) → AllZip IsResource any_messages xs → named name xs ≡ x ∷ more
    → SomeOf (λ any. IsResource any x) any_messages × (x.name ≡ name)
named_is name [] [] x more all is = absurd cc
named_is name [] (y ∷ xs) x more all is = absurd all
named_is name (any ∷ any_messages) [] x more all is = absurd cc
named_is name (any ∷ any_messages) (y ∷ xs) x more (one, all) is =
    by (bytes_eq y.name name) refl is (λ later. named_is name any_messages xs x more all later)
  where
    by : (b : Bool) → bytes_eq y.name name ≡ b → (if b then y ∷ named name xs else named name xs) ≡ x ∷ more
        → (named name xs ≡ x ∷ more → SomeOf (λ any. IsResource any x) any_messages × (x.name ≡ name))
        → SomeOf (λ any. IsResource any x) (any ∷ any_messages) × (x.name ≡ name)
    by true same found behind =
        let here : y ≡ x = cc in (
          inl (subst (λ z. IsResource any z) here one),
          ap (λ (z : ExtensionMessage). z.name) (sym here) ∙ (bytes_eq-Decides y.name name).0 same,
        )
    by false same found behind = let later = behind found in (inr later.0, later.1)

-- a resource of a name has an extension of it
some_named : (name : List ℕ) (any_messages : List AnyMessage) (xs : List ExtensionMessage) → AllZip IsResource any_messages xs
    → SomeOf (IsNamed name) any_messages → 1 ≤ length (named name xs)
some_named name [] xs all some = absurd some
some_named name (any ∷ any_messages) [] all some = absurd all
some_named name (any ∷ any_messages) (x ∷ xs) (is, all) (inl (also, is', same)) =
    let one : also ≡ x = extension_unique any.value also x is'.reads is.reads in
    let this : x.name ≡ name = subst (λ (y : ExtensionMessage). y.name ≡ name) one same in
    rw ((bytes_eq-Decides x.name name).1 this) (omega arith)
some_named name (any ∷ any_messages) (x ∷ xs) (is, all) (inr some) =
    by (bytes_eq x.name name) (some_named name any_messages xs all some)
  where
    by : (b : Bool) → 1 ≤ length (named name xs) → 1 ≤ length (if b then x ∷ named name xs else named name xs)
    by true more = omega arith
    by false more = more

-- ---- the last of some

module _ {A : Type 0} (IsSo Holds : A → Type 0) where
  none_more : (xs : List A) (x : A) → (SomeOf IsSo xs → ⊥) → (IsSo x → ⊥) → SomeOf IsSo (xs ++ x ∷ []) → ⊥
  none_more [] x none not (inl is) = not is
  none_more [] x none not (inr bad) = bad
  none_more (y ∷ ys) x none not (inl is) = none (inl is)
  none_more (y ∷ ys) x none not (inr some) = none_more ys x (λ s. none (inr s)) not some

  last_stays : (xs : List A) (x : A) → (IsSo x → ⊥) → LastOf IsSo Holds xs → LastOf IsSo Holds (xs ++ x ∷ [])
  last_stays [] x not last = absurd last
  last_stays (y ∷ ys) x not (inl later) = inl (last_stays ys x not later)
  last_stays (y ∷ ys) x not (inr (none, holds)) = inr (none_more ys x none not, holds)

  last_here : (xs : List A) (x : A) → Holds x → LastOf IsSo Holds (xs ++ x ∷ [])
  last_here [] x holds = inr ((λ none. none), holds)
  last_here (y ∷ ys) x holds = inl (last_here ys x holds)

-- ---- what filters have

module _ (c : ConfigValue) (past : List Moment) (sent : List ℕ) where
  -- what a filter has behind the past and the first exchanges of a moment
  abbrev InForce : List Exchange → FilterValue → Option Rules → Type 0
  InForce xs f None = (SomeOf (IsAckFor c f) xs → ⊥) × HasLast c past f None
  InForce xs f (Some rules) = LastOf (IsAckFor c f) (GaveRules c f rules sent) xs
      ⊎ ((SomeOf (IsAckFor c f) xs → ⊥) × GaveLast c past f rules)

  begins : (fs : List FilterValue) (filters : List (Option Rules)) → AllZip (HasLast c past) fs filters
      → AllZip (InForce []) fs filters
  begins [] [] all = tt
  begins [] (o ∷ filters) bad = absurd bad
  begins (f ∷ fs) [] bad = absurd bad
  begins (f ∷ fs) (None ∷ filters) (one, all) = (((λ none. none), one), begins fs filters all)
  begins (f ∷ fs) (Some rules ∷ filters) (one, all) = (inr ((λ none. none), one), begins fs filters all)

  module _ (xs : List Exchange) (x : Exchange) where
    stays : (f : FilterValue) (filter : Option Rules) → (IsAckFor c f x → ⊥) → InForce xs f filter
        → InForce (xs ++ x ∷ []) f filter
    stays f None not (none, never) = (none_more (IsAckFor c f) (IsAckFor c f) xs x none not, never)
    stays f (Some rules) not (inl last) = inl (last_stays (IsAckFor c f) (GaveRules c f rules sent) xs x not last)
    stays f (Some rules) not (inr (none, was)) = inr (none_more (IsAckFor c f) (IsAckFor c f) xs x none not, was)

    all_stay : (fs : List FilterValue) (filters : List (Option Rules)) → ((f : FilterValue) → IsAckFor c f x → ⊥)
        → AllZip (InForce xs) fs filters → AllZip (InForce (xs ++ x ∷ [])) fs filters
    all_stay [] [] not all = tt
    all_stay [] (o ∷ filters) not bad = absurd bad
    all_stay (f ∷ fs) [] not bad = absurd bad
    all_stay (f ∷ fs) (o ∷ filters) not (one, all) = (stays f o (not f) one, all_stay fs filters not all)

    module _ (extensions : List ExtensionMessage) (reads : AllZip IsResource x.response.resources extensions)
        (reported : x.reply ≡ ack_of c x.response) (put : IsSentIn sent x.reply) where
      not_named : (f : FilterValue) (ys : List ExtensionMessage) → named f.name extensions ≡ ys
          → GivesAs AreRules c.limits f ys None → IsAckFor c f x → ⊥
      not_named f [] is none (answered, some) =
          let one : 1 ≤ length (named f.name extensions) = some_named f.name x.response.resources extensions reads some in
          let empty : length (named f.name extensions) ≡ 0 = ap length is in
          omega arith
      not_named f (y ∷ []) is (bytes, rules, holds, are, made) some = let clash : None ≡ Some rules = made in absurd cc
      not_named f (y ∷ z ∷ ys) is bad some = bad

      given : (f : FilterValue) (rules : Rules) (ys : List ExtensionMessage) → named f.name extensions ≡ ys
          → GivesAs AreRules c.limits f ys (Some rules) → HoldsRules c f x.response rules
      given f rules [] is none = absurd cc
      given f rules (y ∷ []) is (bytes, others, holds, are, made) =
          let found = named_is f.name x.response.resources extensions y [] reads is in
          let same : others ≡ rules = cc in
          (y, bytes, found.0, found.1, holds, subst (λ r. AreRules c.limits f bytes r) same are)
      given f rules (y ∷ z ∷ ys) is bad = absurd bad

      all_given : (fs : List FilterValue) (old news : List (Option Rules)) → AllZip (InForce xs) fs old
          → AllZip (λ f. GivesAs AreRules c.limits f (named f.name extensions)) fs news
          → AllZip (InForce (xs ++ x ∷ [])) fs (replaced old news)
      all_given [] [] [] was gives = tt
      all_given [] [] (g ∷ news) was bad = absurd bad
      all_given [] (o ∷ old) news bad gives = absurd bad
      all_given (f ∷ fs) [] news bad gives = absurd bad
      all_given (f ∷ fs) (o ∷ old) [] was bad = absurd bad
      all_given (f ∷ fs) (o ∷ old) (None ∷ news) (was, others) (one, more) = (
        stays f o (not_named f (named f.name extensions) refl one) was,
        all_given fs old news others more,
      )
      all_given (f ∷ fs) (o ∷ old) (Some rules ∷ news) (was, others) (one, more) = (
        inl (last_here (IsAckFor c f) (GaveRules c f rules sent) xs x
            (reported, given f rules (named f.name extensions) refl one, put)),
        all_given fs old news others more,
      )

    refused_not : (old : Acknowledged) (e : Refusal) (f : FilterValue) → x.reply ≡ nack_of c old x.response e
        → IsAckFor c f x → ⊥
    refused_not old e f refused (reported, some) =
        let clash : Some (status_of e) ≡ None =
        sym (ap (λ (m : RequestMessage). m.error_detail) refused) ∙ ap (λ (m : RequestMessage). m.error_detail) reported in
        absurd cc

    unchanged : (old : Acknowledged) → x.after ≡ old → AllZip (InForce (xs ++ x ∷ [])) c.filters old.policies
        → AllZip (InForce (xs ++ x ∷ [])) c.filters x.after.policies
    unchanged old same all =
        subst (λ (a : Acknowledged). AllZip (InForce (xs ++ x ∷ [])) c.filters a.policies) (sym same) all

    one_answered : (old : Acknowledged) → AnswersAs AreRules c x.response old x.reply x.after → IsSentIn sent x.reply
        → AllZip (InForce xs) c.filters old.policies → AllZip (InForce (xs ++ x ∷ [])) c.filters x.after.policies
    one_answered old (ack accepts reported) put was =
        subst (λ (filters : List (Option Rules)). AllZip (InForce (xs ++ x ∷ [])) c.filters filters)
        (sym accepts.policies)
        (all_given accepts.extensions accepts.reads reported put c.filters old.policies accepts.given was accepts.gives)
    one_answered old (nack e refuses same reported) put was = unchanged old same
        (all_stay c.filters old.policies (λ f. refused_not old e f reported) was)
    one_answered old (no_memory admitting same reported) put was = unchanged old same
        (all_stay c.filters old.policies (λ f. refused_not old Refusal.Memory f reported) was)

  all_answered : (todo done : List Exchange) (messages : List (List ℕ)) (old : Acknowledged)
      → AreExchanges c old messages todo → AreSentIn sent todo → AllZip (InForce done) c.filters old.policies
      → AllZip (InForce (done ++ todo)) c.filters (acknowledged_after old todo).policies
  all_answered [] done messages old all put was = rw (append-nil done) was
  all_answered (x ∷ todo) done [] old all put was = absurd cc
  all_answered (x ∷ todo) done (m ∷ messages) old (reads, answers, all) (one, others) was =
      rw (append_assoc done (x ∷ []) todo) at
      (all_answered todo (done ++ x ∷ []) messages x.after all others (one_answered done x old answers one was))

-- ---- the past

none_yet : (c : ConfigValue) (fs : List FilterValue) → AllZip (HasLast c []) fs (map (λ f. None) fs)
none_yet c [] = tt
none_yet c (f ∷ fs) = ((λ none. none), none_yet c fs)

ends : (c : ConfigValue) (past : List Moment) (m : Moment) (fs : List FilterValue) (filters : List (Option Rules))
    → AllZip (InForce c past m.output.ads m.exchanges) fs filters → AllZip (HasLast c (m ∷ past)) fs filters
ends c past m [] [] all = tt
ends c past m [] (o ∷ filters) bad = absurd bad
ends c past m (f ∷ fs) [] bad = absurd bad
ends c past m (f ∷ fs) (None ∷ filters) ((none, never), all) = (
  (λ some. elim some [
    | inl here ↦ none here
    | inr before ↦ never before
  ]),
  ends c past m fs filters all,
)
ends c past m (f ∷ fs) (Some rules ∷ filters) (one, all) = (one, ends c past m fs filters all)

go_back : (c : ConfigValue) (past : List Moment) → IsHistory c past → AllGoOn c past
    → AllZip (HasLast c past) c.filters (acknowledged_in c past).policies
go_back c [] is all = none_yet c c.filters
go_back c (m ∷ past) (happens, is) ((messages, are), all) =
    ends c past m c.filters (acknowledged_in c (m ∷ past)).policies
    (all_answered c past m.output.ads m.exchanges [] messages (acknowledged_in c past) are
    (moment_sent m.event c past m happens)
    (begins c past m.output.ads c.filters (acknowledged_in c past).policies (go_back c past is all)))

pub have_last : (c : ConfigValue) (past : List Moment) → IsHistory c past
    → AllZip (HasLast c past) c.filters (acknowledged_in c past).policies
have_last c past is = go_back c past is (all_go_on c past is).1
