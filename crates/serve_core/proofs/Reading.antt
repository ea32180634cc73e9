-- A front's connection reads bytes: its asks are taken and answered, one after the other.
use Rattle.std.proofs.Common.{◌≡◌, ◌<◌, ℕ, Option, Some, None, List, [], ◌∷◌, ◌++◌, length, refl, sym, ap, ap₂, ◌∙◌, append_assoc, append-nil}
use Rattle.http_front.specs.Answer.{answer_of}
use Rattle.http_front.specs.Front.{FrontValue, HasNoAsk, TakesNext, fed_front, keeping}
use Rattle.http_front.specs.Heads.{Kept}
use Rattle.http_front.specs.declared.ask.Ask.{Ask}
use Rattle.serve_core.specs.ClientRequests.{AnswersAsk, OnlyAt, RuleValue}
use Rattle.serve_core.specs.Cores.{CoreValue}
use Rattle.serve_core.specs.Fronts.{AnswersAll, Reads, framed, reply_in}
use Rattle.serve_core.specs.declared.front_answer.FrontAnswer.{FrontAnswer}
use Rattle.serve_core.specs.declared.front_connection.FrontConnection.{FrontConnection}
use Rattle.serve_core.proofs.Clients.{only_none, only_then}

-- what was read so far: the answers, what waits, and how further ones follow
pub record ReadSoFar (rule : RuleValue) (k : ℕ) (start : FrontConnection) (bytes : List ℕ) (before : CoreValue)
    (had : List FrontAnswer) (now : FrontConnection) (core : CoreValue) (answers : List FrontAnswer) : Type 0 where
  pub more : List FrontAnswer
  pub out : List ℕ
  pub pushed : answers ≡ had ++ more
  pub waits : now.outbox ≡ start.outbox ++ out
  pub same : now.front ≡ keeping start.front now.front.kept
  pub only : OnlyAt k before core
  pub all : (later : List FrontAnswer) (rest : List ℕ) (end : Kept) (new : CoreValue)
      → AnswersAll rule k start.front.limits start.front.facts now.front.kept core later rest end new
      → AnswersAll rule k start.front.limits start.front.facts (fed_front start.front bytes).kept before (more ++ later)
      (out ++ rest) end new

module _ (rule : RuleValue) (k : ℕ) (start : FrontConnection) (bytes : List ℕ) (before : CoreValue)
    (had : List FrontAnswer) where
  pub read_none : (now : FrontConnection) (core : CoreValue) (answers : List FrontAnswer)
      → now.front ≡ fed_front start.front bytes → now.outbox ≡ start.outbox → core ≡ before → answers ≡ had
      → ReadSoFar rule k start bytes before had now core answers
  read_none now core answers front outbox same none = record {
    more = [];
    out = [];
    pushed = none ∙ sym (append-nil had);
    waits = outbox ∙ sym (append-nil start.outbox);
    same = front ∙ ap (λ (kept : Kept). keeping start.front kept) (sym (ap (λ (f : FrontValue). f.kept) front));
    only = rw same (only_none k before);
    all = λ later rest end new all. rw (ap (λ (f : FrontValue). f.kept) front, same) at all;
  }

  module _ (now : FrontConnection) (core : CoreValue) (answers : List FrontAnswer)
      (so_far : ReadSoFar rule k start bytes before had now core answers) where
    limits : now.front.limits ≡ start.front.limits
    limits = ap (λ (f : FrontValue). f.limits) so_far.same

    facts : now.front.facts ≡ start.front.facts
    facts = ap (λ (f : FrontValue). f.facts) so_far.same

    pub read_more : (ask : Ask) (next : FrontConnection) (core' : CoreValue) (answer : FrontAnswer)
        (answers' : List FrontAnswer) (held said : List ℕ) → TakesNext now.front (Some ask) next.front
        → AnswersAsk rule k now.front.facts now.front.kept ask core answer core' → OnlyAt k core core'
        → held ≡ now.outbox → said ≡ answer_of (framed ask (reply_in answer)) → next.outbox ≡ held ++ said
        → answers' ≡ answers ++ answer ∷ [] → ReadSoFar rule k start bytes before had next core' answers'
    read_more ask next core' answer answers' held said (takes, made) is only holds says added push =
        let bytes' = answer_of (framed ask (reply_in answer)) in
        let put : next.outbox ≡ now.outbox ++ bytes' = added ∙ ap₂ (λ (h s : List ℕ). h ++ s) holds says in
        record {
          more = so_far.more ++ answer ∷ [];
          out = so_far.out ++ bytes';
          pushed = push ∙ ap (λ (l : List FrontAnswer). l ++ answer ∷ []) so_far.pushed
              ∙ append_assoc had so_far.more (answer ∷ []);
          waits = put ∙ ap (λ (l : List ℕ). l ++ bytes') so_far.waits
              ∙ append_assoc start.outbox so_far.out bytes';
          same = made ∙ ap (λ (f : FrontValue). keeping f next.front.kept) so_far.same;
          only = only_then k before core core' so_far.only only;
          all = λ later rest end new all.
              rw (append_assoc so_far.more (answer ∷ []) later, append_assoc so_far.out bytes' rest)
              (so_far.all (answer ∷ later) (bytes' ++ rest) end new
              (ask, next.front.kept, core', rest, rw (limits, facts) at takes, rw facts at is, refl, all));
        }

    pub read_all : (last : FrontConnection) → TakesNext now.front None last.front → last.outbox ≡ now.outbox
        → (more : List FrontAnswer) × (out : List ℕ) × (answers ≡ had ++ more)
        × Reads rule k start bytes before more out last core
    read_all last (none, same) outbox =
        let all : AnswersAll rule k start.front.limits start.front.facts (fed_front start.front bytes).kept before
        (so_far.more ++ []) (so_far.out ++ []) now.front.kept core =
        so_far.all [] [] now.front.kept core (refl, refl, refl) in (
          so_far.more,
          so_far.out,
          so_far.pushed,
          record {
            all = rw same (rw (append-nil so_far.more, append-nil so_far.out) at all);
            rests = rw same none;
            same = rw same so_far.same;
            waits = outbox ∙ so_far.waits;
            only = so_far.only;
          },
        )

-- the bytes complete no ask
pub read_kept : (rule : RuleValue) (k : ℕ) (start last : FrontConnection) (bytes : List ℕ) (core : CoreValue)
    (had answers : List FrontAnswer) → last.front ≡ fed_front start.front bytes → HasNoAsk last.front
    → last.outbox ≡ start.outbox → answers ≡ had
    → (more : List FrontAnswer) × (out : List ℕ) × (answers ≡ had ++ more)
    × Reads rule k start bytes core more out last core
read_kept rule k start last bytes core had answers front none outbox same = (
  [],
  [],
  same ∙ sym (append-nil had),
  record {
    all = (refl, ap (λ (f : FrontValue). f.kept) front, refl);
    rests = none;
    same = front ∙ ap (λ (kept : Kept). keeping start.front kept) (sym (ap (λ (f : FrontValue). f.kept) front));
    waits = outbox ∙ sym (append-nil start.outbox);
    only = only_none k core;
  },
)
