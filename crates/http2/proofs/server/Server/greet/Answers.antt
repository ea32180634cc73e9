use Rattle.std.proofs.Common.{◌≡◌, ◌+◌, ◌-◌, min, List, ℕ, [], ◌++◌, refl, sym, ap, ap₂, take, drop, length, subst, append-nil, ◌∙◌}
use Rattle.std.proofs.Math.Seq.{take-add}
use Rattle.http2.specs.Trail.{preface, bytes_got, Law}
use Rattle.http2.specs.Lines.{unread}
use Rattle.http2.specs.Servings.{serving_view}
use Rattle.http2.specs.Serving.{ServingValue, remains_of}
use Rattle.http2.specs.Served.{answered, by_preface}
use Rattle.http2.proofs.Serves.{over_served}
use Rattle.http2.proofs.Begins.{first_empty, none_came, as_begun, next_of_preface, count_of_preface}
use Rattle.http2.proofs.server.Server.greet.Goals as goal

pub returns-clause-law : goal.returns-clause-law
returns-clause-law c = λ came sent took gave law.
    let old = c.args.self.now in
    let n : ℕ = c.min-count.result in
    let bytes : List ℕ = c.args.bytes.now in
    let none : law.later ≡ [] = law.behind c.requires.begins in
    let same : take n bytes ≡ take n (drop old.greeted preface) =
    next_of_preface n old.greeted c.as_slice-preface.result.now bytes c.as_slice-preface.ensures c.if-ne.ensures in
    record {
      later = [];
      trail = law.trail;
      arrived = ap₂ (λ (a b : List ℕ). a ++ b) (law.arrived ∙ ap (λ (t : List ℕ). take old.greeted preface ++ t) none ∙ append-nil (take old.greeted preface)) same
          ∙ sym (take-add old.greeted n preface) ∙ sym (append-nil (take (old.greeted + n) preface));
      behind = λ _. refl;
      law = subst (λ (t : List ℕ). Law law.trail t (preface ++ sent) took gave _) none law.law;
      is_served = law.is_served;
    }

pub returns-clause-other : goal.returns-clause-other
returns-clause-other c = λ differs.
    let old = c.args.self.now in
    let n : ℕ = c.min-count.result in
    let bytes : List ℕ = c.args.bytes.now in
    let said : List ℕ = c.as_slice-preface.result.now in
    let same : take n bytes ≡ take n (drop old.greeted preface) =
    next_of_preface n old.greeted said bytes c.as_slice-preface.ensures c.if-ne.ensures in
    let count : n ≡ min (length bytes) (24 - old.greeted) =
    count_of_preface n old.greeted said bytes c.as_slice-preface.ensures c.min-count.ensures in
    absurd (differs (subst (λ (k : ℕ). take k bytes ≡ take k (drop old.greeted preface)) count same))

pub returns-then-ne-clause-law : goal.returns-then-ne-clause-law
returns-then-ne-clause-law c = λ came sent took gave law.
    let old = c.args.self.now in
    let control : ServingValue = serving_view old.serving in
    let is = law.is_served in
    let none : bytes_got law.trail ≡ [] =
    first_empty (bytes_got law.trail) old.pipe.rest (sym law.law.arrived ∙ law.behind c.requires.begins) in
    let begun = as_begun law.trail control (answered law.trail) law.law.frames none (is.going c.requires.open) in
    c.tell.ensures.stays (came ++ []) sent took gave (record {
      later = law.later;
      trail = law.trail;
      arrived = append-nil came ∙ law.arrived;
      behind = law.behind;
      law = law.law;
      is_served = over_served law.trail control (unread old.pipe) (unread old.pipe) c.broke.result refl is.later is.whole is.said
          (by_preface (none_came law.trail law.law.frames none) (ap (λ (v : ServingValue). remains_of v) begun) c.broke.ensures);
    })
