use Rattle.std.proofs.Common.{[], map, refl}
use Rattle.http_front.specs.Parts.{field_view}
use Rattle.http_front.proofs.SpelledAsks.{spelled_bad_back, spelled_broken, spelled_sound, spelled_texts, spelled_texts_or}
use Rattle.http_front.proofs.spelled.Spelled.fault.Goals as goal

pub returns-then-not-are_texts-2-clause-fault : goal.returns-then-not-are_texts-2-clause-fault
returns-then-not-are_texts-2-clause-fault c =
    let s = c.args.self.now in
    spelled_bad_back s.method.now s.target.now s.is_http11 (map field_view s.front.now) (map field_view s.back.now)
    c.if-not-are_texts-2.ensures.others

pub returns-clause-sound : goal.returns-clause-sound
returns-clause-sound c =
    let s = c.args.self.now in
    let front = map field_view s.front.now in
    let back = map field_view s.back.now in
    let texts = spelled_texts s.method.now s.target.now s.is_http11 front back c.requires.shape
    c.if-not-are_texts.ensures.texts c.if-not-are_texts-2.ensures.texts in
    let lines = c.fault.ensures.sound _ (c.add_lines-2.ensures _ (c.add_lines.ensures [] c.none-framing.ensures)) in
    spelled_sound s.method.now s.target.now s.is_http11 front back c.fault.result texts
    (c.if-not-is_origin_form.ensures.0 refl) lines

pub returns-clause-texts : goal.returns-clause-texts
returns-clause-texts c =
    let s = c.args.self.now in
    let front = map field_view s.front.now in
    let back = map field_view s.back.now in
    spelled_texts_or s.method.now s.target.now s.is_http11 front back c.fault.result
    (spelled_texts s.method.now s.target.now s.is_http11 front back c.requires.shape
    c.if-not-are_texts.ensures.texts c.if-not-are_texts-2.ensures.texts)

pub returns-clause-fault : goal.returns-clause-fault
returns-clause-fault c =
    let s = c.args.self.now in
    spelled_broken s.method.now s.target.now s.is_http11 (map field_view s.front.now) (map field_view s.back.now)
    c.fault.result
    (c.fault.ensures.fault _ (c.add_lines-2.ensures _ (c.add_lines.ensures [] c.none-framing.ensures)))
