use Rattle.std.proofs.Common.{◌++◌, ap, ◌∙◌, chars, string_bytes}
use Rattle.std.proofs.lemmas.Str.{chars-append, IsUtf8-string_bytes}
use Rattle.text_borders.proofs.SegmentLemmas.{glyph_pushed, rule_bytes, rule_pushed, rule_spelt}
use Rattle.text_borders.proofs.border.push_next.Goals as goal

pub returns-in-Some-clause-text : goal.returns-in-Some-clause-text
returns-in-Some-clause-text c =
    let old = string_bytes c.args.text.now in
    rule_pushed (chars old) (chars (string_bytes c.push_str.new.self)) c.args.first.now c.args.others.now
    c.in-Some.left.now
    (ap chars c.in_ok-push_str.ensures.bytes
    ∙ chars-append old rule_bytes (IsUtf8-string_bytes c.args.text.now)
    ∙ ap (λ cs. chars old ++ cs) rule_spelt) c.in-Some.ensures.rule

pub returns-clause-text : goal.returns-clause-text
returns-clause-text c =
    glyph_pushed (chars (string_bytes c.args.text.now)) (chars (string_bytes c.push_character.new.text))
    c.args.first.now c.args.others.now c.glyph.result c.in_ok-push_character.ensures c.glyph.ensures
