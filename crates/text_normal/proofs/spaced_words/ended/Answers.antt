use Rattle.std.proofs.Common.{refl, subst, chars, string_bytes}
use Rattle.std.proofs.lemmas.Str.{IsUtf8-had}
use Rattle.text_normal.specs.SpacedWords.{EndsVisibly}
use Rattle.text_normal.proofs.SpacedEnds.{space_after}
use Rattle.text_normal.proofs.spaced_words.ended.Goals as goal

pub returns : goal.returns
returns c =
    space_after (string_bytes c.args.text) (string_bytes c.push.new.self)
    (IsUtf8-had (string_bytes c.args.text) c.args.text.ok) (subst (λ bs. EndsVisibly (chars bs)) c.as_str.ensures.value
    (c.ends_visibly.ensures c.if-not-ends_visibly.false)) c.in_ok-push.ensures.bytes refl
