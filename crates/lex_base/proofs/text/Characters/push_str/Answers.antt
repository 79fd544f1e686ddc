use Rattle.std.proofs.Common.{◌++◌, chars, string_bytes, ap, ◌∙◌, sym}
use Rattle.std.proofs.lemmas.Str.{chars-append, IsUtf8-string_bytes}
use Rattle.lex_base.specs.Texts.{utf8_of}
use Rattle.lex_base.proofs.text.Characters.push_str.Goals as goal

pub returns-then-more-kept-clause-ok : goal.returns-then-more-kept-clause-ok
returns-then-more-kept-clause-ok c = ap chars c.in_ok-joined-in-Short.ensures
    ∙ (chars-append _ _ c.as_str-kept.utf8 ∙ ap (λ l. chars l ++ chars c.args.more.now)
    (c.as_str-kept.ensures.value ∙ sym (ap utf8_of c.in-Short.is)))

pub returns-else-more-kept-clause-ok : goal.returns-else-more-kept-clause-ok
returns-else-more-kept-clause-ok c = ap chars (c.push_str.ensures.bytes
    ∙ ap (λ l. l ++ c.args.more.now) (sym c.as_str-kept.ensures.value))
    ∙ (chars-append _ _ c.as_str-kept.utf8 ∙ ap (λ l. chars l ++ chars c.args.more.now)
    (c.as_str-kept.ensures.value ∙ sym (ap utf8_of c.in-Short.is)))

pub returns-in_ok-push_str-in-Long-clause-ok : goal.returns-in_ok-push_str-in-Long-clause-ok
returns-in_ok-push_str-in-Long-clause-ok c = ap chars c.in_ok-push_str-in-Long.ensures.bytes
    ∙ (chars-append _ c.args.more.now (IsUtf8-string_bytes c.in-Long.text) ∙ ap (λ l. chars l ++ chars c.args.more.now)
    (sym (ap utf8_of c.in-Long.is)))
