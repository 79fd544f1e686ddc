use Rattle.std.proofs.Common.{◌++◌, ◌∙◌, ap, chars, string_bytes, sym}
use Rattle.std.proofs.lemmas.Result.{on_ok_weaker}
use Rattle.std.proofs.lemmas.Str.{IsUtf8-string_bytes, chars-append}
use Rattle.std.specs.Char.{encode_utf8}
use Rattle.text_lines.proofs.Joins.{chars_of_one}
use Rattle.text_footnotes.proofs.PrintableLemmas.{escaped_character, escapes, kept_character}
use Rattle.text_footnotes.proofs.printable.push_printable.Goals as goal

pub returns-then-is_unprintable : goal.returns-then-is_unprintable
returns-then-is_unprintable c =
    on_ok_weaker c.push_escapes.result (λ h. h ∙ ap (λ l. chars (string_bytes c.args.text.now) ++ l)
    (ap escapes (c.as_bytes.ensures.value ∙ c.encode_utf8.ensures.value)
    ∙ sym (escaped_character c.args.c (sym c.is_unprintable.ensures ∙ c.if-is_unprintable.true))))
    c.push_escapes.ensures

pub returns : goal.returns
returns c =
    let old = string_bytes c.args.text.now in
    ap chars c.in_ok-push.ensures.bytes
    ∙ chars-append old (encode_utf8 c.args.c) (IsUtf8-string_bytes c.args.text.now)
    ∙ ap (λ l. chars old ++ l) (chars_of_one c.args.c c.ranges.c.0
    ∙ sym (kept_character c.args.c (sym c.is_unprintable.ensures ∙ c.if-is_unprintable.false)))
