use Rattle.std.proofs.Common.{◌++◌, ap, ◌∙◌, chars, string_bytes}
use Rattle.std.specs.Prelude.{encode_utf8}
use Rattle.std.proofs.lemmas.Str.{chars-append, IsUtf8-string_bytes}
use Rattle.text_lines.proofs.Joins.{chars_of_one}
use Rattle.text_borders.proofs.border.push_character.Goals as goal

pub returns : goal.returns
returns c =
    let old = string_bytes c.args.text.now in
    ap chars c.in_ok-push.ensures.bytes
    ∙ chars-append old (encode_utf8 c.args.c) (IsUtf8-string_bytes c.args.text.now)
    ∙ ap (λ cs. chars old ++ cs) (chars_of_one c.args.c c.ranges.c.0)
