use Rattle.std.proofs.Common.{[], ◌∷◌, ◌++◌, ap, ◌∙◌, append_assoc, string_bytes}
use Rattle.std.proofs.lemmas.Result.{on_ok_weaker}
use Rattle.std.specs.Str.{chars}
use Rattle.test_fields.specs.Escapes.{field_of}
use Rattle.test_fields.proofs.lines.push_line.Goals as goal

pub returns : goal.returns
returns c =
    let old = chars (string_bytes c.args.lines.now) in
    let word = chars c.args.word.now in
    let field = 9 ∷ field_of (chars c.args.text.now) in
    on_ok_weaker c.end_line.result
    (λ last. last
    ∙ (ap (λ cs. cs ++ 10 ∷ []) (c.in_ok-push_field.ensures ∙ ap (λ cs. cs ++ field) c.in_ok-push_word.ensures)
    ∙ (append_assoc (old ++ word) field (10 ∷ []) ∙ append_assoc old word (field ++ 10 ∷ []))))
    c.end_line.ensures
