use Rattle.std.proofs.Common.{◌++◌, ap, ◌∙◌, chars}
use Rattle.std.proofs.lemmas.Result.{on_ok_weaker}
use Rattle.text_lines.proofs.Joins.{chars_of_one}
use Rattle.text_lines.specs.Elements.{elements_items, tagged}
use Rattle.text_lines.proofs.joining.push_character.Goals as goal

pub returns-else-ends_with_tag-clause-ok : goal.returns-else-ends_with_tag-clause-ok
returns-else-ends_with_tag-clause-ok g c =
    let one = ap chars c.encode_utf8.ensures.value ∙ chars_of_one c.args.c c.ranges.c.0 in
    on_ok_weaker c.push_new.result (λ h. h ∙ ap (λ cs. elements_items g.T.EqualCopy.seen c.args.elements.now.items
    ++ tagged cs (g.T.EqualCopy.seen c.args.tag.now)) one) c.push_new.ensures.ok
