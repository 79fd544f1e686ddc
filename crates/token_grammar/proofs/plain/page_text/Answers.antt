use Rattle.std.proofs.Common.{◌∙◌, ap, ◌++◌}
use Rattle.std.specs.Str.{chars}
use Rattle.std.proofs.lemmas.Str.{chars-nil}
use Rattle.html_lexemes.specs.LineEnds.{lines_ended}
use Rattle.token_grammar.proofs.plain.page_text.Goals as goal

pub characters-init : goal.characters-init
characters-init c = record {
  text = c.without_mark_if-rest.utf8;
  so_far = ap (λ l. chars l ++ lines_ended (chars c.without_mark_if-rest.result.now)) c.new-page.ensures.bytes
      ∙ (ap (λ l. l ++ lines_ended (chars c.without_mark_if-rest.result.now)) chars-nil ∙
      ap lines_ended c.without_mark_if-rest.ensures);
}
