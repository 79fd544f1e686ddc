use Rattle.article_definitions.proofs.ShownOnce.{shown_once}
use Rattle.article_definitions.specs.Layouts.{wrap_at}
use Rattle.article_definitions.proofs.laws.visible_characters_once.Goals as goal

pub returns : goal.returns
returns c =
    λ o width s. shown_once (wrap_at o width) s.source
    (c.normal_lines_show_each_character.ensures (wrap_at o width) s.source)
