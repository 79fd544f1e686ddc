use Rattle.article_definitions.proofs.Exchanged.{whole_exchange}
use Rattle.article_definitions.proofs.Narrow.{is_wide}
use Rattle.article_definitions.proofs.ShownOnce.{shows_text}
use Rattle.article_definitions.specs.Layouts.{notes}
use Rattle.article_definitions.proofs.laws.exchange.Goals as goal

pub returns : goal.returns
returns c = λ o width n a b ls ms d p q.
    whole_exchange o n (λ w s _ k. shows_text w s (c.normal_lines_show_each_character.ensures w s) k)
    (notes o width) width a b
    ls ms d (is_wide o width a ls p) (is_wide o width b ms q)
