use Rattle.std.proofs.Common.{rules}
use borrow.Author.Tests.{tests}
use Rattle.std.proofs.lemmas.Iterator.{YieldsList-from_chars}
use Rattle.std.proofs.lemmas.Iterator.Search.{any_from_yields_List}
use Rattle.text_wrapping.specs.Blocks.{is_visible}
use Rattle.text_wrapping.proofs.showing.has_visible_character.Goals as goal

pub returns : goal.returns
returns c =
    let text = c.args.text.now in
    let chain = YieldsList-from_chars text c.utf8.text c.chars.ensures.rest in
    any_from_yields_List is_visible _ _ c.any.result c.any.ensures.ran chain (λ x b q k. search (rules, tests))
