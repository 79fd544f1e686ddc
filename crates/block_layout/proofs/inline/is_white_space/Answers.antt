use Rattle.std.proofs.Common.{rules}
use borrow.Author.Tests.{tests}
use Rattle.std.specs.Char.{is_whitespace}
use Rattle.std.proofs.lemmas.Iterator.{YieldsList-from_chars}
use Rattle.std.proofs.lemmas.Iterator.Search.{all_from_yields_List}
use Rattle.block_layout.proofs.inline.is_white_space.Goals as goal

pub returns : goal.returns
returns c =
    let text = c.args.text.now in
    let chain = YieldsList-from_chars text c.utf8.text c.chars.ensures.rest in
    all_from_yields_List is_whitespace _ _ c.all.result c.all.ensures.ran chain (λ x b q k. search (rules, tests))
