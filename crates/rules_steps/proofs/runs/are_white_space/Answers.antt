use Rattle.std.proofs.Common.{◌∙◌, chars, rules}
use borrow.Author.Tests.{tests}
use Rattle.std.proofs.lemmas.Iterator.{YieldsList-from_chars}
use Rattle.std.proofs.lemmas.Iterator.Search.{all_from_yields_List}
use Rattle.rules_table.specs.Rows.{is_white_space}
use Rattle.rules_steps.proofs.RunLemmas.{all_alike}
use Rattle.rules_steps.proofs.runs.are_white_space.Goals as goal

pub returns : goal.returns
returns c =
    let text = c.args.text.now in
    let chain = YieldsList-from_chars text c.utf8.text c.chars.ensures.rest in
    all_from_yields_List is_white_space _ _ c.all.result c.all.ensures.ran chain (λ x b q k. search (rules, tests))
    ∙ all_alike is_white_space (chars text)
