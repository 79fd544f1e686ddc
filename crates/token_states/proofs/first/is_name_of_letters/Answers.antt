use Rattle.std.proofs.Common.{rules, length, chars, not, sym, ap, ◌∙◌}
use borrow.Author.Tests.{tests}
use Rattle.std.proofs.lemmas.Bool.{eqb-true}
use Rattle.std.proofs.lemmas.Iterator.{YieldsList-from_chars}
use Rattle.std.proofs.lemmas.Iterator.Search.{all_from_yields_List}
use Rattle.std.specs.List.{list_all}
use Rattle.lex_base.specs.References.{is_between}
use Rattle.token_states.proofs.EndTagLemmas.{no_name, some_name}
use Rattle.token_states.proofs.first.is_name_of_letters.Goals as goal

pub returns-then-not-is_empty : goal.returns-then-not-is_empty
returns-then-not-is_empty c =
    let name = c.args.name.now in
    let chain = YieldsList-from_chars name c.utf8.name c.chars.ensures.rest in
    all_from_yields_List (is_between 97 122) _ _ c.all.result c.all.ensures.ran chain (λ x b q k. search (rules, tests))
    ∙ some_name name (list_all (is_between 97 122) (chars name)) c.utf8.name
    (sym c.is_empty.ensures ∙ c.if-not-is_empty.true)

pub returns-else-not-is_empty : goal.returns-else-not-is_empty
returns-else-not-is_empty c =
    let name = c.args.name.now in
    ap not c.if-not-is_empty.false ∙ no_name name (list_all (is_between 97 122) (chars name))
    (eqb-true (length name) 0 (sym c.is_empty.ensures ∙ c.if-not-is_empty.false))
