use Rattle.std.proofs.Common.{◌≡◌, rules, chars, not, ap, sym, ◌∙◌}
use borrow.Author.Tests.{tests, eqb-true}
use Rattle.std.proofs.lemmas.Iterator.{YieldsList-from_chars}
use Rattle.std.proofs.lemmas.Iterator.Search.{all_from_yields_List}
use Rattle.lex_base.specs.References.{is_alphanumeric, without_semicolon}
use Rattle.lex_base.proofs.NameTests.{stripped, named, unnamed, some_chars, no_chars}
use Rattle.lex_base.proofs.table.is_name.Goals as goal

pub returns-then-not-is_empty : goal.returns-then-not-is_empty
returns-then-not-is_empty c =
    let chain = YieldsList-from_chars c.unwrap_or-word.result.now c.unwrap_or-word.utf8 c.chars.ensures.rest in
    let all =
    all_from_yields_List is_alphanumeric _ _ c.all.result c.all.ensures.ran chain
    (λ x b q k. search (rules, tests)) in
    let word : chars c.unwrap_or-word.result.now ≡ without_semicolon (chars c.args.text.now) =
    ap (λ w. chars w.now) c.unwrap_or-word.ensures ∙
    stripped c.args.text c.strip_suffix.result c.utf8.text c.strip_suffix.ensures.cases in
    named (chars c.args.text.now) (chars c.unwrap_or-word.result.now) c.all.result word all
    (some_chars c.unwrap_or-word.result.now c.unwrap_or-word.utf8 (sym c.is_empty.ensures ∙ c.if-not-is_empty.true))

pub returns-else-not-is_empty : goal.returns-else-not-is_empty
returns-else-not-is_empty c =
    let word : chars c.unwrap_or-word.result.now ≡ without_semicolon (chars c.args.text.now) =
    ap (λ w. chars w.now) c.unwrap_or-word.ensures ∙
    stripped c.args.text c.strip_suffix.result c.utf8.text c.strip_suffix.ensures.cases in
    ap not c.if-not-is_empty.false ∙ unnamed (chars c.args.text.now) (chars c.unwrap_or-word.result.now) word
    (no_chars c.unwrap_or-word.result.now (eqb-true _ 0 (sym c.is_empty.ensures ∙ c.if-not-is_empty.false)))
