use Rattle.std.proofs.Common.{false, not, sym, ap, ◌∙◌, map}
use Rattle.std.proofs.lemmas.Option.{none-some}
use Rattle.std.proofs.lemmas.Result.{IfOk-weaker}
use Rattle.article_definitions.specs.Layouts.{article_lines, stretch_lines, wrap_at}
use Rattle.article_layout.specs.Seen.{emitted_of}
use Rattle.article_layout.specs.Settings.{options_of}
use Rattle.article_values.specs.Views.{blocks_view}
use Rattle.text_normal.specs.Letters.{letters_of}
use Rattle.article_layout.proofs.ExchangedLines.{exchanged}
use Rattle.article_layout.proofs.layout.lay_article.Goals as goal

pub returns-clause-shown : goal.returns-clause-shown
returns-clause-shown c = λ columns s. c.visible_characters_once.ensures (options_of c.args.options) columns s

pub returns-clause-fewest : goal.returns-clause-fewest
returns-clause-fewest c = λ columns s layout marker wide legal.
    let w = wrap_at (options_of c.args.options) columns in
    c.fewest_lines.ensures w false (letters_of s.source)
    (stretch_lines (options_of c.args.options) columns s) layout
    (c.normal_lines_are_fullest.ensures w false s.source marker (ap (λ b. not b) wide)) legal

pub returns-clause-exchange : goal.returns-clause-exchange
returns-clause-exchange c = λ n changed ms differ found.
    let o = options_of c.args.options in
    IfOk-weaker c.laid_article.result _ _ (λ lines h. exchanged n
    (article_lines o c.args.width (blocks_view c.args.blocks.now)) (map emitted_of lines.items) ms h
    (λ ls e. c.exchange.ensures o c.args.width n (blocks_view c.args.blocks.now) changed ls ms differ e found))
    c.laid_article.ensures.lines

pub returns-clause-paragraphs : goal.returns-clause-paragraphs
returns-clause-paragraphs c = λ room all e.
    let lines = c.paragraphs_are_never_refused.ensures (options_of c.args.options) c.args.width
    (blocks_view c.args.blocks.now) room all in
    none-some lines.0 (sym (c.laid_article.ensures.narrow e) ∙ lines.1)
