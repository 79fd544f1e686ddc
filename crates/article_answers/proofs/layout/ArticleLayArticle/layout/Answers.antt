use Rattle.std.proofs.Common.{ap, ◌∙◌, Err}
use Rattle.article_answers.proofs.EmittedLines.{same_error, emitted_answer, emitted_narrow}
use Rattle.article_answers.proofs.layout.ArticleLayArticle.layout.Goals as goal
use Rattle.article_answers.specs.ArticleAnswers.{options_for}
use Rattle.article_layout.specs.Settings.{options_of}
use Rattle.article_values.specs.Views.{blocks_view}
use Rattle.page_config.specs.Settings.{bare_setting}
use Rattle.page_config.specs.declared.error.Error.TheVariants as errors

pub returns-in-Ok-clause-page : goal.returns-in-Ok-clause-page
returns-in-Ok-clause-page c = λ bytes answer is utf8 text has.
    let setting = bare_setting c.args.config.now in
    let blocks = blocks_view c.args.self.now.blocks in
    let title = c.args.self.now.title in
    c.an_article_is_laid_out_as_itself.ensures setting c.args.width title blocks bytes answer is (record {
      faultless = c.blocks-2.ensures.faultless;
      numbers = c.first_numbers_fit.ensures c.args.self.now.blocks;
      utf8 = utf8;
      text = text;
    }) has
    ∙ emitted_answer (options_for setting) (options_of c.line_options-options.result) c.args.width blocks
    (blocks_view c.blocks-2.result.now) c.in-Ok.lines.items c.line_options-options.ensures
    (ap blocks_view c.blocks-2.ensures.blocks) c.in-Ok.ensures.lines

pub returns-in-Err-clause-narrow_page : goal.returns-in-Err-clause-narrow_page
returns-in-Err-clause-narrow_page c = λ refused bytes answer is utf8 text has.
    let setting = bare_setting c.args.config.now in
    let blocks = blocks_view c.args.self.now.blocks in
    let title = c.args.self.now.title in
    c.an_article_is_laid_out_as_itself.ensures setting c.args.width title blocks bytes answer is (record {
      faultless = c.blocks-2.ensures.faultless;
      numbers = c.first_numbers_fit.ensures c.args.self.now.blocks;
      utf8 = utf8;
      text = text;
    }) has
    ∙ emitted_narrow (options_for setting) (options_of c.line_options-options.result) c.args.width blocks
    (blocks_view c.blocks-2.result.now) c.line_options-options.ensures (ap blocks_view c.blocks-2.ensures.blocks)
    (c.in-Err.ensures.narrow (ap Err (c.refusal.ensures.narrow (same_error c.refusal.result errors.TooNarrow refused))))
