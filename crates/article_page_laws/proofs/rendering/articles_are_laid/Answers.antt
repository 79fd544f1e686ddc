use Rattle.std.proofs.Common.{◌≡◌, false, [], ap, ◌∙◌}
use Rattle.article_definitions.specs.ArticleValues.{page_values}
use Rattle.article_page_laws.proofs.ArticlesRendered.{laid_as}
use Rattle.article_page_laws.proofs.rendering.articles_are_laid.Goals as goal
use Rattle.article_page_laws.specs.ArticlesLaid.{options_by}
use Rattle.article_page_laws.specs.Measures.{plain_sizing}
use Rattle.html_render_tree.specs.Lay.{laid_parts}
use Rattle.block_trait.specs.Renderers.{new_sub}
use Rattle.block_trait.specs.declared.options.RenderOptions.{RenderOptions}
use Rattle.text_block_renderer.specs.Parts.{whole_page}
use Rattle.text_block_renderer.specs.PlainText.{plain_marking}

kept : (given : RenderOptions) → given.allow_width_overflow ≡ false →
    given ≡ record given { allow_width_overflow = false }
kept given e = ap (λ b. record given { allow_width_overflow = b }) e

pub returns : goal.returns
returns f = λ c decorates width blocks fits wide filled.
    let o = options_by c decorates in
    laid_as c decorates width blocks
    (ap (λ (given : RenderOptions). laid_parts plain_marking (plain_sizing c.options o) (page_values o blocks)
    (whole_page (new_sub width given c.held []))) (kept c.options fits)
    ∙ f.values_of_a_page_are_its_calls.ensures c.options decorates c.min_wrap c.held width blocks filled)
    (f.calls_of_a_whole_article.ensures o width blocks) wide
