-- What a check says.
use Rattle.std.specs.Prelude.{Bool, true, false, Option, None, Some, Result, Ok, Err}
use Rattle.article_values.specs.Articles.{Inlines, line_break, link, no_inlines, span, words}
use Rattle.article_values.specs.Faults.{first_fault}
use Rattle.article_values.specs.Views.{ArticleParts, blocks_view}
use Rattle.article_values.specs.declared.error.ArticleError.{ArticleError}

-- the fault that a result names, and none where it succeeded
abbrev pub fault_met : {A : Type 0} → Result A ArticleError → Option ArticleError
fault_met (Ok value) = None
fault_met (Err fault) = Some fault

abbrev pub begins_with_text : Inlines → Bool
begins_with_text no_inlines = false
begins_with_text (words cs rest) = true
begins_with_text (line_break rest) = false
begins_with_text (span style contents rest) = false
begins_with_text (link target contents rest) = false

abbrev pub fault_of_article : ArticleParts → Option ArticleError
fault_of_article article = first_fault article.title (blocks_view article.blocks)
