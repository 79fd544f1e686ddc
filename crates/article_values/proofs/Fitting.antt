-- No fault of a value is allocation failure.
use Rattle.std.proofs.Common.{◌≡◌, ℕ, suc, not, Bool, true, false, Option, None, Some}
use Rattle.std.specs.Option.{option_or}
use Rattle.article_values.specs.Articles.{Blocks, Inlines, Items, bullets, division, heading, item, line_break, link}
use Rattle.article_values.specs.Articles.{no_blocks, no_inlines, no_items, numbers, paragraph, quote, span, words}
use Rattle.article_values.specs.Faults.{fault_of_blocks, fault_of_inlines, fault_of_items, fault_where, has_forbidden}
use Rattle.article_values.specs.Faults.{has_item, is_filled, is_level, is_too_deep}
use Rattle.article_values.specs.declared.error.ArticleError.{ArticleError}
use Rattle.article_values.specs.declared.error.ArticleError.TheVariants.{BadLevel, EmptyList, EmptyText}
use Rattle.article_values.specs.declared.error.ArticleError.TheVariants.{ForbiddenCharacter, LinkInLink, Memory}
use Rattle.article_values.specs.declared.error.ArticleError.TheVariants.{NeighbourTexts, TooDeep}

abbrev Fits : Option ArticleError → Type 0
Fits fault = fault ≡ Some Memory → ⊥

fits_where : (test : Bool) (fault : ArticleError) (later : Option ArticleError) → (fault ≡ Memory → ⊥) → Fits later →
    Fits (fault_where test fault later)
fits_where true fault later other h e = other (cc)
fits_where false fault later other h e = h e

fits_or : (first second : Option ArticleError) → Fits first → Fits second → Fits (option_or first second)
fits_or None second f g = g
fits_or (Some fault) second f g = f

deep : (depth : ℕ) (later : Option ArticleError) → Fits later → Fits (fault_where (is_too_deep depth) TooDeep later)
deep depth later h = fits_where (is_too_deep depth) TooDeep later (λ e. cc) h

inlines_fit : (depth : ℕ) (in_link after_text : Bool) (inlines : Inlines) →
    Fits (fault_of_inlines depth in_link after_text inlines)
inlines_fit depth in_link after_text no_inlines = λ e. cc
inlines_fit depth in_link after_text (words cs rest) =
    fits_where (not (is_filled cs)) EmptyText _ (λ e. cc)
    (fits_where after_text NeighbourTexts _ (λ e. cc)
    (fits_where (has_forbidden cs) ForbiddenCharacter _ (λ e. cc)
    (deep depth _ (inlines_fit depth in_link true rest))))
inlines_fit depth in_link after_text (line_break rest) = deep depth _ (inlines_fit depth in_link false rest)
inlines_fit depth in_link after_text (span style contents rest) =
    deep depth _ (fits_or _ _ (inlines_fit (suc depth) in_link false contents) (inlines_fit depth in_link false rest))
inlines_fit depth in_link after_text (link target contents rest) =
    fits_where (has_forbidden target) ForbiddenCharacter _ (λ e. cc)
    (fits_where in_link LinkInLink _ (λ e. cc)
    (deep depth _
    (fits_or _ _ (inlines_fit (suc depth) true false contents) (inlines_fit depth in_link false rest))))

mutual
  pub blocks_fit : (depth : ℕ) (blocks : Blocks) → Fits (fault_of_blocks depth blocks)
  blocks_fit depth no_blocks = λ e. cc
  blocks_fit depth (paragraph contents rest) =
      deep depth _ (fits_or _ _ (inlines_fit (suc depth) false false contents) (blocks_fit depth rest))
  blocks_fit depth (heading level contents rest) =
      fits_where (not (is_level level)) BadLevel _ (λ e. cc)
      (deep depth _ (fits_or _ _ (inlines_fit (suc depth) false false contents) (blocks_fit depth rest)))
  blocks_fit depth (division its_blocks rest) =
      deep depth _ (fits_or _ _ (blocks_fit (suc depth) its_blocks) (blocks_fit depth rest))
  blocks_fit depth (quote its_blocks rest) =
      deep depth _ (fits_or _ _ (blocks_fit (suc depth) its_blocks) (blocks_fit depth rest))
  blocks_fit depth (bullets its_items rest) =
      fits_where (not (has_item its_items)) EmptyList _ (λ e. cc)
      (deep depth _ (fits_or _ _ (items_fit (suc depth) its_items) (blocks_fit depth rest)))
  blocks_fit depth (numbers first its_items rest) =
      fits_where (not (has_item its_items)) EmptyList _ (λ e. cc)
      (deep depth _ (fits_or _ _ (items_fit (suc depth) its_items) (blocks_fit depth rest)))

  items_fit : (depth : ℕ) (items : Items) → Fits (fault_of_items depth items)
  items_fit depth no_items = λ e. cc
  items_fit depth (item its_blocks rest) = fits_or _ _ (blocks_fit depth its_blocks) (items_fit depth rest)
