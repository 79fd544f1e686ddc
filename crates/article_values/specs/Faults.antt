-- The first fault of a value, in the order in which it is written: a value before what it holds, and this before what
-- follows it.
use Rattle.std.specs.Prelude.{◌==◌, ◌||◌, ◌&&◌, [], ◌∷◌, Bool, List, None, Option, Some, false, nat_le, nat_lt, not}
use Rattle.std.specs.Prelude.{suc, true, ℕ}
use Rattle.std.specs.List.{list_any}
use Rattle.std.specs.Option.{option_or}
use Rattle.article_values.specs.Articles.{Blocks, Inlines, Items, bullets, division, heading, item, line_break, link}
use Rattle.article_values.specs.Articles.{no_blocks, no_inlines, no_items, numbers, paragraph, quote, span, words}
use Rattle.article_values.specs.declared.error.ArticleError.{ArticleError}
use Rattle.article_values.specs.declared.error.ArticleError.TheVariants.{BadLevel, EmptyList, EmptyText}
use Rattle.article_values.specs.declared.error.ArticleError.TheVariants.{ForbiddenCharacter, LinkInLink, NeighbourTexts}
use Rattle.article_values.specs.declared.error.ArticleError.TheVariants.{TooDeep}

-- the fault where the test holds, else what comes later
abbrev pub fault_where : Bool → ArticleError → Option ArticleError → Option ArticleError
fault_where true fault later = Some fault
fault_where false fault later = later

abbrev pub is_filled : {A : Type 0} → List A → Bool
is_filled [] = false
is_filled (x ∷ xs) = true

-- NUL and carriage return: no page gives them back
abbrev pub is_forbidden : ℕ → Bool
is_forbidden c = c == 0 || c == 13

abbrev pub has_forbidden : List ℕ → Bool
has_forbidden cs = list_any is_forbidden cs

-- The depth of a value is the number of values that stand in one another down to it, itself among them. Each block and
-- each inline is a value, also a text and a break; an item of a list is none.
abbrev pub is_too_deep : (depth : ℕ) → Bool
is_too_deep depth = nat_lt 256 depth

abbrev pub fault_of_inlines : (depth : ℕ) (in_link after_text : Bool) → Inlines → Option ArticleError
fault_of_inlines depth in_link after_text no_inlines = None
fault_of_inlines depth in_link after_text (words cs rest) =
    fault_where (not (is_filled cs)) EmptyText
    (fault_where after_text NeighbourTexts
    (fault_where (has_forbidden cs) ForbiddenCharacter
    (fault_where (is_too_deep depth) TooDeep
    (fault_of_inlines depth in_link true rest))))
fault_of_inlines depth in_link after_text (line_break rest) =
    fault_where (is_too_deep depth) TooDeep
    (fault_of_inlines depth in_link false rest)
fault_of_inlines depth in_link after_text (span style contents rest) =
    fault_where (is_too_deep depth) TooDeep
    (option_or (fault_of_inlines (suc depth) in_link false contents)
    (fault_of_inlines depth in_link false rest))
fault_of_inlines depth in_link after_text (link target contents rest) =
    fault_where (has_forbidden target) ForbiddenCharacter
    (fault_where in_link LinkInLink
    (fault_where (is_too_deep depth) TooDeep
    (option_or (fault_of_inlines (suc depth) true false contents)
    (fault_of_inlines depth in_link false rest))))

-- 1 to 6
abbrev pub is_level : ℕ → Bool
is_level level = nat_le 1 level && nat_le level 6

abbrev pub has_item : Items → Bool
has_item no_items = false
has_item (item its_blocks rest) = true

abbrev mutual
  pub fault_of_blocks : (depth : ℕ) → Blocks → Option ArticleError
  fault_of_blocks depth no_blocks = None
  fault_of_blocks depth (paragraph contents rest) =
      fault_where (is_too_deep depth) TooDeep
      (option_or (fault_of_inlines (suc depth) false false contents)
      (fault_of_blocks depth rest))
  fault_of_blocks depth (heading level contents rest) =
      fault_where (not (is_level level)) BadLevel
      (fault_where (is_too_deep depth) TooDeep
      (option_or (fault_of_inlines (suc depth) false false contents)
      (fault_of_blocks depth rest)))
  fault_of_blocks depth (division its_blocks rest) =
      fault_where (is_too_deep depth) TooDeep
      (option_or (fault_of_blocks (suc depth) its_blocks)
      (fault_of_blocks depth rest))
  fault_of_blocks depth (quote its_blocks rest) =
      fault_where (is_too_deep depth) TooDeep
      (option_or (fault_of_blocks (suc depth) its_blocks)
      (fault_of_blocks depth rest))
  fault_of_blocks depth (bullets its_items rest) =
      fault_where (not (has_item its_items)) EmptyList
      (fault_where (is_too_deep depth) TooDeep
      (option_or (fault_of_items (suc depth) its_items)
      (fault_of_blocks depth rest)))
  fault_of_blocks depth (numbers first its_items rest) =
      fault_where (not (has_item its_items)) EmptyList
      (fault_where (is_too_deep depth) TooDeep
      (option_or (fault_of_items (suc depth) its_items)
      (fault_of_blocks depth rest)))

  pub fault_of_items : (depth : ℕ) → Items → Option ArticleError
  fault_of_items depth no_items = None
  fault_of_items depth (item its_blocks rest) = option_or (fault_of_blocks depth its_blocks) (fault_of_items depth rest)

abbrev pub fault_of_title : Option (List ℕ) → Option ArticleError
fault_of_title None = None
fault_of_title (Some title) = fault_where (has_forbidden title) ForbiddenCharacter None

-- a title comes before all blocks, and a block that stands in no other is at depth 1
abbrev pub first_fault : (title : Option (List ℕ)) → Blocks → Option ArticleError
first_fault title blocks = option_or (fault_of_title title) (fault_of_blocks 1 blocks)
