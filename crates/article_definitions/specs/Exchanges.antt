-- Articles that differ in one text, and lines that differ in one paragraph.
use Rattle.std.specs.Prelude.{◌≡◌, ◌+◌, ◌==◌, [], ◌∷◌, ◌++◌, Bool, List, None, Option, Some, false, filter, not, suc}
use Rattle.std.specs.Prelude.{true, ℕ, ℤ}
use Rattle.std.specs.Char.{is_whitespace}
use Rattle.article_values.specs.Articles.{Blocks, Inlines, Items, Style, bullets, division, heading, item, line_break}
use Rattle.article_values.specs.Articles.{link, numbers, paragraph, quote, span, words}
use Rattle.article_definitions.specs.Layouts.{Line, count, count_items, has_content}
use Rattle.article_definitions.specs.Showing.{is_visible}

-- a character of at least one column that is no white space of std's
abbrev pub HasVisible : List ℕ → Type 0
HasVisible cs = (front : List ℕ) × (c : ℕ) × (back : List ℕ) × (cs ≡ front ++ c ∷ back) × ((is_whitespace c ≡ false)
    × (is_visible c ≡ true))

pub data DifferInline : Inlines → Inlines → Type 0 where
  this_text : (cs ds : List ℕ) (rest : Inlines) → HasVisible cs → HasVisible ds →
      DifferInline (words cs rest) (words ds rest)
  after_text : (cs : List ℕ) (a b : Inlines) → DifferInline a b → DifferInline (words cs a) (words cs b)
  after_break : (a b : Inlines) → DifferInline a b → DifferInline (line_break a) (line_break b)
  in_span : (style : Style) (a b rest : Inlines) → DifferInline a b →
      DifferInline (span style a rest) (span style b rest)
  after_span : (style : Style) (kids a b : Inlines) → DifferInline a b →
      DifferInline (span style kids a) (span style kids b)
  in_link : (target : List ℕ) (a b rest : Inlines) → DifferInline a b →
      DifferInline (link target a rest) (link target b rest)
  after_link : (target : List ℕ) (kids a b : Inlines) → DifferInline a b →
      DifferInline (link target kids a) (link target kids b)

-- in the paragraph with a number, where so many stand before
mutual
  pub data Differ (n : ℕ) : ℕ → Blocks → Blocks → Type 0 where
    this_paragraph : (a b : Inlines) (rest : Blocks) → DifferInline a b →
        Differ n n (paragraph a rest) (paragraph b rest)
    this_heading : (level : ℕ) (a b : Inlines) (rest : Blocks) → DifferInline a b →
        Differ n n (heading level a rest) (heading level b rest)
    after_paragraph : (k : ℕ) (is : Inlines) (a b : Blocks) → Differ n (suc k) a b →
        Differ n k (paragraph is a) (paragraph is b)
    after_heading : (k level : ℕ) (is : Inlines) (a b : Blocks) → Differ n (suc k) a b →
        Differ n k (heading level is a) (heading level is b)
    in_division : (k : ℕ) (a b rest : Blocks) → Differ n k a b → Differ n k (division a rest) (division b rest)
    after_division : (k : ℕ) (kids a b : Blocks) → Differ n (k + count kids) a b →
        Differ n k (division kids a) (division kids b)
    in_quote : (k : ℕ) (a b rest : Blocks) → Differ n k a b → Differ n k (quote a rest) (quote b rest)
    after_quote : (k : ℕ) (kids a b : Blocks) → Differ n (k + count kids) a b →
        Differ n k (quote kids a) (quote kids b)
    in_bullets : (k : ℕ) (a b : Items) (rest : Blocks) → DifferItems n k a b →
        Differ n k (bullets a rest) (bullets b rest)
    after_bullets : (k : ℕ) (items : Items) (a b : Blocks) → Differ n (k + count_items items) a b →
        Differ n k (bullets items a) (bullets items b)
    in_numbers : (k : ℕ) (first : ℤ) (a b : Items) (rest : Blocks) → DifferItems n k a b →
        Differ n k (numbers first a rest) (numbers first b rest)
    after_numbers : (k : ℕ) (first : ℤ) (items : Items) (a b : Blocks) → Differ n (k + count_items items) a b →
        Differ n k (numbers first items a) (numbers first items b)

  pub data DifferItems (n : ℕ) : ℕ → Items → Items → Type 0 where
    in_item : (k : ℕ) (a b : Blocks) (rest : Items) → Differ n k a b → DifferItems n k (item a rest) (item b rest)
    after_item : (k : ℕ) (kids : Blocks) (a b : Items) → DifferItems n (k + count kids) a b →
        DifferItems n k (item kids a) (item kids b)

-- the lines that are not of a paragraph
abbrev pub is_number : ℕ → Option ℕ → Bool
is_number n None = false
is_number n (Some k) = k == n

abbrev pub others : ℕ → List Line → List Line
others n lines = filter (λ l. not (is_number n l.number)) lines

-- lines all of a paragraph, some of them with content
pub record IsParagraph (n : ℕ) (lines : List Line) : Type 0 where
  pub all : others n lines ≡ []
  pub shows : has_content lines ≡ true

-- the same lines, but for those of one paragraph
pub data Alike (n : ℕ) : List Line → List Line → Type 0 where
  no_lines : Alike n [] []
  same_line : (l : Line) (ls ms : List Line) → Alike n ls ms → Alike n (l ∷ ls) (l ∷ ms)
  changed : (xs ys ls ms : List Line) → IsParagraph n xs → IsParagraph n ys → Alike n ls ms →
      Alike n (xs ++ ls) (ys ++ ms)
