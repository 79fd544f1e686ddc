-- The least width that an article's values ask for is the one that the article does.
use Rattle.std.proofs.Common.{◌≡◌, ◌+◌, ◌-◌, [], ◌∷◌, if◌then◌else◌, ◌∙◌, Bool, List, None, Some, ap, arith, codes}
use Rattle.std.proofs.Common.{false, max, refl, suc, sym, true, ℕ, ℤ}
use Rattle.article_definitions.specs.ArticleValues.{link_before, marked, style_info, text_before, values_of_blocks}
use Rattle.article_definitions.specs.ArticleValues.{values_of_inlines, values_of_items}
use Rattle.article_definitions.specs.Layouts.{Options, all_shallow, how_many, least_in, least_of, least_of_items}
use Rattle.article_definitions.specs.Layouts.{least_text, mark_of, room_of_numbers}
use Rattle.article_values.specs.Articles.{Blocks, Inlines, Items, Style, bold, bullets, code, division, emphasis}
use Rattle.article_values.specs.Articles.{heading, italic, item, line_break, link, no_blocks, no_inlines, no_items}
use Rattle.article_values.specs.Articles.{numbers, paragraph, quote, span, strong, words}
use Rattle.layout_state.specs.Items.{number_after}
use Rattle.render_sizes.specs.Extents.{Measure, capped, extent, extent_of, number}
use Rattle.render_values.specs.Plain.{plain_head}
use Rattle.render_values.specs.Values.{Values, joined, none, value}
use Rattle.text_lines.specs.Columns.{text_columns}
use Rattle.article_page_laws.specs.Measures.{plain_measure}
use Rattle.article_page_laws.proofs.Prefixes.{both, heading_columns_are, item_columns_are, quote_columns_are}

pub number_of_items : (o : Options) (items : Items) → number (values_of_items o items) ≡ how_many items
number_of_items o no_items = refl
number_of_items o (item kids rest) = ap suc (number_of_items o rest)

pub bullet_columns : text_columns (codes "* ") ≡ 2
bullet_columns = item_columns_are None

module _ (o : Options) where
  -- what plain text measures values by
  abbrev pub by : Measure
  by = plain_measure o

  abbrev pub least : Values → ℕ
  least vs = (extent by vs).least

  none_beside : (n : ℕ) → max 0 n ≡ n
  none_beside n = omega arith

  least_joined : (xs ys : Values) → least (joined xs ys) ≡ max (least xs) (least ys)
  least_joined none ys = sym (none_beside (least ys))
  least_joined (value head inside rest) ys =
      let one : ℕ = (extent_of by head inside).least in
      ap (λ n. max one n) (least_joined rest ys) ∙ omega arith

  least_before : (cs : List ℕ) (rest : Values) → least (text_before cs rest) ≡ max (least_text o cs) (least rest)
  least_before [] rest = omega arith
  least_before (c ∷ cs) rest = refl

  marked_by : (m k n : ℕ) → n ≡ max m (max k (max m 0)) → n ≡ max m k
  marked_by m k n e = omega (arith, e)

  least_marked : (mark : List ℕ) (inside : Values) → least (marked mark inside) ≡ max (least_text o mark) (least inside)
  least_marked mark inside =
      marked_by (least_text o mark) (least inside) (least (marked mark inside))
      (least_before mark (joined inside (text_before mark none))
      ∙ ap (λ n. max (least_text o mark) n) (least_joined inside (text_before mark none)
      ∙ ap (λ n. max (least inside) n) (least_before mark none)))

  least_styled : (style : Style) (inside : Values) →
      (extent_of by (plain_head (style_info style)) inside).least ≡ least inside
  least_styled bold inside = refl
  least_styled italic inside = refl
  least_styled emphasis inside = refl
  least_styled code inside = refl
  least_styled strong inside = refl

  least_linked : (shallow : Bool) (target : List ℕ) (inside rest : Values) →
      least (link_before shallow target inside rest) ≡ max (if shallow then 0 else least inside) (least rest)
  least_linked true target inside rest = sym (none_beside (least rest))
  least_linked false target inside rest = refl

  spanned : (m k r a b : ℕ) → a ≡ max m k → b ≡ r → max a b ≡ max m (max k r)
  spanned m k r a b e h = omega (arith, e, h)

  pub least_of_inlines : (is : Inlines) → least (values_of_inlines o is) ≡ least_in o is
  least_of_inlines no_inlines = refl
  least_of_inlines (words cs rest) =
      least_before cs (values_of_inlines o rest) ∙ ap (λ n. max (least_text o cs) n) (least_of_inlines rest)
  least_of_inlines (line_break rest) = ap (λ n. max 1 n) (least_of_inlines rest)
  least_of_inlines (span style kids rest) =
      let mark : List ℕ = mark_of o style in
      let inside : Values = marked mark (values_of_inlines o kids) in
      spanned (least_text o mark) (least_in o kids) (least_in o rest)
      (extent_of by (plain_head (style_info style)) inside).least (least (values_of_inlines o rest))
      (least_styled style inside ∙ least_marked mark (values_of_inlines o kids)
      ∙ ap (λ n. max (least_text o mark) n) (least_of_inlines kids))
      (least_of_inlines rest)
  least_of_inlines (link target kids rest) =
      least_linked (all_shallow o kids) target (values_of_inlines o kids) (values_of_inlines o rest)
      ∙ both (λ k r. max (if all_shallow o kids then 0 else k) r) (least_of_inlines kids) (least_of_inlines rest)

  -- the columns of a list's numbers
  pub numbers_columns : (first : ℤ) (n : ℕ) → by.prefixes.numbers first n ≡ room_of_numbers first n
  numbers_columns first n = both max (item_columns_are (Some first)) (item_columns_are (Some (number_after first
      (n - 1))))

  mutual
    pub least_of_values : (blocks : Blocks) → least (values_of_blocks o blocks) ≡ least_of o blocks
    least_of_values no_blocks = refl
    least_of_values (paragraph is rest) = both max (least_of_inlines is) (least_of_values rest)
    least_of_values (heading level is rest) =
        both (λ n r. max (capped n) r) (both (λ k n. k + n) (least_of_inlines is) (heading_columns_are level))
        (least_of_values rest)
    least_of_values (division kids rest) = both max (least_of_values kids) (least_of_values rest)
    least_of_values (quote kids rest) =
        both (λ n r. max (capped n) r) (both (λ k n. k + n) (least_of_values kids) quote_columns_are)
        (least_of_values rest)
    least_of_values (bullets items rest) =
        both (λ n r. max (capped n) r) (both (λ k n. k + n) (least_of_item_values items) bullet_columns)
        (least_of_values rest)
    least_of_values (numbers first items rest) =
        both (λ n r. max (capped n) r) (both (λ k n. k + n) (least_of_item_values items)
        (ap (by.prefixes.numbers first) (number_of_items o items) ∙ numbers_columns first (how_many items)))
        (least_of_values rest)

    pub least_of_item_values : (items : Items) → least (values_of_items o items) ≡ least_of_items o items
    least_of_item_values no_items = refl
    least_of_item_values (item kids rest) = both max (least_of_values kids) (least_of_item_values rest)
