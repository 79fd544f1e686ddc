-- The values of what stands in a paragraph.
use Rattle.std.proofs.Common.{◌≡◌, ◌&&◌, [], ◌∷◌, ◌∙◌, if◌then◌else◌, Bool, List, None, ap, codes, false, not, refl}
use Rattle.std.proofs.Common.{suc, true, ℕ}
use Rattle.std.specs.Char.{is_whitespace}
use Rattle.std.specs.List.{list_all}
use Rattle.article_definitions.specs.Layouts.{Options, all_shallow, has_none, mark_of}
use Rattle.article_values.specs.Articles.{Inlines, Style, bold, code, emphasis, italic, line_break, link, no_inlines}
use Rattle.article_values.specs.Articles.{span, strong, words}
use Rattle.article_values.specs.Faults.{fault_of_inlines}
use Rattle.article_page_laws.specs.ArticleValues.{link_before, marked, style_info, values_of_inlines}
use Rattle.article_page_laws.proofs.MarkStyles.{marks_are_seen, style_by, style_seen, unset_by}
use Rattle.article_page_laws.proofs.TreesOfContents.{kind_of, trees_of_content}
use Rattle.tree_forest.specs.Trees.{Trees, node}
use Rattle.tree_forest.specs.Trees as of_trees
use Rattle.tree_forest.specs.Forest.{Kind}
use Rattle.html_lexemes.specs.declared.names.Attribute.{Attribute}
use Rattle.render_values.specs.Plain.{plain_head}
use Rattle.document_laws.specs.Contents.{in_no_namespace}
use Rattle.render_conversion.specs.Conversion.{value_before, values}
use Rattle.render_conversion.specs.Meanings.{meaning}
use Rattle.render_conversion.specs.Styles.{Parts, Styles, all_unset}
use Rattle.render_conversion.specs.declared.options.ConversionOptions.{ConversionOptions}
use Rattle.render_conversion.specs.declared.place.Place.{Place}
use Rattle.render_conversion.specs.declared.place.Place.TheVariants.{Flow}
use Rattle.render_values.specs.Emptiness.{all_empty, holds_none, is_empty_value}
use Rattle.render_values.specs.Endings.{ended, ending}
use Rattle.render_values.specs.Reading.{joined_none}
use Rattle.render_values.specs.Values.{Values, none, value}
use Rattle.render_values.specs.declared.closing.Condition.TheVariants.{AnyShown}
use Rattle.render_values.specs.declared.closing.Outcome.TheVariants.{Goes, Stays}
use Rattle.render_values.specs.declared.info.RenderInfo.TheVariants as infos
use Rattle.text_pieces.specs.Sources.{is_filled}
use Rattle.article_writing.proofs.Accepted.{break_passed, link_passed, span_passed, word_passed}
use Rattle.article_writing.specs.Contents.{content_of_inlines, style_name}

-- ---- in a link

same_linked : (linked : Bool) → linked ≡ true → linked ≡ false → ⊥
same_linked linked e h = cc

nothing_held : (o : Options) (d : ℕ) (trailing : Bool) (kids : Inlines) → fault_of_inlines d true trailing kids ≡ None →
    holds_none (values_of_inlines o kids) ≡ has_none kids
nothing_held o d trailing no_inlines h = refl
nothing_held o d trailing (words [] rest) h = cc
nothing_held o d trailing (words (c ∷ cs) rest) h = refl
nothing_held o d trailing (line_break rest) h = refl
nothing_held o d trailing (span style kids rest) h = refl
nothing_held o d trailing (link target kids rest) h =
    absurd (same_linked true refl (link_passed d true trailing target kids rest h).1.0)

empty_style : (style : Style) (alone : Bool) → is_empty_value (plain_head (style_info style)) alone ≡ alone
empty_style bold alone = refl
empty_style italic alone = refl
empty_style emphasis alone = refl
empty_style code alone = refl
empty_style strong alone = refl

and_true : (b : Bool) → b ≡ (b && true)
and_true true = refl
and_true false = refl

and_false : (b : Bool) → false ≡ (b && false)
and_false true = refl
and_false false = refl

marked_held : (mark : List ℕ) (inside : Values) (b : Bool) → holds_none inside ≡ b →
    holds_none (marked mark inside) ≡ (b && not (is_filled mark))
marked_held [] inside b e = ap holds_none (joined_none inside) ∙ e ∙ and_true b
marked_held (c ∷ cs) inside b e = and_false b

-- what shows nothing is the same by values and by inlines
pub shows_nothing : (o : Options) (d : ℕ) (trailing : Bool) (is : Inlines) → fault_of_inlines d true trailing is
    ≡ None →
    all_empty (values_of_inlines o is) ≡ all_shallow o is
shows_nothing o d trailing no_inlines h = refl
shows_nothing o d trailing (words [] rest) h = cc
shows_nothing o d true (words (c ∷ cs) rest) h = cc
shows_nothing o d false (words (c ∷ cs) rest) h =
    ap (λ b. list_all is_whitespace (c ∷ cs) && b) (shows_nothing o d true rest (word_passed d true c cs rest h).1)
shows_nothing o d trailing (line_break rest) h = shows_nothing o d false rest (break_passed d true trailing rest h)
shows_nothing o d trailing (span style kids rest) h =
    let b = span_passed d true trailing style kids rest h in
    let inside = values_of_inlines o kids in
    let later = all_empty (values_of_inlines o rest) in
    ap (λ b. b && later) (empty_style style (holds_none (marked (mark_of o style) inside)))
    ∙ ap (λ b. b && later)
    (marked_held (mark_of o style) inside (has_none kids) (nothing_held o (suc d) false kids b.0))
    ∙ ap (λ b. (has_none kids && not (is_filled (mark_of o style))) && b) (shows_nothing o d false rest b.1)
shows_nothing o d trailing (link target kids rest) h =
    absurd (same_linked true refl (link_passed d true trailing target kids rest h).1.0)

-- ---- elements

-- the value of a node, by its style
abbrev pub by_style : ConversionOptions → Place → Kind → Trees → (inside rest : Values) → Parts → Values
by_style conversion place kind kids inside rest style =
    value_before conversion place (meaning conversion.pages place kind kids) kind style (λ _. inside) rest

marked_by : (conversion : ConversionOptions) (style : Style) (mark : List ℕ) (kids : Trees) (inside rest : Values) →
    by_style conversion Flow (kind_of (style_name style) []) kids inside rest (style_by mark)
    ≡ value (plain_head (style_info style)) (marked mark inside) rest
marked_by conversion bold [] kids inside rest = refl
marked_by conversion bold (c ∷ cs) kids inside rest = refl
marked_by conversion italic [] kids inside rest = refl
marked_by conversion italic (c ∷ cs) kids inside rest = refl
marked_by conversion emphasis [] kids inside rest = refl
marked_by conversion emphasis (c ∷ cs) kids inside rest = refl
marked_by conversion code [] kids inside rest = refl
marked_by conversion code (c ∷ cs) kids inside rest = refl
marked_by conversion strong [] kids inside rest = refl
marked_by conversion strong (c ∷ cs) kids inside rest = refl

abbrev href : List ℕ → List Attribute
href target = in_no_namespace (codes "href") target ∷ []

-- a link goes where nothing in it is shown
where_shown : (b : Bool) (target : List ℕ) (inside rest : Values) →
    ended (if not (not b) then Goes else Stays) (plain_head (infos.Link target)) inside rest
    ≡ link_before b target inside rest
where_shown true target inside rest = refl
where_shown false target inside rest = refl

abbrev linking : List ℕ → (rest inside : Values) → Values
linking target rest inside = let head = plain_head (infos.Link target) in
    ended (ending AnyShown false head inside) head inside rest

linked_by : (conversion : ConversionOptions) (target : List ℕ) (kids : Trees) (inside rest : Values) →
    by_style conversion Flow (kind_of (codes "a") (href target)) kids inside rest all_unset
    ≡ link_before (all_empty inside) target inside rest
linked_by conversion target kids inside rest =
    ap (linking target rest) (joined_none inside) ∙ where_shown (all_empty inside) target inside rest

module _ (conversion : ConversionOptions) (o : Options) (s : Styles)
    (seen : (name : List ℕ) → s name ≡ style_seen o.decorates name) where
  pub unset_at : (name : List ℕ) → style_seen true name ≡ all_unset → s name ≡ all_unset
  unset_at name e = seen name ∙ unset_by name e o.decorates

  marks_at : (style : Style) → s (style_name style) ≡ style_by (mark_of o style)
  marks_at style = seen (style_name style) ∙ marks_are_seen o.decorates style

  span_values : (style : Style) (kids rest : Trees) → values conversion s Flow
      (node (kind_of (style_name style) []) kids rest)
      ≡ value (plain_head (style_info style)) (marked (mark_of o style) (values conversion s Flow kids))
      (values conversion s Flow rest)
  span_values bold kids rest =
      ap (by_style conversion Flow (kind_of (codes "b") []) kids (values conversion s Flow kids)
      (values conversion s Flow rest)) (marks_at bold)
      ∙ marked_by conversion bold (mark_of o bold) kids (values conversion s Flow kids) (values conversion s Flow rest)
  span_values italic kids rest =
      ap (by_style conversion Flow (kind_of (codes "i") []) kids (values conversion s Flow kids)
      (values conversion s Flow rest)) (marks_at italic)
      ∙ marked_by conversion italic (mark_of o italic) kids (values conversion s Flow kids)
      (values conversion s Flow rest)
  span_values emphasis kids rest =
      ap (by_style conversion Flow (kind_of (codes "em") []) kids (values conversion s Flow kids)
      (values conversion s Flow rest)) (marks_at emphasis)
      ∙ marked_by conversion emphasis (mark_of o emphasis) kids (values conversion s Flow kids)
      (values conversion s Flow rest)
  span_values code kids rest =
      ap (by_style conversion Flow (kind_of (codes "code") []) kids (values conversion s Flow kids)
      (values conversion s Flow rest)) (marks_at code)
      ∙ marked_by conversion code (mark_of o code) kids (values conversion s Flow kids) (values conversion s Flow rest)
  span_values strong kids rest =
      ap (by_style conversion Flow (kind_of (codes "strong") []) kids (values conversion s Flow kids)
      (values conversion s Flow rest)) (marks_at strong)
      ∙ marked_by conversion strong (mark_of o strong) kids (values conversion s Flow kids)
      (values conversion s Flow rest)

  break_values : (rest : Trees) →
      values conversion s Flow (node (kind_of (codes "br") []) of_trees.none rest)
      ≡ value (plain_head infos.Break) none (values conversion s Flow rest)
  break_values rest =
      ap (by_style conversion Flow (kind_of (codes "br") []) of_trees.none none (values conversion s Flow rest))
      (unset_at (codes "br") refl)

  link_values : (target : List ℕ) (kids rest : Trees) →
      values conversion s Flow (node (kind_of (codes "a") (href target)) kids rest)
      ≡ link_before (all_empty (values conversion s Flow kids)) target (values conversion s Flow kids)
      (values conversion s Flow rest)
  link_values target kids rest =
      ap (by_style conversion Flow (kind_of (codes "a") (href target)) kids (values conversion s Flow kids)
      (values conversion s Flow rest))
      (unset_at (codes "a") refl)
      ∙ linked_by conversion target kids (values conversion s Flow kids) (values conversion s Flow rest)

  -- ---- inlines without a fault

  pub inlines_valued : (d : ℕ) (linked trailing : Bool) (is : Inlines) → fault_of_inlines d linked trailing is ≡ None →
      values conversion s Flow (trees_of_content (content_of_inlines is)) ≡ values_of_inlines o is
  inlines_valued d linked trailing no_inlines h = refl
  inlines_valued d linked trailing (words [] rest) h = cc
  inlines_valued d linked true (words (c ∷ cs) rest) h = cc
  inlines_valued d linked false (words (c ∷ cs) rest) h =
      ap (value (plain_head (infos.Text (c ∷ cs))) none)
      (inlines_valued d linked true rest (word_passed d linked c cs rest h).1)
  inlines_valued d linked trailing (line_break rest) h =
      break_values (trees_of_content (content_of_inlines rest))
      ∙ ap (value (plain_head infos.Break) none)
      (inlines_valued d linked false rest (break_passed d linked trailing rest h))
  inlines_valued d linked trailing (span style kids rest) h =
      let b = span_passed d linked trailing style kids rest h in
      let later = trees_of_content (content_of_inlines rest) in
      span_values style (trees_of_content (content_of_inlines kids)) later
      ∙ ap (λ vs. value (plain_head (style_info style)) (marked (mark_of o style) vs) (values conversion s Flow later))
      (inlines_valued (suc d) linked false kids b.0)
      ∙ ap (value (plain_head (style_info style)) (marked (mark_of o style) (values_of_inlines o kids)))
      (inlines_valued d linked false rest b.1)
  inlines_valued d linked trailing (link target kids rest) h =
      let b = link_passed d linked trailing target kids rest h in
      let later = trees_of_content (content_of_inlines rest) in
      let inside = values_of_inlines o kids in
      link_values target (trees_of_content (content_of_inlines kids)) later
      ∙ ap (λ vs. link_before (all_empty vs) target vs (values conversion s Flow later))
      (inlines_valued (suc d) true false kids b.1.1.0)
      ∙ ap (λ shallow. link_before shallow target inside (values conversion s Flow later))
      (shows_nothing o (suc d) false kids b.1.1.0)
      ∙ ap (link_before (all_shallow o kids) target inside) (inlines_valued d linked false rest b.1.1.1)
