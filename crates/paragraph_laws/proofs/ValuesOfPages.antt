-- The values of pages of paragraphs.
use Rattle.std.proofs.Common.{◌≡◌, ℕ, List, [], ◌∷◌, codes, refl, ap, ◌∙◌}
use Rattle.tree_forest.specs.Trees.{Trees, node}
use Rattle.tree_forest.specs.Trees as of_trees
use Rattle.tree_forest.specs.Forest.{Kind, document}
use Rattle.render_conversion.specs.Conversion.{document_values, value_before, values}
use Rattle.render_conversion.specs.Meanings.{meaning}
use Rattle.render_conversion.specs.Styles.{Parts, Styles, all_unset, styles_of}
use Rattle.render_conversion.specs.declared.options.ConversionOptions.{ConversionOptions}
use Rattle.render_conversion.specs.declared.place.Place.TheVariants.{Flow}
use Rattle.render_values.specs.Values.{Values, joined, none, value}
use Rattle.render_values.specs.declared.info.RenderInfo.TheVariants as infos
use Rattle.dom_styles.specs.declared.rules.StyleRule.{StyleRule}
use Rattle.paragraph_laws.specs.ParagraphPages.{AreQuiet}
use Rattle.paragraph_laws.specs.ParagraphValues.{block_values, container, paragraph_values, plain_head, text_values}
use Rattle.paragraph_laws.proofs.QuietRules.{styles_unset}
use Rattle.paragraph_laws.proofs.TreesOfPages.{PlantsAtOnce, document_trees, kind_of, text_trees, trees_of_page}
use Rattle.paragraph_laws.proofs.TreesOfPages.{trees_of_paragraphs}
use Rattle.paragraph_laws.specs.ParagraphTrees.{paragraph_tree}

joined_none : (vs : Values) → joined vs none ≡ vs
joined_none none = refl
joined_none (value head inside rest) = ap (λ vs. value head inside vs) (joined_none rest)

-- of a node, by its style
abbrev by_style : ConversionOptions → Kind → Trees → (inside rest : Values) → Parts → Values
by_style o kind kids inside rest style =
    value_before o Flow (meaning o.pages Flow kind kids) kind style (λ _. inside) rest

module _ (o : ConversionOptions) (s : Styles) where
  paragraphs_valued : s (codes "p") ≡ all_unset → (texts : List (List ℕ)) →
      values o s Flow (trees_of_paragraphs texts) ≡ block_values texts
  paragraphs_valued e [] = refl
  paragraphs_valued e ([] ∷ texts) =
      ap (by_style o (kind_of (codes "p")) of_trees.none none (values o s Flow (trees_of_paragraphs texts))) e
      ∙ ap (λ vs. value (plain_head infos.Block) none vs) (paragraphs_valued e texts)
  paragraphs_valued e ((c ∷ cs) ∷ texts) =
      ap (by_style o (kind_of (codes "p")) (text_trees (c ∷ cs)) (text_values (c ∷ cs))
      (values o s Flow (trees_of_paragraphs texts))) e
      ∙ ap (λ vs. value (plain_head infos.Block) (text_values (c ∷ cs)) vs) (paragraphs_valued e texts)

  abbrev body : Trees → Trees
  body inside = node (kind_of (codes "body")) inside of_trees.none

  body_valued : s (codes "body") ≡ all_unset → (inside : Trees) →
      values o s Flow (body inside) ≡ container (values o s Flow inside)
  body_valued e inside =
      ap (by_style o (kind_of (codes "body")) inside (values o s Flow inside) none) e
      ∙ ap container (joined_none (values o s Flow inside))

  -- `head` has no value
  head_valued : s (codes "head") ≡ all_unset → (rest : Trees) →
      values o s Flow (node (kind_of (codes "head")) of_trees.none rest) ≡ values o s Flow rest
  head_valued e rest = ap (by_style o (kind_of (codes "head")) of_trees.none none (values o s Flow rest)) e

  html_valued : s (codes "html") ≡ all_unset → (inside : Trees) →
      values o s Flow (node (kind_of (codes "html")) inside of_trees.none) ≡ container (values o s Flow inside)
  html_valued e inside =
      ap (by_style o (kind_of (codes "html")) inside (values o s Flow inside) none) e
      ∙ ap container (joined_none (values o s Flow inside))

  -- a document has a value where something stands in it
  document_valued : (inside : Trees) (vs : Values) → values o s Flow inside ≡ container vs →
      values o s Flow (node document inside of_trees.none) ≡ container (container vs)
  document_valued inside vs e = ap (λ vs. by_style o document inside vs none all_unset) e

  page_valued : s (codes "html") ≡ all_unset → s (codes "head") ≡ all_unset → s (codes "body") ≡ all_unset →
      s (codes "p") ≡ all_unset → (texts : List (List ℕ)) →
      values o s Flow (document_trees (trees_of_paragraphs texts)) ≡ paragraph_values texts
  page_valued of_html of_head of_body of_p texts =
      let inside = body (trees_of_paragraphs texts) in
      let html = node (kind_of (codes "head")) of_trees.none inside in
      document_valued (node (kind_of (codes "html")) html of_trees.none) (container (block_values texts))
      (html_valued of_html html
      ∙ ap container (head_valued of_head inside ∙ body_valued of_body (trees_of_paragraphs texts)
      ∙ ap container (paragraphs_valued of_p texts)))

pub values_of_page : (at_once : PlantsAtOnce) (o : ConversionOptions) (rules : List StyleRule) (texts : List (List ℕ))
    → AreQuiet rules →
    document_values o rules (paragraph_tree texts) ≡ paragraph_values texts
values_of_page at_once o rules texts quiet =
    ap (values o (styles_of rules) Flow) (trees_of_page at_once texts)
    ∙ page_valued o (styles_of rules) (styles_unset rules quiet (codes "html") (λ place. refl))
    (styles_unset rules quiet (codes "head") (λ place. refl))
    (styles_unset rules quiet (codes "body") (λ place. refl))
    (styles_unset rules quiet (codes "p") (λ place. refl)) texts
