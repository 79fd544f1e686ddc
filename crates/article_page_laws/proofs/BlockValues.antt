-- The values of an article's page.
use Rattle.std.proofs.Common.{◌≡◌, ◌<◌, ◌^◌, [], ◌∷◌, ◌∙◌, List, None, Option, ap, codes, false, not, refl, suc, true}
use Rattle.std.proofs.Common.{ℕ, ℤ}
use Rattle.std.specs.Fmt.{signed_decimal}
use Rattle.std.specs.Int.Signed.{mag}
use Rattle.std.specs.Option.{option_or}
use Rattle.article_definitions.specs.Layouts.{Options}
use Rattle.article_values.specs.Articles.{Blocks, Items, bullets, division, heading, item, no_blocks, no_items, numbers}
use Rattle.article_values.specs.Articles.{paragraph, quote}
use Rattle.article_values.specs.Faults.{fault_of_blocks, fault_of_inlines, fault_of_items, fault_of_title, fault_where}
use Rattle.article_values.specs.Faults.{first_fault, has_item, is_level, is_too_deep}
use Rattle.article_values.specs.declared.error.ArticleError.{ArticleError}
use Rattle.article_values.specs.declared.error.ArticleError.TheVariants.{EmptyList, TooDeep}
use Rattle.article_page_laws.specs.ArticleValues.{AreRulesOf, page_values, values_of_blocks, values_of_inlines}
use Rattle.article_page_laws.specs.ArticleValues.{values_of_items}
use Rattle.article_page_laws.proofs.InlineValues.{by_style, inlines_valued, unset_at}
use Rattle.article_page_laws.proofs.MarkStyles.{style_seen, styles_are_seen}
use Rattle.article_page_laws.proofs.StartNumbers.{start_read}
use Rattle.article_page_laws.proofs.TreesOfContents.{document_trees, kind_of, title_trees, trees_of_content}
use Rattle.article_page_laws.proofs.TreesOfContents.{trees_of_document}
use Rattle.tree_forest.specs.Trees.{Trees, node}
use Rattle.tree_forest.specs.Trees as of_trees
use Rattle.tree_forest.specs.Forest.{doctype, document}
use Rattle.html_lexemes.specs.declared.names.Attribute.{Attribute}
use Rattle.render_values.specs.Plain.{container, plain_head}
use Rattle.document_laws.specs.Contents.{in_no_namespace}
use Rattle.render_conversion.specs.Conversion.{document_values, values}
use Rattle.render_conversion.specs.Styles.{Parts, Styles, all_unset, styles_of}
use Rattle.render_conversion.specs.declared.options.ConversionOptions.{ConversionOptions}
use Rattle.render_conversion.specs.declared.place.Place.TheVariants.{Flow, Items as InList, Nowhere}
use Rattle.render_values.specs.Reading.{joined_none}
use Rattle.render_values.specs.Values.{Values, joined, none, value}
use Rattle.render_values.specs.declared.info.Head.{Head}
use Rattle.render_values.specs.declared.info.RenderInfo.{RenderInfo}
use Rattle.render_values.specs.declared.info.RenderInfo.TheVariants as infos
use Rattle.dom_styles.specs.declared.rules.StyleRule.{StyleRule}
use Rattle.article_writing.proofs.Accepted.{both_none, heading_passed, held_passed, level_is, list_passed}
use Rattle.article_writing.specs.Contents.{ItemsFit, NumbersFit, article_tree, content_of_blocks, content_of_inlines}
use Rattle.article_writing.specs.Contents.{content_of_items, heading_name}

abbrev start : ℤ → List Attribute
start first = in_no_namespace (codes "start") (signed_decimal first) ∷ []

-- a list without a fault has an item, and so a value
some_item : (d : ℕ) (its_items : Items) (within later : Option ArticleError) →
    fault_where (not (has_item its_items)) EmptyList (fault_where (is_too_deep d) TooDeep (option_or within later))
    ≡ None →
    has_item its_items ≡ true
some_item d no_items within later h = cc
some_item d (item kids more) within later h = refl

of_items : (o : Options) (its_items : Items) → has_item its_items ≡ true → (P : Values → Type 0) →
    ((head : Head) (first more : Values) → P (value head first more)) → P (values_of_items o its_items)
of_items o no_items h P f = absurd (let k : false ≡ true = h in cc)
of_items o (item kids more) h P f = f (plain_head infos.Container) (values_of_blocks o kids) (values_of_items o more)

module _ (conversion : ConversionOptions) (o : Options) (s : Styles)
    (seen : (name : List ℕ) → s name ≡ style_seen o.decorates name) where
  unset : (name : List ℕ) → style_seen true name ≡ all_unset → s name ≡ all_unset
  unset = unset_at conversion o s seen

  -- ---- elements

  abbrev held_in : RenderInfo → (rest inside : Values) → Values
  held_in info rest inside = value (plain_head info) inside rest

  paragraph_value : (kids rest : Trees) → values conversion s Flow (node (kind_of (codes "p") []) kids rest)
      ≡ value (plain_head infos.Block) (values conversion s Flow kids) (values conversion s Flow rest)
  paragraph_value kids rest =
      ap (by_style conversion Flow (kind_of (codes "p") []) kids (values conversion s Flow kids)
      (values conversion s Flow rest))
      (unset (codes "p") refl)
      ∙ ap (held_in infos.Block (values conversion s Flow rest)) (joined_none (values conversion s Flow kids))

  division_value : (kids rest : Trees) → values conversion s Flow (node (kind_of (codes "div") []) kids rest)
      ≡ value (plain_head infos.Division) (values conversion s Flow kids) (values conversion s Flow rest)
  division_value kids rest =
      ap (by_style conversion Flow (kind_of (codes "div") []) kids (values conversion s Flow kids)
      (values conversion s Flow rest))
      (unset (codes "div") refl)
      ∙ ap (held_in infos.Division (values conversion s Flow rest)) (joined_none (values conversion s Flow kids))

  quote_value : (kids rest : Trees) → values conversion s Flow (node (kind_of (codes "blockquote") []) kids rest)
      ≡ value (plain_head infos.Quote) (values conversion s Flow kids) (values conversion s Flow rest)
  quote_value kids rest =
      ap (by_style conversion Flow (kind_of (codes "blockquote") []) kids (values conversion s Flow kids)
      (values conversion s Flow rest))
      (unset (codes "blockquote") refl)
      ∙ ap (held_in infos.Quote (values conversion s Flow rest)) (joined_none (values conversion s Flow kids))

  item_value : (kids rest : Trees) → values conversion s InList (node (kind_of (codes "li") []) kids rest)
      ≡ value (plain_head infos.Container) (values conversion s Flow kids) (values conversion s InList rest)
  item_value kids rest =
      ap (by_style conversion InList (kind_of (codes "li") []) kids (values conversion s Flow kids)
      (values conversion s InList rest))
      (unset (codes "li") refl)
      ∙ ap (held_in infos.Container (values conversion s InList rest)) (joined_none (values conversion s Flow kids))

  -- a list has an item
  abbrev IsBullets : (kids rest : Trees) → Values → Type 0
  IsBullets kids rest vs = values conversion s InList kids ≡ vs →
      values conversion s Flow (node (kind_of (codes "ul") []) kids rest)
      ≡ value (plain_head infos.Bullets) vs (values conversion s Flow rest)

  bullets_value : (kids rest : Trees) (head : Head) (first more : Values) → IsBullets kids rest (value head first more)
  bullets_value kids rest head first more e =
      ap (by_style conversion Flow (kind_of (codes "ul") []) kids (values conversion s InList kids)
      (values conversion s Flow rest))
      (unset (codes "ul") refl)
      ∙ ap (λ inside. by_style conversion Flow (kind_of (codes "ul") []) kids inside (values conversion s Flow rest)
      all_unset) e
      ∙ ap (held_in infos.Bullets (values conversion s Flow rest)) (joined_none (value head first more))

  abbrev IsNumbers : ℤ → (kids rest : Trees) → Values → Type 0
  IsNumbers number kids rest vs = values conversion s InList kids ≡ vs →
      values conversion s Flow (node (kind_of (codes "ol") (start number)) kids rest)
      ≡ value (plain_head (infos.Numbers number)) vs (values conversion s Flow rest)

  numbers_value : (number : ℤ) → mag number < 2 ^ 63 → (kids rest : Trees) (head : Head) (first more : Values) →
      IsNumbers number kids rest (value head first more)
  numbers_value number fits kids rest head first more e =
      ap (by_style conversion Flow (kind_of (codes "ol") (start number)) kids (values conversion s InList kids)
      (values conversion s Flow rest))
      (unset (codes "ol") refl)
      ∙ ap (λ inside. by_style conversion Flow (kind_of (codes "ol") (start number)) kids inside
      (values conversion s Flow rest) all_unset) e
      ∙ ap (λ z. value (plain_head (infos.Numbers z)) (joined (value head first more) none)
      (values conversion s Flow rest))
      (start_read number fits)
      ∙ ap (held_in (infos.Numbers number) (values conversion s Flow rest)) (joined_none (value head first more))

  abbrev IsHeading : (kids rest : Trees) → ℕ → Type 0
  IsHeading kids rest level = values conversion s Flow (node (kind_of (heading_name level) []) kids rest)
      ≡ value (plain_head (infos.Heading level)) (values conversion s Flow kids) (values conversion s Flow rest)

  abbrev by_name : (kids rest : Trees) → List ℕ → Parts → Values
  by_name kids rest name style =
      by_style conversion Flow (kind_of name []) kids (values conversion s Flow kids) (values conversion s Flow rest)
      style

  heading_value : (kids rest : Trees) (level : ℕ) → is_level level ≡ true → IsHeading kids rest level
  heading_value kids rest level h =
      let inside = joined_none (values conversion s Flow kids) in
      let later = values conversion s Flow rest in
      level_is (IsHeading kids rest)
      (ap (by_name kids rest (codes "h1")) (unset (codes "h1") refl) ∙ ap (held_in (infos.Heading 1) later) inside)
      (ap (by_name kids rest (codes "h2")) (unset (codes "h2") refl) ∙ ap (held_in (infos.Heading 2) later) inside)
      (ap (by_name kids rest (codes "h3")) (unset (codes "h3") refl) ∙ ap (held_in (infos.Heading 3) later) inside)
      (ap (by_name kids rest (codes "h4")) (unset (codes "h4") refl) ∙ ap (held_in (infos.Heading 4) later) inside)
      (ap (by_name kids rest (codes "h5")) (unset (codes "h5") refl) ∙ ap (held_in (infos.Heading 5) later) inside)
      (ap (by_name kids rest (codes "h6")) (unset (codes "h6") refl) ∙ ap (held_in (infos.Heading 6) later) inside)
      level h

  -- ---- blocks without a fault

  mutual
    blocks_valued : (d : ℕ) (a : Blocks) → fault_of_blocks d a ≡ None → NumbersFit a →
        values conversion s Flow (trees_of_content (content_of_blocks a)) ≡ values_of_blocks o a
    blocks_valued d no_blocks h fit = refl
    blocks_valued d (paragraph contents rest) h fit =
        let b = held_passed d (fault_of_inlines (suc d) false false contents) (fault_of_blocks d rest) h in
        let later = trees_of_content (content_of_blocks rest) in
        paragraph_value (trees_of_content (content_of_inlines contents)) later
        ∙ ap (held_in infos.Block (values conversion s Flow later))
        (inlines_valued conversion o s seen (suc d) false false contents b.0)
        ∙ ap (value (plain_head infos.Block) (values_of_inlines o contents)) (blocks_valued d rest b.1 fit)
    blocks_valued d (heading level contents rest) h fit =
        let b = heading_passed d level (fault_of_inlines (suc d) false false contents) (fault_of_blocks d rest) h in
        let later = trees_of_content (content_of_blocks rest) in
        heading_value (trees_of_content (content_of_inlines contents)) later level b.0
        ∙ ap (held_in (infos.Heading level) (values conversion s Flow later))
        (inlines_valued conversion o s seen (suc d) false false contents b.1.0)
        ∙ ap (value (plain_head (infos.Heading level)) (values_of_inlines o contents)) (blocks_valued d rest b.1.1 fit)
    blocks_valued d (division its_blocks rest) h fit =
        let b = held_passed d (fault_of_blocks (suc d) its_blocks) (fault_of_blocks d rest) h in
        let later = trees_of_content (content_of_blocks rest) in
        division_value (trees_of_content (content_of_blocks its_blocks)) later
        ∙ ap (held_in infos.Division (values conversion s Flow later)) (blocks_valued (suc d) its_blocks b.0 fit.0)
        ∙ ap (value (plain_head infos.Division) (values_of_blocks o its_blocks)) (blocks_valued d rest b.1 fit.1)
    blocks_valued d (quote its_blocks rest) h fit =
        let b = held_passed d (fault_of_blocks (suc d) its_blocks) (fault_of_blocks d rest) h in
        let later = trees_of_content (content_of_blocks rest) in
        quote_value (trees_of_content (content_of_blocks its_blocks)) later
        ∙ ap (held_in infos.Quote (values conversion s Flow later)) (blocks_valued (suc d) its_blocks b.0 fit.0)
        ∙ ap (value (plain_head infos.Quote) (values_of_blocks o its_blocks)) (blocks_valued d rest b.1 fit.1)
    blocks_valued d (bullets its_items rest) h fit =
        let within = fault_of_items (suc d) its_items in
        let b = list_passed d its_items within (fault_of_blocks d rest) h in
        let kids = trees_of_content (content_of_items its_items) in
        let later = trees_of_content (content_of_blocks rest) in
        of_items o its_items (some_item d its_items within (fault_of_blocks d rest) h) (IsBullets kids later)
        (bullets_value kids later) (items_valued (suc d) its_items b.0 fit.0)
        ∙ ap (value (plain_head infos.Bullets) (values_of_items o its_items)) (blocks_valued d rest b.1 fit.1)
    blocks_valued d (numbers first its_items rest) h fit =
        let within = fault_of_items (suc d) its_items in
        let b = list_passed d its_items within (fault_of_blocks d rest) h in
        let kids = trees_of_content (content_of_items its_items) in
        let later = trees_of_content (content_of_blocks rest) in
        of_items o its_items (some_item d its_items within (fault_of_blocks d rest) h) (IsNumbers first kids later)
        (numbers_value first fit.0 kids later) (items_valued (suc d) its_items b.0 fit.1.0)
        ∙ ap (value (plain_head (infos.Numbers first)) (values_of_items o its_items))
        (blocks_valued d rest b.1 fit.1.1)

    items_valued : (d : ℕ) (a : Items) → fault_of_items d a ≡ None → ItemsFit a →
        values conversion s InList (trees_of_content (content_of_items a)) ≡ values_of_items o a
    items_valued d no_items h fit = refl
    items_valued d (item its_blocks rest) h fit =
        let b = both_none (fault_of_blocks d its_blocks) (fault_of_items d rest) h in
        let later = trees_of_content (content_of_items rest) in
        item_value (trees_of_content (content_of_blocks its_blocks)) later
        ∙ ap (held_in infos.Container (values conversion s InList later)) (blocks_valued d its_blocks b.0 fit.0)
        ∙ ap (value (plain_head infos.Container) (values_of_blocks o its_blocks)) (items_valued d rest b.1 fit.1)

  -- ---- the document

  abbrev body : Trees → Trees
  body inside = node (kind_of (codes "body") []) inside of_trees.none

  body_value : (inside : Trees) → values conversion s Flow (body inside) ≡ container (values conversion s Flow inside)
  body_value inside =
      ap (by_style conversion Flow (kind_of (codes "body") []) inside (values conversion s Flow inside) none)
      (unset (codes "body") refl)
      ∙ ap container (joined_none (values conversion s Flow inside))

  -- `head` has no value
  head_value : (inside rest : Trees) →
      values conversion s Flow (node (kind_of (codes "head") []) inside rest) ≡ values conversion s Flow rest
  head_value inside rest =
      ap (by_style conversion Flow (kind_of (codes "head") []) inside (values conversion s Nowhere inside)
      (values conversion s Flow rest))
      (unset (codes "head") refl)

  html_value : (inside : Trees) → values conversion s Flow (node (kind_of (codes "html") []) inside of_trees.none)
      ≡ container (values conversion s Flow inside)
  html_value inside =
      ap (by_style conversion Flow (kind_of (codes "html") []) inside (values conversion s Flow inside) none)
      (unset (codes "html") refl)
      ∙ ap container (joined_none (values conversion s Flow inside))

  -- a document has a value where something stands in it; its doctype has none
  document_value : (inside : Trees) (vs : Values) → values conversion s Flow inside ≡ container vs →
      values conversion s Flow (node document (node (doctype (codes "html") [] []) of_trees.none inside) of_trees.none)
      ≡ container (container vs)
  document_value inside vs e = ap (λ vs. by_style conversion Flow document inside vs none all_unset) e

  page_value : (in_head in_body : Trees) (vs : Values) → values conversion s Flow in_body ≡ vs →
      values conversion s Flow (document_trees in_head in_body) ≡ container (container (container vs))
  page_value in_head in_body vs e =
      let html = node (kind_of (codes "head") []) in_head (body in_body) in
      document_value (node (kind_of (codes "html") []) html of_trees.none) (container vs)
      (html_value html ∙ ap container (head_value in_head (body in_body) ∙ body_value in_body ∙ ap container e))

pub values_of_article : (conversion : ConversionOptions) (o : Options) (rules : List StyleRule)
    (title : Option (List ℕ)) (blocks : Blocks) →
    AreRulesOf o.decorates rules → first_fault title blocks ≡ None → NumbersFit blocks →
    document_values conversion rules (article_tree title blocks) ≡ page_values o blocks
values_of_article conversion o rules title blocks marks h fit =
    let s = styles_of rules in
    let content = content_of_blocks blocks in
    let seen : (name : List ℕ) → s name ≡ style_seen o.decorates name = styles_are_seen rules o.decorates marks in
    ap (values conversion s Flow) (trees_of_document title content)
    ∙ page_value conversion o s seen (title_trees title) (trees_of_content content) (values_of_blocks o blocks)
    (blocks_valued conversion o s seen 1 blocks (both_none (fault_of_title title) (fault_of_blocks 1 blocks) h).1 fit)
