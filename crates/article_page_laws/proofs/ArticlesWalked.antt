-- What the walk of a render tree makes of all values of an article's page: the calls of its blocks, on an empty page.
use Rattle.std.proofs.Common.{◌≡◌, ℕ, Bool, List, [], refl, ap, ◌∙◌}
use Rattle.std.specs.Option.{option_map}
use Rattle.article_definitions.specs.ArticleValues.{page_values, values_of_blocks}
use Rattle.article_definitions.specs.BlockCalls.{run_blocks}
use Rattle.article_definitions.specs.Layouts.{Tag, targets_of}
use Rattle.article_values.specs.Articles.{Blocks}
use Rattle.block_layout.specs.Laid.{Laid, nothing_laid}
use Rattle.render_values.specs.Plain.{container}
use Rattle.render_values.specs.Values.{Values}
use Rattle.layout_values.specs.Lay.{laid_parts}
use Rattle.block_trait.specs.declared.options.RenderOptions.{RenderOptions}
use Rattle.text_block_renderer.specs.PlainText.{plain_marking}
use Rattle.article_page_laws.specs.Measures.{plain_sizing}
use Rattle.article_page_laws.specs.Pages.{AreFilledBlocks, Place, page_of, parts_at, whole}
use Rattle.article_page_laws.proofs.BlocksWalked.{blocks_walked, contained, contained_is, here, o, walk}
use Rattle.article_page_laws.proofs.PagesLaid.{Layings, twice}
use Rattle.article_page_laws.proofs.SaidTexts.{nothing_more}

module _ (given : RenderOptions) (decorates : Bool) (min_wrap : ℕ) (held : Unit {0}) where
  abbrev at : Place → List (List ℕ) → Laid Tag → Layings
  at = here given decorates min_wrap held

  container_is : (inside : Values) (p : Place) (ts : List (List ℕ)) (b : Laid Tag) →
      walk given decorates min_wrap held (container inside) (at p ts b)
      ≡ walk given decorates min_wrap held inside (at p ts b)
  container_is inside p ts b = nothing_more (contained given decorates min_wrap held inside (at p ts b))
      ∙ contained_is given decorates min_wrap held inside (at p ts b)

  pub page_walked : (width : ℕ) (blocks : Blocks) → AreFilledBlocks blocks →
      laid_parts plain_marking (plain_sizing given (o given decorates min_wrap held))
      (page_values (o given decorates min_wrap held) blocks) (whole given held width)
      ≡ option_map (parts_at given held (page_of width) (targets_of (o given decorates min_wrap held) blocks) [])
      (run_blocks (o given decorates min_wrap held) width [] blocks nothing_laid)
  page_walked width blocks filled =
      let p : Place = page_of width in
      let values : Values = values_of_blocks (o given decorates min_wrap held) blocks in
      let targets : List (List ℕ) = targets_of (o given decorates min_wrap held) blocks in
      ap (option_map (λ (l : Layings). l.parts)) (container_is (container (container values)) p [] nothing_laid
      ∙ container_is (container values) p [] nothing_laid ∙ container_is values p [] nothing_laid
      ∙ blocks_walked given decorates min_wrap held blocks filled p [] nothing_laid)
      ∙ twice (λ (l : Layings). l.parts) (at p targets) (parts_at given held p targets [])
      (run_blocks (o given decorates min_wrap held) width [] blocks nothing_laid) (λ b. refl)
