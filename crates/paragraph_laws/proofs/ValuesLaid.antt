-- What the walk of a render tree makes of the values of paragraphs.
use Rattle.std.proofs.Common.{◌≡◌, [], ◌∷◌, if◌then◌else◌, ◌∙◌, Bool, List, None, Option, Some, ap, false, refl, true}
use Rattle.std.proofs.Common.{ℕ}
use Rattle.std.specs.Option.{option_and_then, option_map}
use Rattle.block_layout.specs.Laid.{Laid, add_text, end_block, is_ignored, start_awaited, start_block}
use Rattle.html_render_tree.specs.PageLines.{Setting, laid_page, prefix_columns, sizing_of}
use Rattle.html_render_tree.specs.Sizing.{Sizing}
use Rattle.render_sizes.specs.Extents.{Measure, measure_of}
use Rattle.render_values.specs.Looks.{plain}
use Rattle.render_values.specs.Values.{Values, none}
use Rattle.render_values.specs.declared.info.RenderInfo.TheVariants as infos
use Rattle.html_render_tree.specs.Begins.{begins, ends, following, leading, style_begins, style_ends}
use Rattle.html_render_tree.specs.LayoutState.{LayoutState, Step, in_current, in_turn, outside, says}
use Rattle.html_render_tree.specs.Around.TheVariants.{Flow}
use Rattle.html_render_tree.specs.Lay.{Content, content_of, holds, laid, laid_parts, lay}
use Rattle.block_trait.specs.Calls.{adds_text, ends_block, starts_block}
use Rattle.block_trait.specs.Defaults.{default_options}
use Rattle.block_trait.specs.Renderers.{Sub, new_sub, on_laid, with_laid}
use Rattle.block_trait.specs.declared.options.RenderOptions.{RenderOptions}
use Rattle.text_block_renderer.specs.Parts.{Parts, whole_page}
use Rattle.text_pieces.specs.declared.white_space.WhiteSpace.TheVariants.{Normal}
use Rattle.paragraph_laws.specs.ParagraphLines.{Plain}
use Rattle.html_render_tree.specs.PlainText.{plain_marking}
use Rattle.paragraph_laws.specs.ParagraphPages.{IsPlain}
use Rattle.paragraph_laws.specs.ParagraphValues.{block_values, container, paragraph_values, plain_head, text_values}
use Rattle.paragraph_laws.proofs.StatesLaid.{all_laid, measure, paragraph_laid, state, text_said}

abbrev pub Page : Type 0
Page = Sub (Unit {0}) (Unit {0})

abbrev pub Pages : Type 0
Pages = Parts (Unit {0}) (Unit {0})

abbrev Layings : Type 0
Layings = LayoutState (Unit {0}) (Unit {0})

abbrev going : Layings → Option Layings
going l = Some l

twice : {A B C : Type 0} (f : B → C) (g : A → B) (h : A → C) (x : Option A) → ((a : A) → f (g a) ≡ h a) →
    option_map f (option_map g x) ≡ option_map h x
twice f g h None e = refl
twice f g h (Some a) e = ap Some (e a)

module _ (links shared prints fits : Bool) (held : Unit {0}) (width : ℕ) where
  abbrev options : RenderOptions
  options = record default_options {
    include_link_footnotes = links;
    shared_footnotes = shared;
    printable_targets = prints;
    fit_columns = fits;
  }

  -- the renderer of a page, by what it has laid out
  abbrev pub sub_at : Laid Plain → Page
  sub_at b = record {
    width = width;
    options = options;
    held = held;
    laid = b;
    modes = [];
    preformats = 0;
    annotations = [];
    keeps = true;
    strikeouts = 0;
  }

  abbrev pub parts_at : Laid Plain → Pages
  parts_at b = record { below = []; current = sub_at b; targets = [] }

  abbrev laying : Laid Plain → Layings
  laying b = record { parts = parts_at b; around = Flow; table = outside false }

  -- ---- the calls

  started : (b : Laid Plain) →
      says plain_marking starts_block (laying b) ≡ option_map laying (start_block (measure width) [] b)
  unfolding says
  started b = twice (in_current (laying b)) (with_laid (sub_at b)) laying (start_block (measure width) [] b) (λ b. refl)

  inline_by : (b : Laid Plain) (ignored : Bool) (x : Option (Laid Plain)) →
      option_map (in_current (laying b)) (if ignored then Some (sub_at b) else on_laid (sub_at b) x)
      ≡ option_map laying (if ignored then Some b else x)
  inline_by b true x = refl
  inline_by b false x = twice (in_current (laying b)) (with_laid (sub_at b)) laying x (λ b. refl)

  added : (c : ℕ) (cs : List ℕ) (b : Laid Plain) → says plain_marking (adds_text (c ∷ cs)) (laying b)
      ≡ option_map laying (text_said width (c ∷ cs) b)
  unfolding says
  added c cs b = inline_by b (is_ignored Normal (c ∷ cs) b)
      (option_and_then (add_text (measure width) [] Normal (c ∷ cs) [] []) (start_awaited (measure width) [] b))

  module _ (columns : Measure) (fitted : Option RenderOptions) where
    abbrev by : Sizing
    by = record { measure = columns; fitted = fitted; mode = Normal }

    abbrev walk : Values → Step (Unit {0}) (Unit {0})
    walk values = lay plain_marking by values

    -- ---- a text

    through : (x : Option Layings) → option_and_then (walk none)
        (option_and_then (style_ends plain_marking plain)
        (option_and_then (in_turn (in_turn going (walk none)) going) x))
        ≡ x
    unfolding style_ends
    through None = refl
    through (Some l) = refl

    text_walked : (cs : List ℕ) (b : Laid Plain) →
        walk (text_values cs) (laying b) ≡ option_map laying (text_said width cs b)
    unfolding begins ends holds leading following style_begins style_ends
    text_walked [] b = refl
    text_walked (c ∷ cs) b = through (says plain_marking (adds_text (c ∷ cs)) (laying b)) ∙ added c cs b

    -- ---- a block

    ended_by : (x : Option (Laid Plain)) →
        option_and_then (style_ends plain_marking plain)
        (option_and_then (says plain_marking ends_block) (option_map laying x))
        ≡ option_map laying (option_map (λ (b : Laid Plain). end_block b) x)
    unfolding says style_ends
    ended_by None = refl
    ended_by (Some b) = refl

    abbrev in_block : List ℕ → Option Layings → Option Layings
    in_block cs x = option_and_then (style_ends plain_marking plain)
        (option_and_then (in_turn (in_turn going (walk (text_values cs))) (says plain_marking ends_block)) x)

    block_by : (cs : List ℕ) (x : Option (Laid Plain)) → in_block cs (option_map laying x)
        ≡ option_map laying (option_map (λ (b : Laid Plain). end_block b) (option_and_then (text_said width cs) x))
    block_by cs None = refl
    block_by cs (Some b) =
        ap (λ x. option_and_then (style_ends plain_marking plain) (option_and_then (says plain_marking ends_block) x))
        (text_walked cs b)
        ∙ ended_by (text_said width cs b)

    block_walked : (cs : List ℕ) (b : Laid Plain) (c : Content) →
        laid plain_marking (plain_head infos.Block) c (walk (text_values cs)) (laying b)
        ≡ option_map laying (paragraph_laid width cs b)
    unfolding begins ends holds leading following style_begins style_ends
    block_walked cs b c =
        ap (in_block cs) (started b) ∙ block_by cs (start_block (measure width) [] b)

    rest_by : (texts : List (List ℕ)) (x : Option (Laid Plain)) →
        ((b : Laid Plain) → walk (block_values texts) (laying b) ≡ option_map laying (all_laid width texts b)) →
        option_and_then (walk (block_values texts)) (option_map laying x)
        ≡ option_map laying (option_and_then (all_laid width texts) x)
    rest_by texts None rest = refl
    rest_by texts (Some b) rest = rest b

    blocks_walked : (texts : List (List ℕ)) (b : Laid Plain) →
        walk (block_values texts) (laying b) ≡ option_map laying (all_laid width texts b)
    blocks_walked [] b = refl
    blocks_walked (cs ∷ texts) b =
        ap (option_and_then (walk (block_values texts)))
        (block_walked cs b (content_of by (plain_head infos.Block) (text_values cs)))
        ∙ rest_by texts (paragraph_laid width cs b) (λ b. blocks_walked texts b)

    -- ---- a container

    contained : (x : Option Layings) → option_and_then (walk none)
        (option_and_then (style_ends plain_marking plain) (option_and_then going x)) ≡ x
    unfolding style_ends
    contained None = refl
    contained (Some l) = refl

    container_walked : (inside : Values) (b : Laid Plain) →
        walk (container inside) (laying b) ≡ walk inside (laying b)
    unfolding begins ends holds leading following style_begins style_ends
    container_walked inside b = contained (walk inside (laying b))

    page_walked : (texts : List (List ℕ)) (b : Laid Plain) →
        walk (paragraph_values texts) (laying b) ≡ option_map laying (all_laid width texts b)
    page_walked texts b =
        container_walked (container (container (block_values texts))) b
        ∙ container_walked (container (block_values texts)) b
        ∙ container_walked (block_values texts) b
        ∙ blocks_walked texts b

abbrev pub begun_laid : Laid Plain
begun_laid = state [] None false

pub page_is : (c : Setting (Unit {0})) (width : ℕ) (texts : List (List ℕ)) → IsPlain c →
    laid_page plain_marking c width (paragraph_values texts)
    ≡ option_map (parts_at c.options.include_link_footnotes c.options.shared_footnotes c.options.printable_targets
    c.options.fit_columns c.held width) (all_laid width texts begun_laid)
page_is c width texts is_plain =
    let links = c.options.include_link_footnotes in
    let shared = c.options.shared_footnotes in
    let prints = c.options.printable_targets in
    let fits = c.options.fit_columns in
    let columns : Measure = measure_of c.min_wrap (prefix_columns (plain_marking.mark_text c.held)) in
    let fitted : Option RenderOptions = (sizing_of plain_marking c).fitted in
    ap (λ (o : RenderOptions). laid_parts plain_marking (sizing_of plain_marking c) (paragraph_values texts)
    (whole_page (new_sub width o c.held []))) is_plain
    ∙ ap (option_map (λ (l : Layings). l.parts))
    (page_walked links shared prints fits c.held width columns fitted texts begun_laid)
    ∙ twice (λ (l : Layings). l.parts) (laying links shared prints fits c.held width)
    (parts_at links shared prints fits c.held width) (all_laid width texts begun_laid) (λ b. refl)
