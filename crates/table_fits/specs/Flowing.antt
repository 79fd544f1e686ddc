-- How values flow, where the columns are measured that they ask for.
use Rattle.std.specs.Prelude.{ℕ, ◌+◌, [], ◌∷◌, ◌++◌, List, None, Option, Some, codes, if◌then◌else◌, max}
use Rattle.std.specs.Prelude.{unwrap_or}
use Rattle.block_trait.specs.Renderers.{image_title}
use Rattle.block_trait.specs.declared.options.RenderOptions.{RenderOptions}
use Rattle.column_fits.specs.Fits.{asked_by}
use Rattle.column_fits.specs.declared.fit.ColumnFit.{ColumnFit}
use Rattle.content_widths.specs.Flows.{FlowItem, block, capped, flow_widths, no_columns, text}
use Rattle.content_widths.specs.declared.widths.ContentWidths.{ContentWidths}
use Rattle.render_sizes.specs.Extents.{Measure}
use Rattle.render_values.specs.declared.info.Head.{Head}
use Rattle.render_values.specs.declared.info.RenderInfo.{RenderInfo}
use Rattle.render_values.specs.declared.info.RenderInfo.TheVariants as infos
use Rattle.table_fits.specs.declared.standing.Standing.{Standing}
use Rattle.table_fits.specs.declared.standing.Standing.TheVariants.{AfterPrefix, Along, Cell, Table}
use Rattle.text_pieces.specs.declared.white_space.WhiteSpace.{WhiteSpace}

-- what flows depend on: how the page is rendered, and what extents depend on
pub record Fitting : Type 0 where
  pub options : RenderOptions
  pub measure : Measure

abbrev pub fitting : RenderOptions → Measure → Fitting
fitting options measure = record { options = options; measure = measure }

abbrev pub widths_of : RenderOptions → List FlowItem → ContentWidths
widths_of options items = flow_widths options.wrap_width items

-- the mode of white space in a value: its own, else that around it
abbrev pub mode_in : WhiteSpace → Head → WhiteSpace
mode_in mode head = unwrap_or head.style.white_space mode

-- ---- before what stands in a value, and after it

abbrev pub line_break : FlowItem
line_break = block no_columns

abbrev pub image_flow : WhiteSpace → Option (List ℕ) → List FlowItem
image_flow mode None = []
image_flow mode (Some title) = text mode (codes "[") ∷ text mode title ∷ text mode (codes "]") ∷ []

-- after a link, where a footnote's number has up to three digits
abbrev pub link_end : RenderOptions → List ℕ
link_end options = if options.include_link_footnotes then codes "][000]" else codes "]"

abbrev pub leading : RenderOptions → WhiteSpace → RenderInfo → List FlowItem
leading options mode (infos.Text cs) = text mode cs ∷ []
leading options mode (infos.Image source title) = image_flow mode (image_title options.img_mode source title)
leading options mode infos.Break = line_break ∷ []
leading options mode infos.Rule = line_break ∷ []
leading options mode (infos.Link target) = text mode (codes "[") ∷ []
leading options mode infos.Superscript = text mode (codes "^{") ∷ []
leading options mode infos.Block = line_break ∷ []
leading options mode infos.Division = line_break ∷ []
leading options mode infos.Preformatted = line_break ∷ []
leading options mode infos.Bullets = line_break ∷ []
leading options mode (infos.Numbers first) = line_break ∷ []
leading options mode infos.Descriptions = line_break ∷ []
leading options mode infos.Term = line_break ∷ []
leading options mode _ = []

-- text after a list of descriptions follows on its last line
abbrev pub following : RenderOptions → WhiteSpace → RenderInfo → List FlowItem
following options mode (infos.Link target) = text mode (link_end options) ∷ []
following options mode infos.Superscript = text mode (codes "}") ∷ []
following options mode infos.Block = line_break ∷ []
following options mode infos.Division = line_break ∷ []
following options mode infos.Preformatted = line_break ∷ []
following options mode infos.Term = line_break ∷ []
following options mode _ = []

-- ---- what stands in it

abbrev pub standing : RenderInfo → Standing
standing (infos.Heading level) = AfterPrefix
standing infos.Quote = AfterPrefix
standing infos.Details = AfterPrefix
standing infos.Table = Table
standing (infos.TableCell columns rows) = Cell
standing _ = Along

-- the columns of the prefix after which it stands
abbrev pub prefix_of : Fitting → RenderInfo → ℕ
prefix_of f (infos.Heading level) = f.measure.prefixes.heading level
prefix_of f infos.Quote = f.measure.prefixes.quote
prefix_of f _ = 2

-- those after which each item of a list stands
abbrev pub items_prefix : Fitting → RenderInfo → (items : ℕ) → Option ℕ
items_prefix f infos.Bullets items = Some f.measure.prefixes.bullet
items_prefix f (infos.Numbers first) items = Some (f.measure.prefixes.numbers first items)
items_prefix f _ items = None

-- what stands after a prefix has a column at least
abbrev pub after_prefix : ℕ → ContentWidths → ContentWidths
after_prefix columns w =
    record { narrowest = capped (max w.narrowest 1 + columns); widest = capped (max w.widest 1 + columns) }

-- A table stands on lines of its own; one without a column shows nothing.
abbrev pub table_flow : List ColumnFit → List FlowItem
table_flow [] = []
table_flow (c ∷ fits) =
    block (record { narrowest = (asked_by (c ∷ fits)).low; widest = (asked_by (c ∷ fits)).high }) ∷ []

-- A cell is asked by its table.
abbrev pub standing_flow : Fitting → RenderInfo → Standing → (inside : List FlowItem) → List ColumnFit → List FlowItem
standing_flow f info Along inside fits = inside
standing_flow f info AfterPrefix inside fits = block (after_prefix (prefix_of f info) (widths_of f.options inside)) ∷ []
standing_flow f info Table inside fits = table_flow fits
standing_flow f info Cell inside fits = []

-- a value in a list is an item
abbrev pub placed : Fitting → (prefix : Option ℕ) → List FlowItem → List FlowItem
placed f None items = items
placed f (Some columns) items = block (after_prefix columns (widths_of f.options items)) ∷ []

-- a value, by what stands in it
abbrev pub value_flow : Fitting → WhiteSpace → (prefix : Option ℕ) → RenderInfo → (inside : List FlowItem)
    → List ColumnFit → List FlowItem
value_flow f mode prefix info inside fits =
    placed f prefix (leading f.options mode info ++ standing_flow f info (standing info) inside fits
    ++ following f.options mode info)
