-- The table of conversion: of each node the kind of its value, when it has it, and where its children stand.
use Rattle.std.specs.Prelude.{ℕ, if◌then◌else◌, List, [], ◌∷◌, Option, None, Some, codes}
use Rattle.tree_forest.specs.Trees.{Trees}
use Rattle.tree_forest.specs.Forest.{Kind, comment, doctype, document, element, instruction, text}
use Rattle.html_lexemes.specs.declared.names.Attribute.{Attribute}
use Rattle.html_lexemes.specs.declared.names.QualName.{QualName}
use Rattle.tree_predicates.specs.Attributes.{value_of}
use Rattle.render_values.specs.declared.closing.Condition.TheVariants.{Always, AnyCell, AnyShown, AnyValue, Digits}
use Rattle.render_values.specs.declared.info.RenderInfo.TheVariants as infos
use Rattle.render_conversion.specs.ElementNames.{element_name}
use Rattle.render_conversion.specs.Numbers.{span_of, start_of}
use Rattle.render_conversion.specs.Titles.{is_svg, title_of}
use Rattle.render_conversion.specs.declared.element_names.ElementName.{ElementName}
use Rattle.render_conversion.specs.declared.element_names.ElementName.TheVariants as elements
use Rattle.render_conversion.specs.Kinds.{holds, leaf, means, nothing, pictured}
use Rattle.render_conversion.specs.CompleteRows.{complete_row}
use Rattle.render_conversion.specs.declared.inner.Inner.TheVariants.{Children}
use Rattle.render_conversion.specs.declared.kinds.Meaning.{Meaning}
use Rattle.render_conversion.specs.declared.options.Pages.{Pages}
use Rattle.render_conversion.specs.declared.options.Pages.TheVariants.{Complete, Plain}
use Rattle.render_conversion.specs.declared.place.Place.{Place}
use Rattle.render_conversion.specs.declared.place.Place.TheVariants.{Captions, Cells, Feet, Flow, Groups, Items, Rows}

-- `a`: with a target a link, where a child shows something
abbrev pub linked : (target : Option (List ℕ)) → Meaning
linked None = holds infos.Container
linked (Some target) = means (infos.Link target) AnyShown (Children Flow)

abbrev pub or_empty : Option (List ℕ) → List ℕ
or_empty None = []
or_empty (Some cs) = cs

-- `img`: an image where it has a source that is not empty
abbrev pub imaged : (source : List ℕ) → (alternative : Option (List ℕ)) → Meaning
imaged [] alternative = nothing
imaged (c ∷ cs) alternative = leaf (infos.Image (c ∷ cs) (or_empty alternative))

-- elements of HTML
abbrev pub row_of : ElementName → List Attribute → Meaning
row_of elements.LeftOut attributes = nothing
row_of elements.Anchor attributes = linked (value_of (codes "href") attributes)
row_of elements.Emphasis attributes = holds infos.Emphasis
row_of elements.Strong attributes = holds infos.Strong
row_of elements.Strikeout attributes = holds infos.Strikeout
row_of elements.Code attributes = holds infos.Code
row_of elements.Superscript attributes = means infos.Superscript Digits (Children Flow)
row_of elements.Image attributes =
    imaged (or_empty (value_of (codes "src") attributes)) (value_of (codes "alt") attributes)
row_of elements.Break attributes = leaf infos.Break
row_of elements.WordBreak attributes = leaf (infos.Text (0x200B ∷ []))
row_of elements.Paragraph attributes = holds infos.Block
row_of elements.Division attributes = holds infos.Division
row_of (elements.Heading level) attributes = holds (infos.Heading level)
row_of elements.Quote attributes = holds infos.Quote
row_of elements.Preformatted attributes = holds infos.Preformatted
row_of elements.Bullets attributes = means infos.Bullets AnyValue (Children Items)
row_of elements.Numbers attributes =
    means (infos.Numbers (start_of (value_of (codes "start") attributes))) AnyValue (Children Items)
row_of elements.Descriptions attributes = holds infos.Descriptions
row_of elements.Term attributes = holds infos.Term
row_of elements.Details attributes = holds infos.Details
row_of elements.Table attributes = means infos.Table AnyCell (Children Groups)
row_of elements.Other attributes = holds infos.Container

abbrev pub cell : List Attribute → Meaning
cell attributes =
    holds (infos.TableCell (span_of (value_of (codes "colspan") attributes))
    (span_of (value_of (codes "rowspan") attributes)))

-- elements of HTML, and drawings
abbrev pub plain_row : QualName → List Attribute → (inside : Trees) → Meaning
plain_row name attributes inside =
    if is_svg (codes "svg") name then pictured (title_of inside) else row_of (element_name name) attributes

-- the rows of complete pages stand before these
abbrev pub by_pages : Pages → Option Meaning → Meaning → Meaning
by_pages pages None plain = plain
by_pages Plain (Some complete) plain = plain
by_pages Complete (Some complete) plain = complete

-- in a table its parts
abbrev pub element_means : Pages → Place → QualName → List Attribute → (inside : Trees) → Meaning
element_means pages Groups name attributes inside = means infos.TableGroup Always (Children Rows)
element_means pages Feet name attributes inside = means infos.TableGroup Always (Children Rows)
element_means pages Captions name attributes inside = holds infos.Block
element_means pages Rows name attributes inside = means infos.TableRow Always (Children Cells)
element_means pages Cells name attributes inside = cell attributes
element_means pages _ name attributes inside =
    by_pages pages (complete_row name attributes inside) (plain_row name attributes inside)

-- a node that is looked at, with what stands in it; a document has a value where something in it has one
abbrev pub meaning : Pages → Place → Kind → (inside : Trees) → Meaning
meaning pages place document inside = means infos.Container AnyValue (Children Flow)
meaning pages place (text cs) inside = leaf (infos.Text cs)
meaning pages place (comment cs) inside = nothing
meaning pages place (doctype name public system) inside = nothing
meaning pages place (instruction target cs) inside = nothing
meaning pages place (element e) inside = element_means pages place e.name e.attributes inside
