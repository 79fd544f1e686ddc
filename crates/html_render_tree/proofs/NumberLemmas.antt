-- The lists of a page begin with numbers of 64 bits.
use Rattle.std.proofs.Common.{◌≡◌, ◌≤◌, ◌^◌, ◌-◌, [], ◌∷◌, Bool, List, None, Option, Some, arith, false, pos, refl, suc}
use Rattle.std.proofs.Common.{true, zero, ℕ, ℤ}
use Rattle.std.specs.Prelude.{◌||◌, FitsSigned, if◌then◌else◌, ◌&&◌, ◌==◌, not, unwrap_or, codes, is_some}
use Rattle.std.specs.Bool.{nat_le}
use Rattle.std.specs.Char.{is_whitespace}
use Rattle.std.specs.Int.{w64}
use Rattle.std.specs.List.{list_all}
use Rattle.std.specs.Str.{all_ascii_digits}
use Rattle.std.specs.Str.Parse.{digits_value}
use Rattle.std.proofs.lemmas.Bool.Decides.{nat_tests}
use Rattle.std.proofs.lemmas.Int.{ints}
use Rattle.tree_forest.specs.Trees.{Trees, node, trees}
use Rattle.tree_forest.specs.Trees as of_trees
use Rattle.tree_forest.specs.Forest.{Forest, Kind, comment, doctype, document, element, instruction, text}
use Rattle.html_lexemes.specs.declared.names.Attribute.{Attribute}
use Rattle.html_lexemes.specs.declared.names.QualName.{QualName}
use Rattle.render_conversion.specs.CompleteRows.{complete_row, dialog, drawing, drawn, has_caption, html_row, is_block}
use Rattle.render_conversion.specs.CompleteRows.{is_undrawn, is_unread, part, tabled}
use Rattle.render_conversion.specs.Conversion.{around, content, content_by, document_values, inside_of, valued, values}
use Rattle.render_conversion.specs.Inner.{closing, opening, table_head, table_parts, table_value, text_value}
use Rattle.render_conversion.specs.Kinds.{holds, leaf, means, nothing, pictured}
use Rattle.render_conversion.specs.ElementNames.{element_name, is_one_of}
use Rattle.render_conversion.specs.Heads.{head_of}
use Rattle.render_conversion.specs.Meanings.{by_pages, element_means, imaged, linked, meaning, or_empty, plain_row}
use Rattle.render_conversion.specs.Meanings.{row_of}
use Rattle.render_conversion.specs.Numbers.{negative, positive, read_digits, signed_of, start_of}
use Rattle.render_conversion.specs.Places.{is_guarded, is_shown}
use Rattle.render_conversion.specs.Styles.{Part, Parts, Styles, parts_of, styles_of}
use Rattle.render_conversion.specs.Titles.{is_svg, is_svg_space, title_of}
use Rattle.render_conversion.specs.declared.element_names.ElementName.{ElementName}
use Rattle.render_conversion.specs.declared.element_names.ElementName.TheVariants as elements
use Rattle.render_conversion.specs.declared.inner.Inner.{Inner}
use Rattle.render_conversion.specs.declared.inner.Inner.TheVariants.{Captioned, Children, Quoted, Spaced, TableParts}
use Rattle.render_conversion.specs.declared.kinds.Meaning.{Meaning}
use Rattle.render_conversion.specs.declared.options.Pages.{Pages}
use Rattle.render_conversion.specs.declared.options.Pages.TheVariants.{Complete, Plain}
use Rattle.render_values.specs.declared.closing.Condition.TheVariants.{Always, AnyCell, AnyShown, AnyValue}
use Rattle.render_conversion.specs.declared.options.ConversionOptions.{ConversionOptions}
use Rattle.render_conversion.specs.declared.place.Place.{Place}
use Rattle.render_conversion.specs.declared.place.Place.TheVariants as places
use Rattle.render_values.specs.Endings.{ended, ending}
use Rattle.render_values.specs.Raising.{raised, raised_info}
use Rattle.render_values.specs.Values.{Values, joined, none, value}
use Rattle.render_values.specs.declared.closing.Outcome.{Outcome}
use Rattle.render_values.specs.declared.closing.Outcome.TheVariants as outcomes
use Rattle.render_values.specs.declared.info.Head.{Head}
use Rattle.render_values.specs.declared.info.RenderInfo.{RenderInfo}
use Rattle.render_values.specs.declared.info.RenderInfo.TheVariants as infos
use Rattle.render_values.specs.declared.style.RenderStyle.{RenderStyle}
use Rattle.dom_styles.specs.declared.rules.StyleRule.{StyleRule}
use Rattle.tree_predicates.specs.Attributes.{value_of}
use Rattle.layout_laws.specs.WalkLaws.{AreNumbered, IsNumbered}

if_numbered : (b : Bool) (x y : Values) → AreNumbered x → AreNumbered y → AreNumbered (if b then x else y)
if_numbered true x y a b = a
if_numbered false x y a b = b

-- ---- numbers

abbrev Fits : Option ℤ → Type 0
Fits None = Unit {0}
Fits (Some z) = FitsSigned w64 z

if_fits : (b : Bool) (x y : Option ℤ) → Fits x → Fits y → Fits (if b then x else y)
if_fits true x y a b = a
if_fits false x y a b = b

abbrev AtMost : ℕ → Option ℕ → Type 0
AtMost most None = Unit {0}
AtMost most (Some n) = n ≤ most

if_at_most : (most n : ℕ) (digits fits : Bool) → (fits ≡ true → n ≤ most)
    → AtMost most (if digits && fits then Some n else None)
if_at_most most n true true h = h refl
if_at_most most n true false h = tt
if_at_most most n false fits h = tt

digits_at_most : (most : ℕ) (cs : List ℕ) → AtMost most (read_digits most cs)
digits_at_most most [] = tt
digits_at_most most (c ∷ cs) = if_at_most most (digits_value 10 (c ∷ cs)) (all_ascii_digits (c ∷ cs))
    (nat_le (digits_value 10 (c ∷ cs)) most) (λ e. grind (arith, nat_tests))

positive_fits : (n : Option ℕ) → AtMost (2 ^ 63 - 1) n → Fits (positive n)
positive_fits None h = tt
positive_fits (Some n) h = omega (arith, ints)

negative_fits : (n : Option ℕ) → AtMost (2 ^ 63) n → Fits (negative n)
negative_fits None h = tt
negative_fits (Some zero) h = omega (arith, ints)
negative_fits (Some (suc n)) h = omega (arith, ints)

signed_fits : (cs : List ℕ) → Fits (signed_of cs)
signed_fits [] = tt
signed_fits (c ∷ cs) =
    let plain = positive (read_digits (2 ^ 63 - 1) (c ∷ cs)) in
    let signed = if c == 0x2B then positive (read_digits (2 ^ 63 - 1) cs) else plain in
    if_fits (c == 0x2D) (negative (read_digits (2 ^ 63) cs)) signed
    (negative_fits (read_digits (2 ^ 63) cs) (digits_at_most (2 ^ 63) cs))
    (if_fits (c == 0x2B) (positive (read_digits (2 ^ 63 - 1) cs)) plain
    (positive_fits (read_digits (2 ^ 63 - 1) cs) (digits_at_most (2 ^ 63 - 1) cs))
    (positive_fits (read_digits (2 ^ 63 - 1) (c ∷ cs)) (digits_at_most (2 ^ 63 - 1) (c ∷ cs))))

or_one : (z : Option ℤ) → Fits z → FitsSigned w64 (unwrap_or z (pos 1))
or_one None h = omega (arith, ints)
or_one (Some z) h = h

start_fits : (start : Option (List ℕ)) → FitsSigned w64 (start_of start)
start_fits None = omega (arith, ints)
start_fits (Some cs) = or_one (signed_of cs) (signed_fits cs)

-- ---- what a node means

linked_numbered : (target : Option (List ℕ)) → IsNumbered (linked target).info
linked_numbered None = tt
linked_numbered (Some target) = tt

imaged_numbered : (source : List ℕ) (alternative : Option (List ℕ)) → IsNumbered (imaged source alternative).info
imaged_numbered [] alternative = tt
imaged_numbered (c ∷ cs) alternative = tt

pictured_numbered : (title : Option (List ℕ)) → IsNumbered (pictured title).info
pictured_numbered None = tt
pictured_numbered (Some title) = tt

row_numbered : (name : ElementName) (attributes : List Attribute) → IsNumbered (row_of name attributes).info
row_numbered elements.LeftOut attributes = tt
row_numbered elements.Anchor attributes = linked_numbered (value_of (codes "href") attributes)
row_numbered elements.Emphasis attributes = tt
row_numbered elements.Strong attributes = tt
row_numbered elements.Strikeout attributes = tt
row_numbered elements.Code attributes = tt
row_numbered elements.Superscript attributes = tt
row_numbered elements.Image attributes =
    imaged_numbered (or_empty (value_of (codes "src") attributes)) (value_of (codes "alt") attributes)
row_numbered elements.Break attributes = tt
row_numbered elements.WordBreak attributes = tt
row_numbered elements.Paragraph attributes = tt
row_numbered elements.Division attributes = tt
row_numbered (elements.Heading level) attributes = tt
row_numbered elements.Quote attributes = tt
row_numbered elements.Preformatted attributes = tt
row_numbered elements.Bullets attributes = tt
row_numbered elements.Numbers attributes = start_fits (value_of (codes "start") attributes)
row_numbered elements.Descriptions attributes = tt
row_numbered elements.Term attributes = tt
row_numbered elements.Details attributes = tt
row_numbered elements.Table attributes = tt
row_numbered elements.Other attributes = tt

by_svg : (b : Bool) (x y : Meaning) → IsNumbered x.info → IsNumbered y.info → IsNumbered (if b then x else y).info
by_svg true x y a b = a
by_svg false x y a b = b

plain_numbered : (name : QualName) (attributes : List Attribute) (inside : Trees)
    → IsNumbered (plain_row name attributes inside).info
plain_numbered name attributes inside = by_svg (is_svg (codes "svg") name) (pictured (title_of inside))
    (row_of (element_name name) attributes) (pictured_numbered (title_of inside))
    (row_numbered (element_name name) attributes)

-- rows of complete pages
abbrev RowNumbered : Option Meaning → Type 0
RowNumbered None = Unit {0}
RowNumbered (Some m) = IsNumbered m.info

if_row : (b : Bool) (x y : Option Meaning) → RowNumbered x → RowNumbered y → RowNumbered (if b then x else y)
if_row true x y a b = a
if_row false x y a b = b

dialog_numbered : (attributes : List Attribute) → IsNumbered (dialog attributes).info
dialog_numbered attributes = by_svg (is_some (value_of (codes "open") attributes)) (holds infos.Division) nothing tt tt

tabled_numbered : (inside : Trees) → IsNumbered (tabled inside).info
tabled_numbered inside = by_svg (has_caption inside) (means infos.Container AnyValue Captioned)
    (means infos.Table AnyCell TableParts) tt tt

html_numbered : (name : QualName) (attributes : List Attribute) (inside : Trees)
    → RowNumbered (html_row name attributes inside)
html_numbered name attributes inside =
    let is_table = is_one_of (codes "table" ∷ []) name in
    let is_q = is_one_of (codes "q" ∷ []) name in
    let is_listing = is_one_of (codes "listing" ∷ codes "plaintext" ∷ codes "xmp" ∷ []) name in
    let is_menu = is_one_of (codes "menu" ∷ codes "dir" ∷ []) name in
    let is_rule = is_one_of (codes "hr" ∷ []) name in
    let is_dialog = is_one_of (codes "dialog" ∷ []) name in
    let tables : Option Meaning = if is_table then Some (tabled inside) else None in
    let quotations : Option Meaning = if is_q then Some (means infos.Container Always Quoted) else tables in
    let listings : Option Meaning = if is_listing then Some (holds infos.Preformatted) else quotations in
    let menus : Option Meaning =
    if is_menu then Some (means infos.Bullets AnyValue (Children places.Items)) else listings in
    let rules : Option Meaning = if is_rule then Some (leaf infos.Rule) else menus in
    let dialogs : Option Meaning = if is_dialog then Some (dialog attributes) else rules in
    let blocks : Option Meaning = if is_block name then Some (holds infos.Division) else dialogs in
    if_row (is_unread name) (Some nothing) blocks tt
    (if_row (is_block name) (Some (holds infos.Division)) dialogs tt
    (if_row is_dialog (Some (dialog attributes)) rules (dialog_numbered attributes)
    (if_row is_rule (Some (leaf infos.Rule)) menus tt
    (if_row is_menu (Some (means infos.Bullets AnyValue (Children places.Items))) listings tt
    (if_row is_listing (Some (holds infos.Preformatted)) quotations tt
    (if_row is_q (Some (means infos.Container Always Quoted)) tables tt
    (if_row is_table (Some (tabled inside)) None (tabled_numbered inside) tt)))))))

drawing_numbered : (title : Option (List ℕ)) → IsNumbered (drawing title).info
drawing_numbered None = tt
drawing_numbered (Some title) = tt

drawn_numbered : (name : QualName) (inside : Trees) → IsNumbered (drawn name inside).info
drawn_numbered name inside =
    let is_text = is_svg (codes "text") name || is_svg (codes "foreignobject") name in
    let spans : Meaning = if is_svg (codes "tspan") name then holds infos.Container else part in
    let texts : Meaning = if is_text then means infos.Container AnyShown Spaced else spans in
    let drawings : Meaning = if is_svg (codes "svg") name then drawing (title_of inside) else texts in
    by_svg (is_undrawn name) nothing drawings tt
    (by_svg (is_svg (codes "svg") name) (drawing (title_of inside)) texts (drawing_numbered (title_of inside))
    (by_svg is_text (means infos.Container AnyShown Spaced) spans tt
    (by_svg (is_svg (codes "tspan") name) (holds infos.Container) part tt tt)))

complete_numbered : (name : QualName) (attributes : List Attribute) (inside : Trees)
    → RowNumbered (complete_row name attributes inside)
complete_numbered name attributes inside =
    if_row (is_svg_space name.ns) (Some (drawn name inside)) (html_row name attributes inside)
    (drawn_numbered name inside) (html_numbered name attributes inside)

by_pages_numbered : (pages : Pages) (row : Option Meaning) (m : Meaning) → RowNumbered row → IsNumbered m.info
    → IsNumbered (by_pages pages row m).info
by_pages_numbered pages None m a b = b
by_pages_numbered Plain (Some complete) m a b = b
by_pages_numbered Complete (Some complete) m a b = a

named_numbered : (pages : Pages) (name : QualName) (attributes : List Attribute) (inside : Trees)
    → IsNumbered (by_pages pages (complete_row name attributes inside) (plain_row name attributes inside)).info
named_numbered pages name attributes inside = by_pages_numbered pages (complete_row name attributes inside)
    (plain_row name attributes inside) (complete_numbered name attributes inside)
    (plain_numbered name attributes inside)

element_numbered : (pages : Pages) (place : Place) (name : QualName) (attributes : List Attribute) (inside : Trees)
    → IsNumbered (element_means pages place name attributes inside).info
element_numbered pages places.Groups name attributes inside = tt
element_numbered pages places.Feet name attributes inside = tt
element_numbered pages places.Captions name attributes inside = tt
element_numbered pages places.Rows name attributes inside = tt
element_numbered pages places.Cells name attributes inside = tt
element_numbered pages places.Nowhere name attributes inside = named_numbered pages name attributes inside
element_numbered pages places.Flow name attributes inside = named_numbered pages name attributes inside
element_numbered pages places.Items name attributes inside = named_numbered pages name attributes inside

means_numbered : (pages : Pages) (place : Place) (kind : Kind) (inside : Trees)
    → IsNumbered (meaning pages place kind inside).info
means_numbered pages place document inside = tt
means_numbered pages place (text cs) inside = tt
means_numbered pages place (comment cs) inside = tt
means_numbered pages place (doctype name public system) inside = tt
means_numbered pages place (instruction target cs) inside = tt
means_numbered pages place (element e) inside = element_numbered pages place e.name e.attributes inside

-- ---- values

joined_numbered : (a b : Values) → AreNumbered a → AreNumbered b → AreNumbered (joined a b)
joined_numbered none b first second = second
joined_numbered (value head inside rest) b first second =
    (first.0, (first.1.0, joined_numbered rest b first.1.1 second))

content_by_numbered : (place : Place) (look : RenderStyle) (emitted : Option (List ℕ))
    → AreNumbered (content_by place look emitted)
content_by_numbered places.Flow look (Some cs) = (tt, (tt, tt))
content_by_numbered places.Items look (Some cs) =
    if_numbered (list_all is_whitespace cs) none (text_value look cs) tt (tt, (tt, tt))
content_by_numbered places.Flow look None = tt
content_by_numbered places.Items look None = tt
content_by_numbered places.Nowhere look emitted = tt
content_by_numbered places.Groups look emitted = tt
content_by_numbered places.Feet look emitted = tt
content_by_numbered places.Captions look emitted = tt
content_by_numbered places.Rows look emitted = tt
content_by_numbered places.Cells look emitted = tt

content_numbered : (place : Place) (part : Part) → AreNumbered (content place part)
content_numbered place part = if_numbered part.hidden none (content_by place part.look part.content) tt
    (content_by_numbered place part.look part.content)

around_numbered : (place : Place) (style : Parts) (inside : Values) → AreNumbered inside
    → AreNumbered (around place style inside)
around_numbered place style inside h = joined_numbered (content place style.before)
    (joined inside (content place style.after)) (content_numbered place style.before)
    (joined_numbered inside (content place style.after) h (content_numbered place style.after))

raised_info_numbered : (info : RenderInfo) → IsNumbered (raised_info info)
raised_info_numbered infos.Nothing = tt
raised_info_numbered infos.Container = tt
raised_info_numbered (infos.Text cs) = tt
raised_info_numbered (infos.Image source title) = tt
raised_info_numbered infos.Break = tt
raised_info_numbered infos.Rule = tt
raised_info_numbered (infos.Link target) = tt
raised_info_numbered infos.Emphasis = tt
raised_info_numbered infos.Strong = tt
raised_info_numbered infos.Strikeout = tt
raised_info_numbered infos.Code = tt
raised_info_numbered infos.Superscript = tt
raised_info_numbered infos.Block = tt
raised_info_numbered infos.Division = tt
raised_info_numbered (infos.Heading level) = tt
raised_info_numbered infos.Quote = tt
raised_info_numbered infos.Preformatted = tt
raised_info_numbered infos.Bullets = tt
raised_info_numbered (infos.Numbers first) = tt
raised_info_numbered infos.Descriptions = tt
raised_info_numbered infos.Term = tt
raised_info_numbered infos.Details = tt
raised_info_numbered infos.Table = tt
raised_info_numbered infos.TableGroup = tt
raised_info_numbered infos.TableRow = tt
raised_info_numbered (infos.TableCell columns rows) = tt

raised_numbered : (head : Head) (inside : Values) → IsNumbered (raised head inside).info
raised_numbered head none = tt
raised_numbered head (value own inside rest) = raised_info_numbered own.info

ended_numbered : (outcome : Outcome) (head : Head) (inside rest : Values) → IsNumbered head.info → AreNumbered inside
    → AreNumbered rest → AreNumbered (ended outcome head inside rest)
ended_numbered outcomes.Stays head inside rest h i r = (h, (i, r))
ended_numbered outcomes.Raised head inside rest h i r = (raised_numbered head inside, (tt, r))
ended_numbered outcomes.Fragment head inside rest h i r = (tt, (tt, r))
ended_numbered outcomes.Goes head inside rest h i r = r

table_numbered : (inside : Values) → AreNumbered inside → AreNumbered (table_value inside)
table_numbered inside h =
    ended_numbered (ending AnyCell false table_head inside) table_head inside none tt h tt

abbrev EachNumbered : (at : Place → Values) → Type 0
EachNumbered at = (place : Place) → AreNumbered (at place)

parts_numbered : (at : Place → Values) → EachNumbered at → AreNumbered (table_parts at)
parts_numbered at h = joined_numbered (at places.Groups) (at places.Feet) (h places.Groups) (h places.Feet)

between_numbered : (opening inside closing : Values) → AreNumbered opening → AreNumbered inside → AreNumbered closing
    → AreNumbered (joined opening (joined inside closing))
between_numbered opening inside closing a b c =
    joined_numbered opening (joined inside closing) a (joined_numbered inside closing b c)

inside_numbered : (inner : Inner) (style : Parts) (at : Place → Values) → EachNumbered at
    → AreNumbered (inside_of inner style at)
inside_numbered (Children place) style at h = around_numbered place style (at place) (h place)
inside_numbered Quoted style at h =
    between_numbered (opening Quoted) (around places.Flow style (at places.Flow)) (closing Quoted) (tt, (tt, tt))
    (around_numbered places.Flow style (at places.Flow) (h places.Flow)) (tt, (tt, tt))
inside_numbered Spaced style at h =
    between_numbered (opening Spaced) (around places.Flow style (at places.Flow)) (closing Spaced) (tt, (tt, tt))
    (around_numbered places.Flow style (at places.Flow) (h places.Flow)) (tt, (tt, tt))
inside_numbered TableParts style at h = parts_numbered at h
inside_numbered Captioned style at h =
    joined_numbered (at places.Captions) (table_value (table_parts at)) (h places.Captions)
    (table_numbered (table_parts at) (parts_numbered at h))

valued_numbered : (m : Meaning) (guarded : Bool) (kind : Kind) (style : Parts) (at : Place → Values) (rest : Values)
    → IsNumbered m.info → EachNumbered at → AreNumbered rest → AreNumbered (valued m guarded kind style at rest)
valued_numbered m guarded kind style at rest h i r = ended_numbered
    (ending m.condition guarded (head_of m.info style.itself.look kind) (inside_of m.inner style at))
    (head_of m.info style.itself.look kind) (inside_of m.inner style at) rest h
    (inside_numbered m.inner style at i)
    r

values_numbered : (o : ConversionOptions) (styles : Styles) (place : Place) (nodes : Trees)
    → AreNumbered (values o styles place nodes)
values_numbered o styles place of_trees.none = tt
values_numbered o styles place (node kind kids rest) =
    let m = meaning o.pages place kind kids in
    let at : Place → Values = λ inner. values o styles inner kids in
    let trailing = values o styles place rest in
    if_numbered (is_shown o place kind && not (parts_of styles kind).itself.hidden)
    (valued m (is_guarded place kind) kind (parts_of styles kind) at trailing) trailing
    (valued_numbered m (is_guarded place kind) kind (parts_of styles kind) at trailing
    (means_numbered o.pages place kind kids) (λ inner. values_numbered o styles inner kids)
    (values_numbered o styles place rest))
    (values_numbered o styles place rest)

pub pages_numbered : (o : ConversionOptions) (rules : List StyleRule) (f : Forest) →
    AreNumbered (document_values o rules f)
pages_numbered o rules f = values_numbered o (styles_of rules) places.Flow (trees f (0 ∷ []))
