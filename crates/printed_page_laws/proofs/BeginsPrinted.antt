-- What a value begins and ends, and where it stands, holds no control character.
use Rattle.std.proofs.Common.{Bool, IfSome, List, Option, Some, [], false, true, ℕ}
use Rattle.std.specs.Prelude.{if◌then◌else◌}
use Rattle.block_layout_laws.proofs.OptionLemmas.{chained}
use Rattle.block_trait.specs.Calls as calls
use Rattle.block_trait.specs.Renderers.{Marking}
use Rattle.text_decorators.specs.Marks as marks
use Rattle.text_pieces.specs.declared.white_space.WhiteSpace.TheVariants.{Pre}
use Rattle.render_values.specs.declared.info.Head.{Head}
use Rattle.render_values.specs.declared.info.RenderInfo.{RenderInfo}
use Rattle.render_values.specs.declared.info.RenderInfo.TheVariants as infos
use Rattle.render_values.specs.declared.style.RenderStyle.{RenderStyle}
use Rattle.layout_state.specs.Begins.{begins, ends, following, fragment_leads, leading, named, rule_border, rule_laid}
use Rattle.layout_state.specs.Begins.{style_begins, style_ends}
use Rattle.layout_state.specs.Items.{item_mark, next_mark, padded, spaces}
use Rattle.layout_state.specs.LayoutState.{LayoutState, Step, after_prefix, goes_on, in_turn, mark_of, says}
use Rattle.layout_state.specs.declared.around.Around.{Around}
use Rattle.layout_state.specs.declared.around.Around.TheVariants.{Flow, Items}
use Rattle.layout_values.specs.Lay.{placed, styled}
use Rattle.printed_page_laws.proofs.StepsPrinted.{IsPrintedState, Prints, PrintsSteps, begins_link_printed}
use Rattle.printed_page_laws.proofs.StepsPrinted.{ends_link_printed, item_prefix, mark_printed, padded_printed}
use Rattle.printed_page_laws.proofs.StepsPrinted.{prefix_printed, prints_around, prints_either, prints_for, prints_none}
use Rattle.printed_page_laws.proofs.StepsPrinted.{prints_through, says_printed, spaces_printed}

-- ---- a value

pub list_printed : {H A : Type 0} (a : Around) (inside : Step H A) (x : LayoutState H A) → Prints inside
    → IsPrintedState x → IfSome (in_turn (goes_on a) (in_turn inside (goes_on Flow)) x) (IsPrintedState {H = H} {A = A})
list_printed a inside x prints printed = prints_through (goes_on a) (in_turn inside (goes_on Flow)) (prints_around a)
    (prints_through inside (goes_on Flow) prints (prints_around Flow)) x printed

border_by : {H A : Type 0} {m : Marking H A} (laws : PrintsSteps m) (drawn : Bool)
    → Prints (if drawn then says m calls.adds_border else Some)
border_by laws true = says_printed laws calls.adds_border tt
border_by laws false = prints_none

border_printed : {H A : Type 0} {m : Marking H A} (laws : PrintsSteps m) → Prints (rule_border m)
border_printed laws x printed = border_by laws x.parts.current.options.draw_borders x printed

rule_printed : {H A : Type 0} {m : Marking H A} (laws : PrintsSteps m) → Prints (rule_laid m)
rule_printed {m = m} laws =
    prints_through _ _ (prints_through _ _ (says_printed laws (calls.starts_mode Pre) tt)
    (prints_through _ _ (says_printed laws (calls.adds_text []) tt) (says_printed laws calls.ends_mode tt)))
    (prints_through _ _ (says_printed laws calls.ends_line tt) (border_printed laws))

pub begin_printed : {H A : Type 0} {m : Marking H A} (laws : PrintsSteps m) (info : RenderInfo) → Prints (begins m info)
unfolding begins
begin_printed laws (infos.Text cs) = says_printed laws (calls.adds_text cs) tt
begin_printed laws (infos.Image source title) = says_printed laws (calls.adds_image source title) tt
begin_printed laws infos.Break = says_printed laws calls.breaks_line tt
begin_printed laws infos.Rule = rule_printed laws
begin_printed laws (infos.Link target) = begins_link_printed laws target
begin_printed laws infos.Emphasis = says_printed laws (calls.starts_mark marks.emphasis_start) tt
begin_printed laws infos.Strong = says_printed laws (calls.starts_mark marks.strong_start) tt
begin_printed laws infos.Strikeout = says_printed laws calls.starts_strikeout tt
begin_printed laws infos.Code = says_printed laws (calls.starts_mark marks.code_start) tt
begin_printed laws infos.Superscript = says_printed laws (calls.starts_mark marks.superscript_start) tt
begin_printed laws infos.Block = says_printed laws calls.starts_block tt
begin_printed laws infos.Division = says_printed laws calls.ends_line tt
begin_printed laws (infos.Heading level) = says_printed laws calls.starts_block tt
begin_printed laws infos.Quote = says_printed laws calls.starts_block tt
begin_printed {m = m} laws infos.Preformatted =
    prints_through (says m calls.starts_block) (says m calls.starts_preformat)
    (says_printed laws calls.starts_block tt) (says_printed laws calls.starts_preformat tt)
begin_printed laws infos.Bullets = says_printed laws calls.starts_block tt
begin_printed laws (infos.Numbers first) = says_printed laws calls.starts_block tt
begin_printed laws infos.Descriptions = says_printed laws calls.starts_block tt
begin_printed {m = m} laws infos.Term =
    prints_through (says m calls.ends_line) (says m (calls.starts_mark marks.emphasis_start))
    (says_printed laws calls.ends_line tt) (says_printed laws (calls.starts_mark marks.emphasis_start) tt)
begin_printed laws infos.Nothing = prints_none
begin_printed laws infos.Container = prints_none
begin_printed laws infos.Details = prints_none
begin_printed laws infos.Table = prints_none
begin_printed laws infos.TableGroup = prints_none
begin_printed laws infos.TableRow = prints_none
begin_printed laws (infos.TableCell columns taken) = prints_none

pub end_printed : {H A : Type 0} {m : Marking H A} (laws : PrintsSteps m) (info : RenderInfo) → Prints (ends m info)
unfolding ends
end_printed laws (infos.Link target) = ends_link_printed laws
end_printed laws infos.Emphasis = says_printed laws (calls.ends_mark marks.emphasis_end) tt
end_printed laws infos.Strong = says_printed laws (calls.ends_mark marks.strong_end) tt
end_printed laws infos.Strikeout = says_printed laws calls.ends_strikeout tt
end_printed laws infos.Code = says_printed laws (calls.ends_mark marks.code_end) tt
end_printed laws infos.Superscript = says_printed laws (calls.ends_mark marks.superscript_end) tt
end_printed laws infos.Block = says_printed laws calls.ends_block tt
end_printed laws infos.Division = says_printed laws calls.ends_line tt
end_printed laws (infos.Heading level) = says_printed laws calls.ends_block tt
end_printed laws infos.Quote = says_printed laws calls.ends_block tt
end_printed {m = m} laws infos.Preformatted =
    prints_through (says m calls.ends_preformat) (says m calls.ends_block)
    (says_printed laws calls.ends_preformat tt) (says_printed laws calls.ends_block tt)
end_printed {m = m} laws infos.Term =
    prints_through (says m (calls.ends_mark marks.emphasis_end)) (says m calls.ends_line)
    (says_printed laws (calls.ends_mark marks.emphasis_end) tt) (says_printed laws calls.ends_line tt)
end_printed laws infos.Nothing = prints_none
end_printed laws (infos.Text cs) = prints_none
end_printed laws (infos.Image source title) = prints_none
end_printed laws infos.Break = prints_none
end_printed laws infos.Rule = prints_none
end_printed laws infos.Container = prints_none
end_printed laws infos.Bullets = prints_none
end_printed laws (infos.Numbers first) = prints_none
end_printed laws infos.Descriptions = prints_none
end_printed laws infos.Details = prints_none
end_printed laws infos.Table = prints_none
end_printed laws infos.TableGroup = prints_none
end_printed laws infos.TableRow = prints_none
end_printed laws (infos.TableCell columns taken) = prints_none

pub named_printed : {H A : Type 0} {m : Marking H A} (laws : PrintsSteps m) (fragment : Option (List ℕ))
    → Prints (named m fragment)
named_printed {m = m} laws fragment = prints_for fragment (λ name. says m (calls.starts_fragment name))
    (λ name. says_printed laws (calls.starts_fragment name) tt)

pub leading_printed : {H A : Type 0} {m : Marking H A} (laws : PrintsSteps m) (head : Head) → Prints (leading m head)
unfolding leading
leading_printed {m = m} laws head = prints_either (fragment_leads head.info) (named m head.fragment) Some
    (named_printed laws head.fragment) prints_none

pub following_printed : {H A : Type 0} {m : Marking H A} (laws : PrintsSteps m) (head : Head)
    → Prints (following m head)
unfolding following
following_printed {m = m} laws head = prints_either (fragment_leads head.info) Some (named m head.fragment) prints_none
    (named_printed laws head.fragment)

style_begins_printed : {H A : Type 0} {m : Marking H A} (laws : PrintsSteps m) (s : RenderStyle)
    → Prints (style_begins m s)
unfolding style_begins
style_begins_printed {m = m} laws s = prints_through _ _
    (prints_for s.colour (λ c. says m (calls.starts_colour (marks.colour_start c)))
    (λ c. says_printed laws (calls.starts_colour (marks.colour_start c)) tt))
    (prints_through _ _
    (prints_for s.background (λ c. says m (calls.starts_colour (marks.background_start c)))
    (λ c. says_printed laws (calls.starts_colour (marks.background_start c)) tt))
    (prints_for s.white_space (λ mode. says m (calls.starts_mode mode))
    (λ mode. says_printed laws (calls.starts_mode mode) tt)))

style_ends_printed : {H A : Type 0} {m : Marking H A} (laws : PrintsSteps m) (s : RenderStyle) → Prints (style_ends m s)
unfolding style_ends
style_ends_printed {m = m} laws s = prints_through _ _
    (prints_for s.white_space (λ mode. says m calls.ends_mode) (λ mode. says_printed laws calls.ends_mode tt))
    (prints_through _ _
    (prints_for s.background (λ c. says m (calls.ends_colour marks.background_end))
    (λ c. says_printed laws (calls.ends_colour marks.background_end) tt))
    (prints_for s.colour (λ c. says m (calls.ends_colour marks.colour_end))
    (λ c. says_printed laws (calls.ends_colour marks.colour_end) tt)))

pub styled_printed : {H A : Type 0} {m : Marking H A} (laws : PrintsSteps m) (s : RenderStyle) (inside : Step H A)
    → Prints inside → Prints (styled m s inside)
styled_printed {m = m} laws s inside prints =
    prints_through _ _ (style_begins_printed laws s) (prints_through _ _ prints (style_ends_printed laws s))

-- An item stands after its mark, which is filled up with spaces, and its further lines after spaces.
pub placed_printed : {H A : Type 0} {m : Marking H A} (laws : PrintsSteps m) (a : Around) (inside : Step H A)
    (x : LayoutState H A) → Prints inside → IsPrintedState x
    → IfSome (placed m a inside x) (IsPrintedState {H = H} {A = A})
placed_printed laws Flow inside x prints printed = prints x printed
placed_printed {H} {A} {m} laws (Items mark columns least) inside x prints printed =
    chained (IsPrintedState {H = H} {A = A}) (IsPrintedState {H = H} {A = A})
    (goes_on (Items (next_mark mark) columns least))
    (after_prefix m columns (padded columns (mark_of m (item_mark mark) x)) (spaces columns) least inside x)
    (prints_around (Items (next_mark mark) columns least))
    (prefix_printed laws columns (padded columns (mark_of m (item_mark mark) x)) (spaces columns) least inside x
    (padded_printed columns (mark_of m (item_mark mark) x) (mark_printed laws (item_mark mark) x (item_prefix mark)))
    (spaces_printed columns) prints printed)
