-- What is done where a value begins and where it ends.
use Rattle.std.specs.Prelude.{ℕ, Bool, true, false, List, [], Option, Some, if◌then◌else◌}
use Rattle.text_pieces.specs.declared.white_space.WhiteSpace.TheVariants.{Pre}
use Rattle.block_trait.specs.Calls.{adds_border, adds_image, adds_text, breaks_line, ends_block, ends_colour, ends_line}
use Rattle.block_trait.specs.Calls.{ends_mark}
use Rattle.block_trait.specs.Calls.{ends_mode, ends_preformat, ends_strikeout, starts_block, starts_colour}
use Rattle.block_trait.specs.Calls.{starts_fragment, starts_mark, starts_mode, starts_preformat, starts_strikeout}
use Rattle.block_trait.specs.Renderers.{Marking}
use Rattle.text_decorators.specs.Marks.{background_end, background_start, code_end, code_start, colour_end}
use Rattle.text_decorators.specs.Marks.{colour_start, emphasis_end, emphasis_start, strong_end, strong_start}
use Rattle.text_decorators.specs.Marks.{superscript_end, superscript_start}
use Rattle.render_values.specs.declared.info.Head.{Head}
use Rattle.render_values.specs.declared.info.RenderInfo.{RenderInfo}
use Rattle.render_values.specs.declared.info.RenderInfo.TheVariants as infos
use Rattle.render_values.specs.declared.style.RenderStyle.{RenderStyle}
use Rattle.layout_state.specs.LayoutState.{Step, begins_link, ends_link, for_some, in_turn, says}

-- ---- before what stands in a value, and after it

-- A rule ends the line, or starts the block where that is awaited, as a text of mode `pre` does that has no characters;
-- and then it is a border, where borders are drawn.
abbrev pub rule_border : {H A : Type 0} → Marking H A → Step H A
rule_border m l = (if l.parts.current.options.draw_borders then says m adds_border else Some) l

abbrev pub no_text : {H A : Type 0} → Marking H A → Step H A
no_text m = in_turn (says m (adds_text [])) (says m ends_mode)

abbrev pub empty_text : {H A : Type 0} → Marking H A → Step H A
empty_text m = in_turn (says m (starts_mode Pre)) (no_text m)

abbrev pub rule_line : {H A : Type 0} → Marking H A → Step H A
rule_line m = in_turn (says m ends_line) (rule_border m)

abbrev pub rule_laid : {H A : Type 0} → Marking H A → Step H A
rule_laid m = in_turn (empty_text m) (rule_line m)

unfoldable pub begins : {H A : Type 0} → Marking H A → RenderInfo → Step H A
begins m (infos.Text cs) = says m (adds_text cs)
begins m (infos.Image source title) = says m (adds_image source title)
begins m infos.Break = says m breaks_line
begins m infos.Rule = rule_laid m
begins m (infos.Link target) = begins_link m target
begins m infos.Emphasis = says m (starts_mark emphasis_start)
begins m infos.Strong = says m (starts_mark strong_start)
begins m infos.Strikeout = says m starts_strikeout
begins m infos.Code = says m (starts_mark code_start)
begins m infos.Superscript = says m (starts_mark superscript_start)
begins m infos.Block = says m starts_block
begins m infos.Division = says m ends_line
begins m (infos.Heading level) = says m starts_block
begins m infos.Quote = says m starts_block
begins m infos.Preformatted = in_turn (says m starts_block) (says m starts_preformat)
begins m infos.Bullets = says m starts_block
begins m (infos.Numbers first) = says m starts_block
begins m infos.Descriptions = says m starts_block
begins m infos.Term = in_turn (says m ends_line) (says m (starts_mark emphasis_start))
begins m _ = Some

unfoldable pub ends : {H A : Type 0} → Marking H A → RenderInfo → Step H A
ends m (infos.Link target) = ends_link m
ends m infos.Emphasis = says m (ends_mark emphasis_end)
ends m infos.Strong = says m (ends_mark strong_end)
ends m infos.Strikeout = says m ends_strikeout
ends m infos.Code = says m (ends_mark code_end)
ends m infos.Superscript = says m (ends_mark superscript_end)
ends m infos.Block = says m ends_block
ends m infos.Division = says m ends_line
ends m (infos.Heading level) = says m ends_block
ends m infos.Quote = says m ends_block
ends m infos.Preformatted = in_turn (says m ends_preformat) (says m ends_block)
ends m infos.Term = in_turn (says m (ends_mark emphasis_end)) (says m ends_line)
ends m _ = Some

-- ---- fragments

-- A fragment starts before a text, an image, a break, a superscript, a list and a table, and else before what stands in
-- the value.
abbrev pub fragment_leads : RenderInfo → Bool
fragment_leads (infos.Text cs) = true
fragment_leads (infos.Image source title) = true
fragment_leads infos.Break = true
fragment_leads infos.Rule = true
fragment_leads infos.Superscript = true
fragment_leads infos.Bullets = true
fragment_leads (infos.Numbers first) = true
fragment_leads infos.Table = true
fragment_leads _ = false

abbrev pub named : {H A : Type 0} → Marking H A → Option (List ℕ) → Step H A
named m fragment = for_some fragment (λ name. says m (starts_fragment name))

unfoldable pub leading : {H A : Type 0} → Marking H A → Head → Step H A
leading m head = if fragment_leads head.info then named m head.fragment else Some

unfoldable pub following : {H A : Type 0} → Marking H A → Head → Step H A
following m head = if fragment_leads head.info then Some else named m head.fragment

-- ---- styles

unfoldable pub style_begins : {H A : Type 0} → Marking H A → RenderStyle → Step H A
style_begins m s = in_turn (for_some s.colour (λ c. says m (starts_colour (colour_start c))))
    (in_turn (for_some s.background (λ c. says m (starts_colour (background_start c))))
    (for_some s.white_space (λ mode. says m (starts_mode mode))))

unfoldable pub style_ends : {H A : Type 0} → Marking H A → RenderStyle → Step H A
style_ends m s = in_turn (for_some s.white_space (λ mode. says m ends_mode))
    (in_turn (for_some s.background (λ c. says m (ends_colour background_end)))
    (for_some s.colour (λ c. says m (ends_colour colour_end))))
