use Rattle.std.proofs.Common.{ap, ◌∙◌}
use Rattle.dom_styles.specs.Styles.{declared_by, with_val}
use Rattle.dom_styles.specs.Seen.{text_declared}
use Rattle.dom_styles.proofs.StyleLemmas.{colour_more, background_more, display_more, white_space_more, content_more}
use Rattle.dom_styles.proofs.computed.PlaceStyle.declare.Goals as goal

pub returns-in-Colour : goal.returns-in-Colour
returns-in-Colour c = λ ds h.
    colour_more ds (declared_by c.args.origin c.args.declaration.now) c.args.self.now h c.in-Colour.colour
    c.by_name.result c.maybe_update.new.self c.in-Colour.is c.by_name.ensures c.maybe_update.ensures

pub returns-in-BgColour : goal.returns-in-BgColour
returns-in-BgColour c = λ ds h.
    background_more ds (declared_by c.args.origin c.args.declaration.now) c.args.self.now h c.in-BgColour.colour
    c.by_name-in-BgColour.result c.maybe_update-in-BgColour.new.self c.in-BgColour.is c.by_name-in-BgColour.ensures
    c.maybe_update-in-BgColour.ensures

pub returns-in-Display : goal.returns-in-Display
returns-in-Display c = λ ds h.
    display_more ds (declared_by c.args.origin c.args.declaration.now) c.args.self.now h c.in-Display.display
    c.by_name-in-Display.result c.maybe_update-in-Display.new.self c.in-Display.is c.by_name-in-Display.ensures
    c.maybe_update-in-Display.ensures

pub returns-in-WhiteSpace : goal.returns-in-WhiteSpace
returns-in-WhiteSpace c = λ ds h.
    white_space_more ds (declared_by c.args.origin c.args.declaration.now) c.args.self.now h c.in-WhiteSpace.mode
    c.by_name-in-WhiteSpace.result c.maybe_update-in-WhiteSpace.new.self c.in-WhiteSpace.is
    c.by_name-in-WhiteSpace.ensures c.maybe_update-in-WhiteSpace.ensures

pub returns-in-Content : goal.returns-in-Content
returns-in-Content c = λ ds h.
    content_more ds (declared_by c.args.origin c.args.declaration.now) c.args.self.now h c.in-Content.text
    c.by_name-in-Content.result c.maybe_update-in-Content.new.self c.in-Content.is
    (ap text_declared c.by_name-in-Content.ensures
    ∙ ap (with_val (declared_by c.args.origin c.args.declaration.now)) c.as_str.ensures)
    c.maybe_update-in-Content.ensures
