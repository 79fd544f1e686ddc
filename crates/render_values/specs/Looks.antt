-- How a value looks in another one.
use Rattle.std.specs.Prelude.{Option, None, Some}
use Rattle.render_values.specs.declared.style.RenderStyle.{RenderStyle}

abbrev pub plain : RenderStyle
plain = record { colour = None; background = None; white_space = None }

abbrev pub or_else : {A : Type 0} → Option A → Option A → Option A
or_else None outer = outer
or_else (Some own) outer = Some own

-- what the inner one leaves open is as the outer one says
abbrev pub within : (outer inner : RenderStyle) → RenderStyle
within outer inner = record {
  colour = or_else inner.colour outer.colour;
  background = or_else inner.background outer.background;
  white_space = or_else inner.white_space outer.white_space;
}
