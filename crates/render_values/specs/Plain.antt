-- Values of which no style is said.
use Rattle.std.specs.Prelude.{None}
use Rattle.render_values.specs.Looks.{plain}
use Rattle.render_values.specs.Values.{Values, none, value}
use Rattle.render_values.specs.declared.info.Head.{Head}
use Rattle.render_values.specs.declared.info.RenderInfo.{RenderInfo}
use Rattle.render_values.specs.declared.info.RenderInfo.TheVariants as infos

-- no style is said of it, and no fragment starts in it
abbrev pub plain_head : RenderInfo → Head
plain_head info = record { info = info; style = plain; fragment = None }

abbrev pub container : Values → Values
container inside = value (plain_head infos.Container) inside none
