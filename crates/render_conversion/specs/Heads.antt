-- Values without what stands in them.
use Rattle.std.specs.Prelude.{Some}
use Rattle.tree_forest.specs.Forest.{Kind}
use Rattle.text_pieces.specs.declared.white_space.WhiteSpace.TheVariants.{Pre}
use Rattle.render_values.specs.Looks.{or_else}
use Rattle.render_values.specs.declared.info.Head.{Head}
use Rattle.render_values.specs.declared.info.RenderInfo.{RenderInfo}
use Rattle.render_values.specs.declared.info.RenderInfo.TheVariants as infos
use Rattle.render_values.specs.declared.style.RenderStyle.{RenderStyle}
use Rattle.render_conversion.specs.Fragments.{fragment_of}

-- preformatted text keeps its white space unless a rule says other
abbrev pub look_of : RenderInfo → RenderStyle → RenderStyle
look_of infos.Preformatted look = record look { white_space = or_else look.white_space (Some Pre) }
look_of _ look = look

abbrev pub head_of : RenderInfo → RenderStyle → Kind → Head
head_of info look kind = record { info = info; style = look_of info look; fragment = fragment_of kind }
