-- Values that show nothing by themselves.
use Rattle.std.specs.Prelude.{◌&&◌, ◌||◌, Bool, true, false, is_none}
use Rattle.std.specs.Char.{is_whitespace}
use Rattle.std.specs.List.{list_all}
use Rattle.render_values.specs.Values.{Values, none, value}
use Rattle.render_values.specs.declared.info.Head.{Head}
use Rattle.render_values.specs.declared.info.RenderInfo.{RenderInfo}
use Rattle.render_values.specs.declared.info.RenderInfo.TheVariants as infos

abbrev pub holds_none : Values → Bool
holds_none none = true
holds_none (value head inside rest) = false

-- text or title of white space, a break, a rule, or what nothing stands in; a table never
abbrev pub is_empty_info : RenderInfo → (alone : Bool) → Bool
is_empty_info (infos.Text cs) alone = list_all is_whitespace cs
is_empty_info (infos.Image source title) alone = list_all is_whitespace title
is_empty_info infos.Break alone = true
is_empty_info infos.Rule alone = true
is_empty_info infos.Table alone = false
is_empty_info _ alone = alone

abbrev pub is_nothing : RenderInfo → Bool
is_nothing infos.Nothing = true
is_nothing _ = false

-- shallow-empty: a fragment alone, or what shows nothing and in which no fragment starts
abbrev pub is_empty_value : Head → (alone : Bool) → Bool
is_empty_value head alone = is_nothing head.info || (is_none head.fragment && is_empty_info head.info alone)

abbrev pub all_empty : Values → Bool
all_empty none = true
all_empty (value head inside rest) = is_empty_value head (holds_none inside) && all_empty rest
