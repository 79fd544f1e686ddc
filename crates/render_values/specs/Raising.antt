-- Superscript digits.
use Rattle.std.specs.Prelude.{ℕ, ◌&&◌, ◌==◌, Bool, false, if◌then◌else◌, map}
use Rattle.std.specs.Bool.{nat_le}
use Rattle.std.specs.List.{list_all}
use Rattle.render_values.specs.Emptiness.{holds_none}
use Rattle.render_values.specs.Looks.{within}
use Rattle.render_values.specs.Values.{Values, none, value}
use Rattle.render_values.specs.declared.info.Head.{Head}
use Rattle.render_values.specs.declared.info.RenderInfo.{RenderInfo}
use Rattle.render_values.specs.declared.info.RenderInfo.TheVariants as infos

-- 0 to 9
abbrev pub is_digit : ℕ → Bool
is_digit c = nat_le 0x30 c && nat_le c 0x39

abbrev pub are_digits : RenderInfo → Bool
are_digits (infos.Text cs) = list_all is_digit cs
are_digits _ = false

-- one text of digits
abbrev pub is_number : Values → Bool
is_number none = false
is_number (value head inside rest) = (holds_none inside && holds_none rest) && are_digits head.info

-- the superscript digits of Unicode
abbrev pub raised_digit : ℕ → ℕ
raised_digit c =
    if c == 0x31 then 0xB9 else if c == 0x32 then 0xB2 else if c == 0x33 then 0xB3 else if c == 0x30 then 0x2070
    else if c == 0x34 then 0x2074 else if c == 0x35 then 0x2075 else if c == 0x36 then 0x2076
    else if c == 0x37 then 0x2077 else if c == 0x38 then 0x2078 else if c == 0x39 then 0x2079 else c

abbrev pub raised_info : RenderInfo → RenderInfo
raised_info (infos.Text cs) = infos.Text (map raised_digit cs)
raised_info _ = infos.Nothing

-- of a superscript the first text in it, raised, as it looks there
abbrev pub raised : Head → Values → Head
raised head none = record head { info = infos.Nothing }
raised head (value own inside rest) =
    record { info = raised_info own.info; style = within head.style own.style; fragment = head.fragment }
