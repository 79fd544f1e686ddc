-- Modes of white space (CSS Text, `white-space`).
use Rattle.std.specs.Prelude.{Bool, true, false}
use Rattle.text_pieces.specs.declared.white_space.WhiteSpace.{WhiteSpace}
use Rattle.text_pieces.specs.declared.white_space.WhiteSpace.TheVariants.{Normal, Pre, PreWrap}

-- white space stays, and lines end where the text has line ends
abbrev pub is_preserved : WhiteSpace → Bool
is_preserved Normal = false
is_preserved Pre = true
is_preserved PreWrap = true

-- lines break at white space
abbrev pub is_wrapped : WhiteSpace → Bool
is_wrapped Normal = true
is_wrapped Pre = false
is_wrapped PreWrap = true

abbrev pub is_same_mode : WhiteSpace → WhiteSpace → Bool
is_same_mode Normal Normal = true
is_same_mode Normal Pre = false
is_same_mode Normal PreWrap = false
is_same_mode Pre Normal = false
is_same_mode Pre Pre = true
is_same_mode Pre PreWrap = false
is_same_mode PreWrap Normal = false
is_same_mode PreWrap Pre = false
is_same_mode PreWrap PreWrap = true
