-- What is held of the text of an element.
use Rattle.std.specs.Prelude.{ℕ, Bool, true, false, ◌==◌, ◌&&◌, nat_lt, List, [], ◌∷◌, length, codes}
use Rattle.std.specs.Char.{to_ascii_lowercase}
use Rattle.std.specs.List.{list_all}
use Rattle.html_lexemes.specs.declared.states.RawKind.{RawKind}
use Rattle.html_lexemes.specs.declared.states.RawKind.TheVariants.{ScriptData, ScriptDataEscaped}
use Rattle.html_lexemes.specs.declared.states.ScriptEscapeKind.TheVariants.{Escaped, DoubleEscaped}
use Rattle.token_grammar.specs.Characters.{is_letter}
use Rattle.token_grammar.specs.Lexemes.{has_end_tags}
use Rattle.token_states.specs.declared.place.RawPlace.{RawPlace}
use Rattle.token_states.specs.declared.place.RawPlace.TheVariants.{Dashes, EndTagName, EscapeStart, EscapeWord}
use Rattle.token_states.specs.declared.place.RawPlace.TheVariants.{LessThanSign}

abbrev pub is_less_than_sign : List ℕ → Bool
is_less_than_sign (l ∷ []) = l == 60
is_less_than_sign _ = false

-- `</` and letters
abbrev pub is_end_tag_begun : List ℕ → Bool
is_end_tag_begun (l ∷ s ∷ cs) = l == 60 && s == 47 && list_all is_letter cs
is_end_tag_begun _ = false

-- at least `<!`, of `<!--`
abbrev pub is_escape_begun : List ℕ → Bool
is_escape_begun (l ∷ b ∷ []) = l == 60 && b == 33
is_escape_begun (l ∷ b ∷ d ∷ []) = l == 60 && b == 33 && d == 45
is_escape_begun _ = false

-- what begins the other escaped part, and a front of it, ASCII case aside, of at least two characters
abbrev pub word_of : RawKind → List ℕ
word_of (ScriptDataEscaped Escaped) = codes "<script"
word_of (ScriptDataEscaped DoubleEscaped) = codes "</script"
word_of kind = []

abbrev pub is_word_front : List ℕ → List ℕ → Bool
is_word_front word [] = true
is_word_front [] (c ∷ cs) = false
is_word_front (w ∷ ws) (c ∷ cs) = to_ascii_lowercase c == w && is_word_front ws cs

abbrev pub is_word_begun : List ℕ → List ℕ → Bool
is_word_begun word held = nat_lt 1 (length held) && is_word_front word held

abbrev pub is_one_dash_or_two : List ℕ → Bool
is_one_dash_or_two (d ∷ []) = d == 45
is_one_dash_or_two (d ∷ e ∷ []) = d == 45 && e == 45
is_one_dash_or_two _ = false

abbrev pub is_escaped : RawKind → Bool
is_escaped (ScriptDataEscaped kind) = true
is_escaped kind = false

abbrev pub is_script_data : RawKind → Bool
is_script_data ScriptData = true
is_script_data kind = false

abbrev pub is_raw_held : RawKind → RawPlace → List ℕ → Bool
is_raw_held kind LessThanSign held = is_less_than_sign held
is_raw_held kind EndTagName held = has_end_tags kind && is_end_tag_begun held
is_raw_held kind EscapeStart held = is_script_data kind && is_escape_begun held
is_raw_held kind EscapeWord held = is_escaped kind && is_word_begun (word_of kind) held
is_raw_held kind Dashes held = is_escaped kind && is_one_dash_or_two held
