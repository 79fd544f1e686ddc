-- How the text of a page is read: as markup, as text to its end, or as the text of an element (WHATWG HTML, 13.2.5.1 to
-- 13.2.5.5).
use Rattle.std.specs.Prelude.{ℕ, Bool, true, false, List, Option, Some}
use Rattle.html_lexemes.specs.declared.states.State.{State}
use Rattle.html_lexemes.specs.declared.states.State.TheVariants as states
use Rattle.token_grammar.specs.declared.modes.Mode.{Mode}
use Rattle.token_grammar.specs.declared.modes.TextKind.{TextKind}
use Rattle.token_grammar.specs.declared.modes.TextKind.TheVariants.{Ordinary, Plain, Raw}
use Rattle.html_lexemes.specs.declared.token.Tag.{Tag}
use Rattle.html_lexemes.specs.declared.token.TagKind.{TagKind}
use Rattle.html_lexemes.specs.declared.token.TagKind.TheVariants.{StartTag, EndTag}
use Rattle.html_lexemes.specs.declared.token.TokenSinkResult.{TokenSinkResult}
use Rattle.html_lexemes.specs.declared.token.TokenSinkResult.TheVariants.{Continue, EncodingIndicator, Plaintext}
use Rattle.html_lexemes.specs.declared.token.TokenSinkResult.TheVariants.{RawData, Script}

-- what a sink asks for by its answer to a tag
abbrev pub text_after : {H : Type 0} → TokenSinkResult H → TextKind
text_after Continue = Ordinary
text_after (Script handle) = Ordinary
text_after Plaintext = Plain
text_after (RawData kind) = Raw kind
text_after (EncodingIndicator encoding) = Ordinary

-- The answer asks for a pause: what follows the tag's `>` is read later.
abbrev pub is_pause : {H : Type 0} → TokenSinkResult H → Bool
is_pause (Script handle) = true
is_pause (EncodingIndicator encoding) = true
is_pause Continue = false
is_pause Plaintext = false
is_pause (RawData kind) = false

abbrev pub last_after : TagKind → List ℕ → Option (List ℕ) → Option (List ℕ)
last_after StartTag name last = Some name
last_after EndTag name last = last

-- the mode after a tag
abbrev pub next_mode : {H : Type 0} → Mode → Tag → TokenSinkResult H → Mode
next_mode mode t answer =
    record { text = text_after answer; last_start_tag = last_after t.kind t.name mode.last_start_tag }

-- the kind of text in which a page begins: plain or an element's where a state of such text is named, else ordinary
abbrev pub text_of_state : Option State → TextKind
text_of_state (Some states.Plaintext) = Plain
text_of_state (Some (states.RawData kind)) = Raw kind
text_of_state _ = Ordinary
