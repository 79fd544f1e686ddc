-- What contracts see of tokens.
use Rattle.std.specs.Prelude.{ℕ, List, chars}
use Rattle.html_lexemes.specs.declared.token.ErrorMessage.{ErrorMessage}
use Rattle.html_lexemes.specs.declared.token.ErrorMessage.TheVariants.{Fixed, Made}

-- the message's text
abbrev pub message_text : ErrorMessage → List ℕ
message_text (Fixed text) = chars text.now
message_text (Made text) = text
