-- What a sink that writes lines is emitted, and which of it has lines.
use Rattle.std.specs.Prelude.{ℕ, List, [], ◌∷◌, flat_map}
use Rattle.html_lexemes.specs.Tokens.{message_text}
use Rattle.html_lexemes.specs.declared.token.Token.{Token}
use Rattle.html_lexemes.specs.declared.token.Token.TheVariants.{ParseError}
use Rattle.test_token_lines.specs.TokenLines.{Part, shows, error_line, lines_of_parts, lines_with, parts_of}
use Rattle.test_token_lines.specs.declared.listed.Listed.{Listed}
use Rattle.test_token_lines.specs.declared.listed.Listing.{Listing}
use Rattle.test_token_lines.specs.declared.listed.Listing.TheVariants.{Tokens, Errors, Both}

-- the parts of an error
abbrev pub error_parts : Listing → List ℕ → ℕ → List Part
error_parts Tokens message number = []
error_parts Errors message number = shows (error_line message number) ∷ []
error_parts Both message number = shows (error_line message number) ∷ []

-- the parts of a token that is no error
abbrev pub token_parts : Listing → Token → List Part
token_parts Errors token = []
token_parts Tokens token = parts_of token
token_parts Both token = parts_of token

-- the parts of a token that is emitted at a line of the page
abbrev pub parts_heard : Listing → Token × ℕ → List Part
parts_heard listing (token, number) = by token where
  by : Token → List Part
  by (ParseError message) = error_parts listing (message_text message) number
  by _ = token_parts listing token

-- the lines of what a sink hears
abbrev pub lines_heard : Listing → List (Token × ℕ) → List ℕ
lines_heard listing heard = lines_of_parts (flat_map (parts_heard listing) heard)

-- the lines of what a sink was emitted, and of what it is given then
abbrev pub listed_with : Listed → List (Token × ℕ) → List ℕ
listed_with sink heard = lines_with sink.lines (flat_map (parts_heard sink.listing) heard)
