-- What the plain reader's lexemes mean.
use Rattle.std.specs.Prelude.{List, map, chars}
use Rattle.html_lexemes.specs.declared.token.Token.{Token}
use Rattle.token_grammar.specs.Items.{Item, item_of}
use Rattle.token_grammar.specs.Lexemes as grammar
use Rattle.token_grammar.specs.declared.lexemes.Lexeme.{Lexeme}
use Rattle.token_grammar.specs.declared.lexemes.Lexeme.TheVariants.{Nothing, Emitted, Tagged}
use Rattle.token_grammar.specs.declared.modes.Mode.{Mode}

abbrev pub items_of : List Token → List Item
items_of tokens = map item_of tokens

-- a lexeme that was read in a mode
abbrev pub lexeme_of : Mode → Lexeme → grammar.Lexeme
lexeme_of mode Nothing = grammar.nothing
lexeme_of mode (Emitted tokens text rest) =
    grammar.emitted (items_of tokens.items) (record mode { text = text }) (chars rest.now)
lexeme_of mode (Tagged tag rest) = grammar.tagged tag (chars rest.now)
