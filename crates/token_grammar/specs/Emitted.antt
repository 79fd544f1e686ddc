-- What follows a lexeme is text.
use Rattle.std.specs.Str.{IsUtf8}
use Rattle.token_grammar.specs.declared.lexemes.Lexeme.{Lexeme}
use Rattle.token_grammar.specs.declared.lexemes.Lexeme.TheVariants.{Nothing, Emitted, Tagged}

abbrev pub HasRest : Lexeme → Type 0
HasRest Nothing = Unit {0}
HasRest (Emitted tokens text rest) = IsUtf8 rest.now
HasRest (Tagged tag rest) = IsUtf8 rest.now
