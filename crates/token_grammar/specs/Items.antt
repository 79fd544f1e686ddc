-- What a tokenizer emits, as contracts see it: tokens without the wording of errors.
use Rattle.std.specs.Prelude.{ℕ, List}
use Rattle.html_lexemes.specs.declared.token.Tag.{Tag}
use Rattle.html_lexemes.specs.declared.token.Doctype.{Doctype}
use Rattle.html_lexemes.specs.declared.token.Token.{Token}
use Rattle.html_lexemes.specs.declared.token.Token.TheVariants.{CharacterTokens, CommentToken, DoctypeToken, EOFToken}
use Rattle.html_lexemes.specs.declared.token.Token.TheVariants.{NullCharacterToken, ParseError, TagToken}

pub data Item : Type 0 where
  characters : List ℕ → Item
  null_character : Item
  tag : Tag → Item
  comment : List ℕ → Item
  doctype : Doctype → Item
  error : Item
  end_of_file : Item

abbrev pub item_of : Token → Item
item_of (DoctypeToken d) = doctype d
item_of (TagToken t) = tag t
item_of (CommentToken cs) = comment cs
item_of (CharacterTokens cs) = characters cs
item_of NullCharacterToken = null_character
item_of EOFToken = end_of_file
item_of (ParseError message) = error
