-- A name as it is held: a known one, or its text.
use Rattle.std.specs.Prelude.{ℕ, List, Option, None, Some}
use Rattle.lex_base.specs.Known.{known_at, known_text}
use Rattle.lex_base.specs.declared.known.KnownName.{KnownName}
use Rattle.html_lexemes.specs.declared.names.Name.{Name}
use Rattle.html_lexemes.specs.declared.names.Name.TheVariants.{Known, Other}

abbrev pub name_text : Name → List ℕ
name_text (Known known) = known_text known
name_text (Other text) = text

abbrev pub name_at : Option KnownName → List ℕ → Name
name_at None text = Other text
name_at (Some known) text = Known known

-- how a text is held
abbrev pub name_of : List ℕ → Name
name_of text = name_at (known_at text) text
