-- What the plain reader's values mean: slices, references, tags and lexemes as the grammar has them.
use Rattle.std.specs.Prelude.{ℕ, List, chars}
use denote.Ref.{Bor}
use Rattle.html_lexemes.specs.declared.token.Doctype.{Doctype}
use Rattle.html_lexemes.specs.declared.token.Tag.{Tag}
use Rattle.token_grammar.specs.Doctypes.{DoctypeEnd}
use Rattle.token_grammar.specs.References as grammar
use Rattle.token_grammar.specs.Slices.{Cut}
use Rattle.token_grammar.specs.declared.references.Found.{Found}

-- a slice and what follows it
abbrev pub cut_of : Bor (List ℕ) × Bor (List ℕ) → Cut
cut_of p = record { slice = chars p.0.now; rest = chars p.1.now }

abbrev pub found_of : Found → grammar.Found
found_of found = record { characters = found.characters; closed = found.closed; rest = chars found.rest.now }

abbrev pub tag_and_rest : Tag × Bor (List ℕ) → Tag × List ℕ
tag_and_rest p = (p.0, chars p.1.now)

abbrev pub doctype_and_rest : Doctype × Bor (List ℕ) → DoctypeEnd
doctype_and_rest p = record { doctype = p.0; rest = chars p.1.now }
