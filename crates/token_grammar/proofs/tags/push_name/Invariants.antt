-- What is pushed, and of what is left the name, are the whole.
use Rattle.std.proofs.Common.{◌++◌, chars, string_bytes}
use Rattle.token_grammar.specs.Characters.{name_of}
use Rattle.token_grammar.proofs.TagNameLemmas.{IsNamed}
use Rattle.token_grammar.proofs.tags.push_name.Given as goal

abbrev pub invariant-characters : goal.invariant-characters
invariant-characters l =
    IsNamed (string_bytes l.name) l.c-iterator.rest.now (chars (string_bytes l.fn.name) ++ name_of (chars l.text))
