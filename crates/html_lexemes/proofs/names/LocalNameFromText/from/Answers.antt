use Rattle.std.proofs.Common.{sym, ap, ◌∙◌}
use Rattle.lex_base.specs.Known.{known_at}
use Rattle.lex_base.proofs.NameLemmas.{found_at}
use Rattle.html_lexemes.proofs.names.LocalNameFromText.from.Goals as goal

pub returns-in-Some : goal.returns-in-Some
returns-in-Some c = c.from_known.ensures ∙ sym (found_at c.args.name c.in-Some.known
    (ap known_at (sym c.as_str.ensures) ∙ (sym c.known_of.ensures ∙ c.in-Some.is)))
