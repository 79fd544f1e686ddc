use Rattle.std.proofs.Common.{sym, ap, ◌∙◌}
use Rattle.lex_base.proofs.KnownLemmas.{in_table}
use Rattle.lex_base.proofs.NameLemmas.{found_at, none_of}
use Rattle.lex_base.specs.Words.{is_one_of}
use Rattle.tree_names.proofs.tables.is_in.Goals as goal

pub returns-in-Some : goal.returns-in-Some
returns-in-Some c words are known = in_table words c.args.table.now _ c.in-Some.known are ∙ ap (is_one_of words)
    (sym (found_at c.args.name.now c.in-Some.known (sym c.known.ensures ∙ c.in-Some.is)))

pub returns-in-None : goal.returns-in-None
returns-in-None c words are known = sym (none_of words c.args.name.now known (sym c.known.ensures ∙ c.in-None.is))
