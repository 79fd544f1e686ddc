use Rattle.std.proofs.Common.{rules, sym, subst}
use Rattle.std.proofs.lemmas.Str.{chars-IsAscii}
use Rattle.tree_names.proofs.SetLemmas.{ascii_word}
use Rattle.rules_table.specs.Actions.{act}
use Rattle.rules_table.specs.Settling.{Ready}
use Rattle.rules_actions.proofs.parse.Parse.insert_named.Goals as goal

pub returns-clause-seen : goal.returns-clause-seen
unfolding act
returns-clause-seen g c = search (rules, chars-IsAscii c.args.word.now (ascii_word c.args.word.now c.requires.ascii))

pub returns-clause-ready : goal.returns-clause-ready
returns-clause-ready g c =
    subst Ready (sym (returns-clause-seen g c)) (c.actions_keep_what_is_ready.ensures _ _ c.requires.ready)
