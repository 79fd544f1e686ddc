use Rattle.std.proofs.Common.{refl, sym, ap, ◌∙◌}
use Rattle.lex_base.proofs.NameLemmas.{found_at}
use Rattle.tree_names.specs.Groups.{tag_group}
use Rattle.tree_names.proofs.GroupLemmas.{group_in_table, no_group}
use Rattle.tree_names.proofs.group.TagGroup.of.Goals as goal

pub returns-in-Some : goal.returns-in-Some
returns-in-Some c = group_in_table _ _ c.in-Some.known refl ∙ ap tag_group
    (sym (found_at c.args.name.now c.in-Some.known (sym c.known.ensures ∙ c.in-Some.is)))

pub returns-in-None : goal.returns-in-None
returns-in-None c = sym (no_group c.args.name.now (sym c.known.ensures ∙ c.in-None.is))
