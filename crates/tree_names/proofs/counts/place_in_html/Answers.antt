use Rattle.std.proofs.Common.{refl, sym, ap, ◌∙◌}
use Rattle.html_lexemes.specs.declared.names.Namespace.TheVariants.{Html}
use Rattle.lex_base.proofs.NameLemmas.{found_at}
use Rattle.tree_names.specs.Counts.{count_in, shared_count}
use Rattle.tree_names.proofs.CountLemmas.{shares}
use Rattle.tree_names.proofs.counts.place_in_html.Goals as goal

pub place_of_known-requires : goal.place_of_known-requires
place_of_known-requires c = refl

pub returns-in-Some : goal.returns-in-Some
returns-in-Some c = c.place_of_known.ensures ∙ ap (count_in Html)
    (sym (found_at c.args.name.now c.in-Some.known (sym c.known.ensures ∙ c.in-Some.is)))

pub returns-in-None : goal.returns-in-None
returns-in-None c = c.shared_place.ensures ∙ ap shared_count c.as_str.ensures
    ∙ shares c.args.name.now (sym c.known.ensures ∙ c.in-None.is)
