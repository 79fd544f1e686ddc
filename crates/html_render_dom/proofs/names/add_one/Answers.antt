use Rattle.std.proofs.Common.{◌++◌, ◌∷◌, [], ap, subst, sym, ◌∙◌}
use Rattle.html_render_dom.proofs.NamesLemmas.{one_name_more}
use Rattle.html_render_dom.specs.Names.{HasNames}
use Rattle.html_render_dom.proofs.names.add_one.Goals as goal

pub returns-clause-known : goal.returns-clause-known
returns-clause-known c =
    subst (HasNames c.insert.new.self)
    (sym (c.in_ok-push.ensures.ok ∙ ap (λ a. c.args.held.now ++ a ∷ []) c.in_ok-try_clone-2.ensures))
    (one_name_more c.equal_names_are_the_same.ensures.qualified_name c.args.known.now c.insert.new.self c.args.held.now
    c.args.attribute.now c.requires (rw c.in_ok-try_clone.ensures at c.in_ok-insert.ensures.updates))
