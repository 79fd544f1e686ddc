use Rattle.std.proofs.Common.{◌∙◌, sym, ap, ◌||◌, drop}
use Rattle.token_grammar.specs.declared.tags.TheConstants.{SEARCHED}
use Rattle.token_grammar.specs.TagParts.{is_named}
use Rattle.token_grammar.proofs.LaterNames.{first-or-later}
use Rattle.token_grammar.proofs.tags.has_name.Goals as goal

pub returns-else-is_first : goal.returns-else-is_first
returns-else-is_first c =
    c.contains.ensures ∙ c.requires c.args.name.now
    ∙ ap (λ b. b || is_named c.args.name.now (drop SEARCHED c.args.attributes.now))
    (sym c.if-is_first.false ∙ c.is_first.ensures)
    ∙ sym (first-or-later SEARCHED c.args.name.now c.args.attributes.now)
