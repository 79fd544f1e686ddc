use Rattle.std.proofs.Common.{◌∙◌, ◌||◌, ◌&&◌, List, drop, length, ap, sym}
use Rattle.std.specs.Bool.{nat_le}
use Rattle.std.specs.Str.{bytes_eq}
use Rattle.html_lexemes.specs.declared.names.Attribute.{Attribute}
use Rattle.token_grammar.specs.declared.tags.TheConstants.{SEARCHED}
use Rattle.token_grammar.specs.TagParts.{is_named}
use Rattle.token_grammar.proofs.LaterNames.{later-more}
use Rattle.token_grammar.proofs.tags.add_new.Goals as goal

pub returns-clause-later : goal.returns-clause-later
returns-clause-later c = λ name.
    c.in_ok-add_later.ensures name
    ∙ ap (λ b. b || (nat_le SEARCHED (length c.as_slice-2.result.now) && bytes_eq c.args.attribute.name.local name))
    (c.requires name)
    ∙ ap (λ (xs : List Attribute). is_named name (drop SEARCHED c.args.attributes.now)
    || (nat_le SEARCHED (length xs) && bytes_eq c.args.attribute.name.local name)) c.as_slice-2.ensures
    ∙ sym (later-more SEARCHED name c.args.attributes.now c.args.attribute)
    ∙ ap (λ (xs : List Attribute). is_named name (drop SEARCHED xs)) (sym c.in_ok-push.ensures.ok)
