use Rattle.std.proofs.Common.{◌≡◌, ◌∙◌, sym, subst}
use Rattle.html_lexemes.specs.Names.{name_of, name_text}
use Rattle.html_lexemes.proofs.NameLemmas.{other_is_none}
use Rattle.lex_base.proofs.NameLemmas.{apart_back, same_known}
use Rattle.html_lexemes.proofs.names.LocalNamePartialEq.eq.Goals as goal

pub returns-in-Known-name : goal.returns-in-Known-name
returns-in-Known-name c = rw (sym c.self.view_is, sym c.other.view_is, c.in-Known.is, c.in-Known-name.is)
    (c.eq.ensures ∙ same_known c.in-Known.known c.in-Known-name.another)

pub returns-in-Other-name : goal.returns-in-Other-name
returns-in-Other-name c = rw (sym c.self.view_is, sym c.other.view_is, c.in-Known.is, c.in-Other-name.is)
    (sym (apart_back c.in-Known.known c.in-Other-name.field-0 (other_is_none c.in-Other-name.field-0
    (subst (λ n. name_of (name_text n) ≡ n) c.in-Other-name.is c.other.invariant))))
