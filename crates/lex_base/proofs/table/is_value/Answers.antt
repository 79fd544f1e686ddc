use Rattle.std.proofs.Common.{chars, ap, sym, ◌∙◌, not, ◌&&◌, eqb}
use Rattle.std.proofs.lemmas.Bool.{eq-eqb, ne_eqb}
use Rattle.std.proofs.lemmas.Option.{MatchOption-at_none}
use Rattle.lex_base.proofs.NameTests.{no_chars, none_value, one_char, one_value, three_chars, three_value, two_chars}
use Rattle.lex_base.proofs.NameTests.{two_value}
use Rattle.lex_base.proofs.table.is_value.Goals as goal

pub returns-in-Some-None-None : goal.returns-in-Some-None-None
returns-in-Some-None-None c =
    let ends = MatchOption-at_none _ _ c.in-Some-None-None.is-1 c.next-2.ensures.steps.0 in
    one_value c.args.text.now c.in-Some-None-None.c c.utf8.text
    (one_char c.args.text.now c.next.new.self.rest.now c.in-Some-None-None.c c.utf8.text
    (sym c.chars-characters.ensures.rest ∙ c.in-Some-None-None.ensures.steps.0) ends.0)

pub returns-then-c-ne0 : goal.returns-then-c-ne0
returns-then-c-ne0 c =
    ap (λ t. not t && not (eqb c.in-Some-Some-None.d 0)) (sym (ne_eqb c.in-Some-Some-None.c 0 c.if-c-ne0.true))
    ∙ two_value c.args.text.now c.in-Some-Some-None.c c.in-Some-Some-None.d c.utf8.text
    (two_chars c.args.text.now c.next.new.self.rest.now c.next-2.new.self.rest.now c.in-Some-Some-None.c
    c.in-Some-Some-None.d c.utf8.text
    (sym c.chars-characters.ensures.rest ∙ c.in-Some-Some-None.ensures.steps.0) c.in-Some-Some-None.ensures'.steps.0
    c.in-Some-Some-None.ensures''.steps.0.0)

pub returns-else-c-ne0 : goal.returns-else-c-ne0
returns-else-c-ne0 c =
    let zero = eq-eqb c.in-Some-Some-None.c 0 c.if-c-ne0.false in
    ap not zero
    ∙ ap (λ t. not t && not (eqb c.in-Some-Some-None.d 0)) (sym zero)
    ∙ two_value c.args.text.now c.in-Some-Some-None.c c.in-Some-Some-None.d c.utf8.text
    (two_chars c.args.text.now c.next.new.self.rest.now c.next-2.new.self.rest.now c.in-Some-Some-None.c
    c.in-Some-Some-None.d c.utf8.text
    (sym c.chars-characters.ensures.rest ∙ c.in-Some-Some-None.ensures.steps.0) c.in-Some-Some-None.ensures'.steps.0
    c.in-Some-Some-None.ensures''.steps.0.0)

pub returns-in_default-2 : goal.returns-in_default-2
returns-in_default-2 c =
    three_value (chars c.args.text.now) (chars c.next-3.new.self.rest.now) c.in_default.field-0-0 c.in_default.field-0-1
    c.in_default.field-0-2
    (three_chars c.args.text.now c.next.new.self.rest.now c.next-2.new.self.rest.now c.next-3.new.self.rest.now
    c.in_default.field-0-0 c.in_default.field-0-1 c.in_default.field-0-2 c.utf8.text
    (sym c.chars-characters.ensures.rest ∙ c.in_default.ensures.steps.0) c.in_default.ensures'.steps.0
    c.in_default.ensures''.steps.0)

pub returns-in_default-3 : goal.returns-in_default-3
returns-in_default-3 c =
    let ends = MatchOption-at_none _ _ c.in_default.is-0 c.next.ensures.steps.0 in
    none_value (chars c.args.text.now) (ap chars (sym c.chars-characters.ensures.rest) ∙
    no_chars c.chars-characters.result.rest.now ends.0)
