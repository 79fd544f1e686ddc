use Rattle.std.proofs.Common.{◌≡◌, ◌∷◌, [], chars, sym, ap, ap₂, ◌∙◌}
use Rattle.std.specs.Prelude.{option_map}
use Rattle.token_grammar.specs.Items.{characters}
use Rattle.token_grammar.specs.Lexemes.{kind_after, raw_lexeme, emitted}
use Rattle.token_grammar.specs.PlainRead.{lexeme_of}
use Rattle.token_grammar.specs.declared.modes.TextKind.TheVariants.{Raw}
use Rattle.token_grammar.proofs.LexemeLemmas.{ok_weaker, raw_end, raw_character}
use Rattle.token_grammar.proofs.lexemes.raw.Goals as goal

pub returns-in-Some-clause-value : goal.returns-in-Some-clause-value
returns-in-Some-clause-value c =
    let m = c.args.mode.now in
    let cs = chars c.args.rest.now in
    ok_weaker _ (λ l. lexeme_of m l ≡ raw_lexeme c.args.table.now c.args.kind m c.args.c cs)
    (λ l h. h m ∙ raw_end c.args.table.now c.args.kind m c.args.c cs (chars c.in-Some.name.now)
    (sym (ap (option_map (λ text. chars text.now)) c.in-Some.is) ∙ c.in_ok-name.ensures.value))
    c.tag_or_nothing.result c.tag_or_nothing.ensures.value

pub returns-clause-value : goal.returns-clause-value
returns-clause-value c =
    let m = c.args.mode.now in
    let cs = chars c.args.rest.now in
    let none = sym (ap (option_map (λ text. chars text.now)) c.in_default.is) ∙ c.in_ok-name.ensures.value in
    let kind = c.kind_after.ensures ∙ ap (kind_after c.args.kind) c.requires in
    ok_weaker _ (λ l. lexeme_of m l ≡ raw_lexeme c.args.table.now c.args.kind m c.args.c cs)
    (λ l h. h m
    ∙ (ap₂ (λ d k. emitted (characters (d ∷ []) ∷ []) (record m { text = Raw k }) cs) c.shown_character.ensures.value
    kind
    ∙ raw_character c.args.table.now c.args.kind m c.args.c cs none
    (sym c.may_be_reference.ensures ∙ c.if-may_be_reference.false)))
    c.one_character.result c.one_character.ensures.value
