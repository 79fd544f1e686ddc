use Rattle.std.proofs.Common.{◌≡◌, ◌∷◌, [], chars, codes, sym, ap, ◌∙◌}
use Rattle.token_grammar.specs.Items.{characters}
use Rattle.token_grammar.specs.Lexemes.{after_slash, emitted}
use Rattle.token_grammar.specs.PlainRead.{lexeme_of}
use Rattle.token_grammar.proofs.LexemeLemmas.{ok_weaker, slash_mark}
use Rattle.token_grammar.proofs.lexemes.end_tag.Goals as goal

pub returns-in_default-clause-value : goal.returns-in_default-clause-value
returns-in_default-clause-value c =
    let m = c.args.mode.now in
    let e : emitted (characters (60 ∷ []) ∷ []) m (chars (codes "/"))
    ≡ after_slash c.args.table.now m (chars c.args.rest.now) =
    ap (emitted (characters (60 ∷ []) ∷ []) m) slash_mark ∙ ap (after_slash c.args.table.now m)
    (sym c.in_default.ensures.value) in
    ok_weaker _ (λ l. lexeme_of m l ≡ after_slash c.args.table.now m (chars c.args.rest.now))
    (λ l h. h m ∙ e) c.one_character.result c.one_character.ensures.value
