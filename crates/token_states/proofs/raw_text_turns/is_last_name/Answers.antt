use Rattle.std.proofs.Common.{length, chars, sym, ap, ◌∙◌}
use Rattle.std.proofs.lemmas.Bool.{eqb-true}
use Rattle.std.specs.Str.{bytes_eq}
use Rattle.token_grammar.specs.Characters.{name_of}
use Rattle.token_grammar.specs.Lexemes.{is_last}
use Rattle.token_states.proofs.EndTagLemmas.{no_name, some_name}
use Rattle.token_states.proofs.raw_text_turns.is_last_name.Goals as goal

pub returns-then-is_empty : goal.returns-then-is_empty
returns-then-is_empty c =
    no_name c.args.letters.now _ (eqb-true (length c.args.letters.now) 0 (sym c.is_empty.ensures ∙ c.if-is_empty.true))

pub returns : goal.returns
returns c =
    let letters = chars c.args.letters.now in
    c.eq.ensures ∙ ap (λ n. bytes_eq c.in-Some.last n) (c.from-name.ensures ∙ c.in_ok-name_of.ensures) ∙
    ap (λ l. is_last l (name_of letters)) (sym c.in-Some.is)
    ∙ some_name c.args.letters.now (is_last c.args.last.now (name_of letters)) c.utf8.letters
    (sym c.is_empty.ensures ∙ c.if-is_empty.false)
