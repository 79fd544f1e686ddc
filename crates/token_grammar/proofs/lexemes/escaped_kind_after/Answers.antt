use Rattle.std.proofs.Common.{true, false, ◌∙◌, sym, ap}
use Rattle.std.specs.Str.{chars}
use Rattle.html_lexemes.specs.declared.states.RawKind.TheVariants.{ScriptDataEscaped}
use Rattle.token_grammar.specs.Lexemes.{begins_tag, kind_after}
use Rattle.token_grammar.specs.Slices.{begins}
use Rattle.token_grammar.proofs.LexemeLemmas.{close_comment, closed, doubled, undoubled, script_word, end_script_word}
use Rattle.token_grammar.proofs.lexemes.escaped_kind_after.Goals as goal

pub returns-then-begins : goal.returns-then-begins
returns-then-begins c =
    let cs = chars c.args.text.now in
    closed c.args.escape cs (ap (λ m. begins m cs) (sym close_comment) ∙ (sym c.begins.ensures ∙ c.if-begins.true))

pub returns-then-begins_tag : goal.returns-then-begins_tag
returns-then-begins_tag c =
    let cs = chars c.args.text.now in
    doubled cs true (ap (λ m. begins m cs) (sym close_comment) ∙ (sym c.begins.ensures ∙ c.if-begins.false))
    (ap (λ m. begins_tag m cs) (sym script_word) ∙ (sym c.begins_tag.ensures ∙ c.if-begins_tag.true))
    ∙ ap (λ k. kind_after (ScriptDataEscaped k) cs) (sym c.in-Escaped.is)

pub returns-else-begins_tag : goal.returns-else-begins_tag
returns-else-begins_tag c =
    let cs = chars c.args.text.now in
    ap (λ k. ScriptDataEscaped k) c.in-Escaped.is
    ∙ (doubled cs false (ap (λ m. begins m cs) (sym close_comment) ∙ (sym c.begins.ensures ∙ c.if-begins.false))
    (ap (λ m. begins_tag m cs) (sym script_word) ∙ (sym c.begins_tag.ensures ∙ c.if-begins_tag.false))
    ∙ ap (λ k. kind_after (ScriptDataEscaped k) cs) (sym c.in-Escaped.is))

pub returns-then-begins_tag-2 : goal.returns-then-begins_tag-2
returns-then-begins_tag-2 c =
    let cs = chars c.args.text.now in
    undoubled cs true (ap (λ m. begins m cs) (sym close_comment) ∙ (sym c.begins.ensures ∙ c.if-begins.false))
    (ap (λ m. begins_tag m cs) (sym end_script_word)
    ∙ (sym c.begins_tag-in-DoubleEscaped.ensures ∙ c.if-begins_tag-2.true))
    ∙ ap (λ k. kind_after (ScriptDataEscaped k) cs) (sym c.in-DoubleEscaped.is)

pub returns-else-begins_tag-2 : goal.returns-else-begins_tag-2
returns-else-begins_tag-2 c =
    let cs = chars c.args.text.now in
    ap (λ k. ScriptDataEscaped k) c.in-DoubleEscaped.is
    ∙ (undoubled cs false (ap (λ m. begins m cs) (sym close_comment) ∙ (sym c.begins.ensures ∙ c.if-begins.false))
    (ap (λ m. begins_tag m cs) (sym end_script_word)
    ∙ (sym c.begins_tag-in-DoubleEscaped.ensures ∙ c.if-begins_tag-2.false))
    ∙ ap (λ k. kind_after (ScriptDataEscaped k) cs) (sym c.in-DoubleEscaped.is))
