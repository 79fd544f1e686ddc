use Rattle.std.proofs.Common.{◌∙◌, sym, ap}
use Rattle.std.specs.Str.{chars}
use Rattle.token_grammar.specs.Lexemes.{kind_after}
use Rattle.token_grammar.specs.Slices.{begins}
use Rattle.token_grammar.proofs.LexemeLemmas.{opened, not_opened, open_comment}
use Rattle.token_grammar.proofs.lexemes.kind_after.Goals as goal

pub returns-then-begins : goal.returns-then-begins
returns-then-begins c =
    let cs = chars c.args.text.now in
    opened cs (ap (λ m. begins m cs) (sym open_comment) ∙ (sym c.begins.ensures ∙ c.if-begins.true)) ∙
    ap (λ k. kind_after k cs) (sym c.in-ScriptData.is)

pub returns-else-begins : goal.returns-else-begins
returns-else-begins c =
    let cs = chars c.args.text.now in
    not_opened cs (ap (λ m. begins m cs) (sym open_comment) ∙ (sym c.begins.ensures ∙ c.if-begins.false)) ∙
    ap (λ k. kind_after k cs) (sym c.in-ScriptData.is)
