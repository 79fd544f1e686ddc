use Rattle.std.proofs.Common.{chars, sym, ap, ◌∙◌}
use Rattle.std.proofs.lemmas.Bool.{eq-eqb}
use Rattle.token_grammar.specs.Slices.{after}
use Rattle.token_grammar.proofs.LexemeLemmas.{no_slash, other_name, last_name, slash_mark}
use Rattle.token_grammar.proofs.lexemes.end_tag_name.Goals as goal

pub returns-in_default-clause-value : goal.returns-in_default-clause-value
returns-in_default-clause-value c =
    let cs = chars c.args.rest.now in
    no_slash c.args.kind c.args.mode.now.last_start_tag c.args.c cs
    (c.in_default.ensures.value ∙ ap (λ m. after m cs) slash_mark)

pub returns-then-branch-clause-value : goal.returns-then-branch-clause-value
returns-then-branch-clause-value c =
    let cs = chars c.args.rest.now in
    last_name c.args.kind c.args.mode.now.last_start_tag c.args.c cs (chars c.in-Some.name.now)
    (eq-eqb _ _ c.if-c-ne60.false) (sym c.has_end_tags.ensures ∙ c.if-not-has_end_tags.false)
    (c.in-Some.ensures.value ∙ ap (λ m. after m cs) slash_mark)
    (sym c.in_ok-begins_with_last.ensures ∙ c.if-branch.true)

pub returns-clause-value : goal.returns-clause-value
returns-clause-value c =
    let cs = chars c.args.rest.now in
    other_name c.args.kind c.args.mode.now.last_start_tag c.args.c cs (chars c.in-Some.name.now)
    (c.in-Some.ensures.value ∙ ap (λ m. after m cs) slash_mark)
    (sym c.in_ok-begins_with_last.ensures ∙ c.if-branch.false)
