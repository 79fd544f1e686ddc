use Rattle.std.proofs.Common.{◌≡◌, chars, ap, ◌∙◌}
use Rattle.token_grammar.specs.Doctypes.{doctype_at}
use Rattle.token_grammar.specs.Lexemes.{comment_lexeme, declaration, doctype_lexeme}
use Rattle.token_grammar.specs.PlainRead.{lexeme_of}
use Rattle.token_grammar.specs.Read.{cut_of}
use Rattle.token_grammar.specs.Slices.{after, after_word}
use Rattle.token_grammar.proofs.LexemeLemmas.{dashes, declared_comment, declared_doctype, declared_other, doctype_word}
use Rattle.token_grammar.proofs.LexemeLemmas.{ok_weaker}
use Rattle.token_grammar.proofs.lexemes.declaration.Goals as goal

pub returns-in-Some-clause-value : goal.returns-in-Some-clause-value
returns-in-Some-clause-value c =
    let cs = chars c.args.text.now in
    let m = c.args.mode.now in
    let e : comment_lexeme m (cut_of c.comment_slice.result) ≡ declaration c.args.foreign m cs =
    ap (comment_lexeme m) c.comment_slice.ensures.value ∙ declared_comment c.args.foreign m cs
    (chars c.in-Some.rest.now) (c.in-Some.ensures.value ∙ ap (λ w. after w cs) dashes) in
    ok_weaker (λ l. lexeme_of m l ≡ comment_lexeme m (cut_of c.comment_slice.result)) (λ l. lexeme_of m l
    ≡ declaration c.args.foreign m cs) (λ l h. h ∙ e) c.comment.result c.comment.ensures.value

pub returns-in-Some-rest_after_word-clause-value : goal.returns-in-Some-rest_after_word-clause-value
returns-in-Some-rest_after_word-clause-value c =
    let cs = chars c.args.text.now in
    let m = c.args.mode.now in
    let rest = chars c.in-Some-rest_after_word.rest.now in
    let e : doctype_lexeme m (doctype_at rest) ≡ declaration c.args.foreign m cs =
    declared_doctype c.args.foreign m cs rest (c.in_default.ensures.value ∙ ap (λ w. after w cs) dashes)
    (c.in-Some-rest_after_word.ensures.value ∙ ap (λ w. after_word w cs) doctype_word) in
    ok_weaker (λ l. lexeme_of m l ≡ doctype_lexeme m (doctype_at rest)) (λ l. lexeme_of m l
    ≡ declaration c.args.foreign m cs) (λ l h. h ∙ e) c.doctype.result c.doctype.ensures.value

pub returns-in-None-clause-value : goal.returns-in-None-clause-value
returns-in-None-clause-value c =
    let cs = chars c.args.text.now in
    let m = c.args.mode.now in
    let e : comment_lexeme m (cut_of c.bogus_comment_slice.result) ≡ declaration c.args.foreign m cs =
    ap (comment_lexeme m) c.bogus_comment_slice.ensures.value ∙ declared_other c.args.foreign m cs
    (c.in_default.ensures.value ∙ ap (λ w. after w cs) dashes)
    (c.in_default-rest_after_word.ensures.value ∙ ap (λ w. after_word w cs) doctype_word) c.in-None.ensures.value in
    ok_weaker (λ l. lexeme_of m l ≡ comment_lexeme m (cut_of c.bogus_comment_slice.result)) (λ l. lexeme_of m l
    ≡ declaration c.args.foreign m cs) (λ l h. h ∙ e) c.comment-in-None.result c.comment-in-None.ensures.value
