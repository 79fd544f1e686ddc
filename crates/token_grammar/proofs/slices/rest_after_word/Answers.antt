use Rattle.std.proofs.Common.{◌≡◌, IsUtf8, chars, option_map, sym, ap, subst, ◌∙◌}
use Rattle.std.proofs.lemmas.Str.{IsUtf8-past_char}
use Rattle.token_grammar.specs.Slices.{after_word}
use Rattle.token_grammar.proofs.DoctypeLemmas.{word_all, word_apart, word_past, word_short}
use Rattle.token_grammar.proofs.slices.rest_after_word.Goals as goal

pub word-init : goal.word-init
word-init c =
    let e : c.into_iter-wanted-iterator.result.rest.now ≡ c.args.word.now = cc in
    record {
      rest_utf8 = c.utf8.text;
      left_utf8 = subst IsUtf8 (sym e) c.utf8.word;
      same = ap (λ b. after_word (chars b) (chars c.args.text.now)) (sym e);
    }

pub word-preserved : goal.word-preserved
word-preserved c =
    let word = c.word.invariant in
    let split = c.in-Some.ensures.steps.0 in
    record {
      rest_utf8 = c.in_ok-found.ensures.utf8;
      left_utf8 = IsUtf8-past_char _ _ _ word.left_utf8 split;
      same = word.same ∙ word_past _ _ _ _ word.left_utf8 split _ _ c.in_ok-found.ensures.value
          (sym c.to_ascii_lowercase.ensures.value ∙ c.if-to_ascii_lowercase-wanted.false);
    }

pub returns-then-to_ascii_lowercase-wanted-clause-value : goal.returns-then-to_ascii_lowercase-wanted-clause-value
returns-then-to_ascii_lowercase-wanted-clause-value c =
    word_apart _ _ _ _ c.word.invariant.left_utf8 c.in-Some.ensures.steps.0 _ _ c.in_ok-found.ensures.value
    (λ e. c.if-to_ascii_lowercase-wanted.true (c.to_ascii_lowercase.ensures.value ∙ e)) ∙ sym c.word.invariant.same

pub returns-in_err-found-clause-value : goal.returns-in_err-found-clause-value
returns-in_err-found-clause-value c =
    ap (option_map (λ rest. chars rest.now)) c.from_residual.ensures ∙
    word_short _ _ _ _ c.word.invariant.left_utf8 c.in-Some.ensures.steps.0 c.in_err-found.ensures.value ∙
    sym c.word.invariant.same

pub returns-clause-value : goal.returns-clause-value
returns-clause-value c = word_all _ _ c.in-None.ensures.steps.0.0 ∙ sym c.word.invariant.same
