use Rattle.std.proofs.Common.{◌≡◌, ◌++◌, IsUtf8, chars, sym, ap, subst, ◌∙◌}
use Rattle.std.proofs.lemmas.Str.{chars-nil, IsUtf8-string_bytes, IsUtf8-past_char}
use Rattle.token_grammar.specs.Characters.{shown_text}
use Rattle.token_grammar.proofs.MarkLemmas.{IsShown, scalar_first, shown_all, shown_more}
use Rattle.token_grammar.proofs.comments.shown.Goals as goal

pub shown-init : goal.shown-init
shown-init c =
    let e : c.into_iter-c-iterator.result.rest.now ≡ c.args.text.now = cc in
    record {
      left_text = subst IsUtf8 (sym e) c.utf8.text;
      same = ap (λ l. chars l ++ shown_text (chars c.into_iter-c-iterator.result.rest.now)) c.new-shown.ensures.bytes ∙
          ap (λ l. l ++ shown_text (chars c.into_iter-c-iterator.result.rest.now)) chars-nil ∙
          ap (λ b. shown_text (chars b)) e;
    }

pub shown-preserved : goal.shown-preserved
shown-preserved c =
    let left = c.shown.c-iterator.rest.now in
    let split = c.in-Some.ensures.steps.0 in
    let written : IsShown c.in-Some.c c.shown_character.result =
    record {
      scalar = c.shown_character.ensures.scalar
          (scalar_first left _ _ c.shown.invariant.left_text split);
      same = sym c.shown_character.ensures.value;
    } in
    record {
      left_text = IsUtf8-past_char left _ _ c.shown.invariant.left_text split;
      same = shown_more _ _ left _ _ _ _ (IsUtf8-string_bytes c.shown.shown) c.shown.invariant.left_text split
          c.in_ok-push.ensures.bytes written c.shown.invariant.same;
    }

pub returns : goal.returns
returns c = c.from.ensures ∙ shown_all _ _ _ c.in-None.ensures.steps.0.0 c.shown.invariant.same
