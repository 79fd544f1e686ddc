use Rattle.std.proofs.Common.{◌≡◌, IsUtf8, chars, sym, ap, subst, ◌∙◌}
use Rattle.std.proofs.lemmas.Str.{IsUtf8-past_char}
use Rattle.token_states.specs.Spellings.{folded, spelled}
use Rattle.token_states.proofs.DeclarationLemmas.{compared_apart, compared_longer, compared_on, compared_short}
use Rattle.token_states.proofs.DeclarationLemmas.{compared_whole}
use Rattle.token_states.proofs.declarations.compared.Goals as goal

pub mark-init : goal.mark-init
mark-init c =
    let e : c.into_iter-wanted-iterator.result.rest.now ≡ c.args.mark.now = cc in
    record {
      rest_utf8 = c.utf8.text;
      left_utf8 = subst IsUtf8 (sym e) c.utf8.mark;
      same = ap (λ b. spelled (folded c.args.any_case) (chars b) (chars c.args.text.now)) (sym e);
    }

pub returns-in_default : goal.returns-in_default
returns-in_default c =
    compared_short _ _ _ _ _ c.mark.invariant.left_utf8 c.in-Some.ensures.steps.0 c.in_default.ensures.value ∙
    sym c.mark.invariant.same

pub returns-then-folded-wanted : goal.returns-then-folded-wanted
returns-then-folded-wanted c =
    compared_apart _ _ _ _ _ c.mark.invariant.left_utf8 c.in-Some.ensures.steps.0 _ _
    c.in-Some-first_and_rest.ensures.value (λ e. c.if-folded-wanted.true (c.folded.ensures ∙ e)) ∙
    sym c.mark.invariant.same

pub mark-preserved : goal.mark-preserved
mark-preserved c =
    let mark = c.mark.invariant in
    let split = c.in-Some.ensures.steps.0 in
    record {
      rest_utf8 = c.in-Some-first_and_rest.ensures.utf8;
      left_utf8 = IsUtf8-past_char _ _ _ mark.left_utf8 split;
      same = mark.same ∙ compared_on _ _ _ _ _ mark.left_utf8 split _ _ c.in-Some-first_and_rest.ensures.value
          (sym c.folded.ensures ∙ c.if-folded-wanted.false);
    }

pub returns-in-None-first_and_rest : goal.returns-in-None-first_and_rest
returns-in-None-first_and_rest c =
    compared_whole _ _ _ c.in-None.ensures.steps.0.0 c.in-None-first_and_rest.ensures.value ∙ sym c.mark.invariant.same

pub returns-in-Some-first_and_rest-2 : goal.returns-in-Some-first_and_rest-2
returns-in-Some-first_and_rest-2 c =
    compared_longer _ _ _ _ _ c.in-None.ensures.steps.0.0 c.in-Some-first_and_rest-2.ensures.value ∙
    sym c.mark.invariant.same
