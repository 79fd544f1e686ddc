use Rattle.std.proofs.Common.{ap, chars, refl, sym, ◌∙◌, ◌||◌}
use Rattle.std.specs.List.{list_any}
use Rattle.render_conversion.specs.Hiding.{declarations, is_display_none}
use Rattle.render_conversion.proofs.HidingLemmas.{first_of, last_of, less_left}
use Rattle.render_conversion.proofs.hiding.declares_display_none.Goals as goal

pub declarations-init : goal.declarations-init
declarations-init c = record { text = c.utf8.style; same = refl }

pub declarations-smaller : goal.declarations-smaller
declarations-smaller c = less_left (chars c.declarations.rest.now) _ c.in-Some.ensures.value

pub declarations-preserved : goal.declarations-preserved
declarations-preserved c = record {
  text = c.in-Some.ensures.rest_utf8;
  same = sym (first_of (chars c.declarations.rest.now) _ c.in-Some.ensures.value
      ∙ ap (λ b. b || list_any is_display_none (declarations (chars c.in-Some.later.now)))
      (sym c.is_display_none.ensures ∙ c.if-is_display_none.false)) ∙ c.declarations.invariant.same;
}

pub returns-then-is_display_none : goal.returns-then-is_display_none
returns-then-is_display_none c = sym (first_of (chars c.declarations.rest.now) _ c.in-Some.ensures.value
    ∙ ap (λ b. b || list_any is_display_none (declarations (chars c.in-Some.later.now)))
    (sym c.is_display_none.ensures ∙ c.if-is_display_none.true)) ∙ c.declarations.invariant.same

pub returns : goal.returns
returns c = c.is_display_none-2.ensures
    ∙ sym (last_of (chars c.declarations.rest.now) c.in_default.ensures.value) ∙ c.declarations.invariant.same
