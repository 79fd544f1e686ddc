use Rattle.std.proofs.Common.{refl, sym, ap, subst, ◌∙◌, IsUtf8, chars}
use Rattle.std.specs.Str.Iter.{chars_rest}
use Rattle.html_lexemes.proofs.ComparedLemmas.{IsComparing-start, begins_alike, compared_more, differs_here}
use Rattle.html_lexemes.proofs.ComparedLemmas.{ends_inside, moved, none_waits_empty, on_to_next}
use Rattle.html_lexemes.proofs.queue.begins_with.Goals as goal
use Rattle.html_lexemes.proofs.queue.begins_with.Goals.{in-Some-next, in-None-next+in-Some-get+in-Some-next-2}

pub compared-init : goal.compared-init
compared-init g c =
    IsComparing-start _ _ _ _ _ _ _ refl
    (ap chars c.chars-rest.ensures.rest ∙ c.rest.ensures) (subst IsUtf8 (sym c.chars-rest.ensures.rest) c.rest.utf8)
    c.utf8.pattern
    (ap chars_rest c.into_iter-wanted-iterator.ensures.into_iter_gives ∙ c.chars-wanted-items.ensures.rest)

pub returns-in_default : goal.returns-in_default
returns-in_default g c =
    ends_inside _ _ _ _ _ _ _ _ c.compared.invariant c.in-Some.wanted _ c.in-Some.ensures.steps.0
    c.in-None-next.ensures.steps.0.0 c.in_default.ensures.item.3

pub returns-in_default-next : goal.returns-in_default-next
returns-in_default-next g c =
    absurd (none_waits_empty c.args.later.now.items c.compared.passed c.in-Some-get.text.now
    (chars_rest c.chars-rest-in-None-next.result) c.requires.waiting.filled
    c.in-Some-get.ensures.item.3.0 c.in-Some-get.ensures.lookup
    (c.chars-rest-in-None-next.ensures.rest ∙ c.as_str.ensures.value) c.in_default-next.ensures.steps.0.0)

pub returns-then-not-eq : goal.returns-then-not-eq
returns-then-not-eq g c =
    elim c.match-next-2.branch [
      | in-Some-next w ↦
          differs_here _ _ _ _ _ _ _ _ c.compared.invariant w.in-Some-next.found c.in-Some.wanted _ _
          w.in-Some-next.ensures.steps.0 c.in-Some.ensures.steps.0
          (rw (← w.found-is) c.if-not-eq.ensures)
      | in-None-next+in-Some-get+in-Some-next-2 w ↦
          differs_here _ _ _ _ _ _ _ _
          (on_to_next _ _ _ _ _ _ _ _ c.compared.invariant w.in-Some-get.text.now
          (chars_rest w.chars-rest-in-None-next.result) w.in-None-next.ensures.steps.0.0 w.in-Some-get.ensures.item.3.0
          w.in-Some-get.ensures.lookup (w.chars-rest-in-None-next.ensures.rest ∙ w.as_str.ensures.value))
          w.in-Some-next-2.found c.in-Some.wanted _ _ w.in-Some-next-2.ensures.steps.0 c.in-Some.ensures.steps.0
          (rw (← w.found-is) c.if-not-eq.ensures)
    ]

pub compared-preserved : goal.compared-preserved
compared-preserved g c =
    elim c.match-next-2.branch [
      | in-Some-next w ↦
          moved _ _ (ap chars_rest w.rest-is) w.passed-is
          (compared_more _ _ _ _ _ _ _ _ c.compared.invariant w.in-Some-next.found c.in-Some.wanted _ _
          w.in-Some-next.ensures.steps.0 c.in-Some.ensures.steps.0
          (rw (← w.found-is) c.if-not-eq.ensures))
      | in-None-next+in-Some-get+in-Some-next-2 w ↦
          moved _ _ (ap chars_rest w.rest-is) w.passed-is
          (compared_more _ _ _ _ _ _ _ _
          (on_to_next _ _ _ _ _ _ _ _ c.compared.invariant w.in-Some-get.text.now
          (chars_rest w.chars-rest-in-None-next.result) w.in-None-next.ensures.steps.0.0 w.in-Some-get.ensures.item.3.0
          w.in-Some-get.ensures.lookup (w.chars-rest-in-None-next.ensures.rest ∙ w.as_str.ensures.value))
          w.in-Some-next-2.found c.in-Some.wanted _ _ w.in-Some-next-2.ensures.steps.0 c.in-Some.ensures.steps.0
          (rw (← w.found-is) c.if-not-eq.ensures))
    ]

pub returns : goal.returns
returns g c = begins_alike _ _ _ _ _ _ _ _ c.compared.invariant c.in-None.ensures.steps.0.0
