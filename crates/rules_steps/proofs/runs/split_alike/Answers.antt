use Rattle.std.proofs.Common.{ap, sym, ◌∙◌, chars}
use Rattle.std.specs.Str.Iter.{chars_rest}
use Rattle.rules_steps.specs.Runs.{is_alike}
use Rattle.token_grammar.proofs.SliceLemmas.{split_start, split_more, split_stops, split_ends}
use Rattle.rules_steps.proofs.runs.split_alike.Goals as goal
use Rattle.rules_steps.proofs.runs.split_alike.Goals.{in-None, in-Some+then-not-is_alike}

pub split-init : goal.split-init
split-init c = record {
  so_far = split_start (is_alike c.args.is_space) c.args.text.now _
      (ap chars_rest c.into_iter-c-iterator.ensures.into_iter_gives ∙ c.chars-c-items.ensures.rest);
  can_next = tt;
  is_finite = tt;
}

pub split-preserved : goal.split-preserved
split-preserved c = record {
  so_far =
      split_more (is_alike c.args.is_space) _ _ _ c.utf8.text c.split.invariant.so_far _ c.in-Some.c
      c.len_utf8-length.result c.in-Some.ensures.steps.0 c.len_utf8-length.ensures.value
      (sym c.is_alike.ensures ∙ c.if-not-is_alike.false);
  can_next = tt;
  is_finite = tt;
}

pub split_at-requires : goal.split_at-requires
split_at-requires c =
    elim c.match-next.branch [
      | in-None w ↦
          (split_ends (is_alike c.args.is_space) _ _ _ c.utf8.text c.split.invariant.so_far
          w.in-None.ensures.steps.0.0).boundary
      | in-Some+then-not-is_alike w ↦
          (split_stops (is_alike c.args.is_space) _ _ _ c.utf8.text c.split.invariant.so_far _ w.in-Some.c
          w.in-Some.ensures.steps.0 (sym w.is_alike.ensures ∙ w.if-not-is_alike.true)).boundary
    ]

pub returns-clause-front : goal.returns-clause-front
returns-clause-front c =
    ap chars c.split_at.ensures.front ∙
    (elim c.match-next.branch [
      | in-None w ↦
          (split_ends (is_alike c.args.is_space) _ _ _ c.utf8.text c.split.invariant.so_far
          w.in-None.ensures.steps.0.0).front
      | in-Some+then-not-is_alike w ↦
          (split_stops (is_alike c.args.is_space) _ _ _ c.utf8.text c.split.invariant.so_far _ w.in-Some.c
          w.in-Some.ensures.steps.0 (sym w.is_alike.ensures ∙ w.if-not-is_alike.true)).front
    ])

pub returns-clause-rest : goal.returns-clause-rest
returns-clause-rest c =
    ap chars c.split_at.ensures.back ∙
    (elim c.match-next.branch [
      | in-None w ↦
          (split_ends (is_alike c.args.is_space) _ _ _ c.utf8.text c.split.invariant.so_far
          w.in-None.ensures.steps.0.0).trailing
      | in-Some+then-not-is_alike w ↦
          (split_stops (is_alike c.args.is_space) _ _ _ c.utf8.text c.split.invariant.so_far _ w.in-Some.c
          w.in-Some.ensures.steps.0 (sym w.is_alike.ensures ∙ w.if-not-is_alike.true)).trailing
    ])
