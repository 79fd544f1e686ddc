use Rattle.std.proofs.Common.{ap, sym, ◌∙◌, chars, not}
use Rattle.std.specs.Str.Iter.{chars_rest}
use Rattle.token_grammar.proofs.SliceLemmas.{split_start, split_more, split_stops, split_ends}
use Rattle.rules_table.specs.Encodings.{ends_name}
use Rattle.rules_table.proofs.encodings.unquoted_name.Goals as goal
use Rattle.rules_table.proofs.encodings.unquoted_name.Goals.{in-None, in-Some+then-ends_name}

pub name-init : goal.name-init
name-init c = record {
  so_far = split_start (λ d. not (ends_name d)) c.args.text.now _
      (ap chars_rest c.into_iter-c-iterator.ensures.into_iter_gives ∙ c.chars-c-items.ensures.rest);
  can_next = tt;
  is_finite = tt;
}

pub name-preserved : goal.name-preserved
name-preserved c = record {
  so_far = split_more (λ d. not (ends_name d)) _ _ _ c.utf8.text c.name.invariant.so_far _ c.in-Some.c
      c.len_utf8-length.result c.in-Some.ensures.steps.0 c.len_utf8-length.ensures.value
      (ap not (sym c.ends_name.ensures ∙ c.if-ends_name.false));
  can_next = tt;
  is_finite = tt;
}

pub split_at-requires : goal.split_at-requires
split_at-requires c =
    elim c.match-next.branch [
      | in-None w ↦ (split_ends (λ d. not (ends_name d)) _ _ _ c.utf8.text c.name.invariant.so_far
          w.in-None.ensures.steps.0.0).boundary
      | in-Some+then-ends_name w ↦ (split_stops (λ d. not (ends_name d)) _ _ _ c.utf8.text c.name.invariant.so_far _
          w.in-Some.c w.in-Some.ensures.steps.0 (ap not (sym w.ends_name.ensures ∙ w.if-ends_name.true))).boundary
    ]

pub returns : goal.returns
returns c = ap chars c.split_at.ensures.front ∙
    (elim c.match-next.branch [
      | in-None w ↦ (split_ends (λ d. not (ends_name d)) _ _ _ c.utf8.text c.name.invariant.so_far
          w.in-None.ensures.steps.0.0).front
      | in-Some+then-ends_name w ↦ (split_stops (λ d. not (ends_name d)) _ _ _ c.utf8.text c.name.invariant.so_far _
          w.in-Some.c w.in-Some.ensures.steps.0 (ap not (sym w.ends_name.ensures ∙ w.if-ends_name.true))).front
    ])
