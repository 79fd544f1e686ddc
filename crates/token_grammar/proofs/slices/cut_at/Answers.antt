use Rattle.std.proofs.Common.{ap, sym, ◌∙◌, chars}
use Rattle.std.specs.Str.Iter.{chars_rest}
use Rattle.token_grammar.specs.Slices.{after}
use Rattle.token_grammar.proofs.SliceLemmas.{cut_start, cut_more, cut_edge, cut_found, cut_ends}
use Rattle.token_grammar.proofs.slices.cut_at.Goals as goal

pub cut-init : goal.cut-init
cut-init c = record {
  so_far = cut_start (after (chars c.args.mark.now)) c.args.text.now _
      (ap chars_rest c.into_iter-c-iterator.ensures.into_iter_gives ∙ c.chars-c-items.ensures.rest);
  can_next = tt;
  is_finite = tt;
}

pub split_at-requires : goal.split_at-requires
split_at-requires c = cut_edge (after (chars c.args.mark.now)) _ _ _ c.utf8.text c.cut.invariant.so_far

pub returns-in-Some-trailing-clause-value : goal.returns-in-Some-trailing-clause-value
returns-in-Some-trailing-clause-value c =
    cut_found (after (chars c.args.mark.now)) _ _ _ c.utf8.text c.cut.invariant.so_far c.split_at.result.0.now _
    c.split_at.result.1.now c.in-Some-trailing.rest.now c.in-Some.c
    c.in-Some.ensures.steps.0 c.split_at.ensures.front c.split_at.ensures.back c.in-Some-trailing.ensures.value

pub cut-preserved : goal.cut-preserved
cut-preserved c = record {
  so_far =
      cut_more (after (chars c.args.mark.now)) _ _ _ c.utf8.text c.cut.invariant.so_far _ c.split_at.result.1.now
      c.in-Some.c c.len_utf8-length.result c.in-Some.ensures.steps.0 c.len_utf8-length.ensures.value
      c.split_at.ensures.back (sym c.in_default.ensures.value);
  can_next = tt;
  is_finite = tt;
}

pub returns-clause-value : goal.returns-clause-value
returns-clause-value c =
    cut_ends (after (chars c.args.mark.now)) _ _ _ c.utf8.text c.cut.invariant.so_far c.in-None.ensures.steps.0.0
