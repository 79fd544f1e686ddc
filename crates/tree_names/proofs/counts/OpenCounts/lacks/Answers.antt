use Rattle.std.proofs.Common.{◌∙◌}
use Rattle.lex_base.specs.declared.known.KnownName.TheVariants as names
use Rattle.tree_names.proofs.CountLemmas.{counts_left, fewer_left, none_left, one_left}
use Rattle.tree_names.proofs.counts.OpenCounts.lacks.Goals as goal

pub loop-known-preserved : goal.loop-known-preserved
loop-known-preserved c = record {
  same = λ open_names are. c.loop-known.invariant.same open_names are
      ∙ fewer_left c.args.wanted.now c.loop-known.known-index _ open_names c.loop-known-test.true
      (c.has_no_known.ensures.none open_names are c.if-not-has_no_known.false);
  counts = λ all. (counts_left c.args.wanted.now c.loop-known.known-index names.A c.loop-known-test.true
      (c.loop-known.invariant.counts all)).1;
}

pub returns-clause-none : goal.returns-clause-none
returns-clause-none c names are is = c.loop-known.invariant.same names are
    ∙ none_left c.args.wanted.now c.loop-known.known-index names c.loop-known-test.false

pub returns-then-not-has_no_known-clause-some : goal.returns-then-not-has_no_known-clause-some
returns-then-not-has_no_known-clause-some c names are is all = c.loop-known.invariant.same names are
    ∙ one_left c.args.wanted.now c.loop-known.known-index _ names c.loop-known-test.true
    (c.has_no_known.ensures.some names are c.if-not-has_no_known.true) (c.loop-known.invariant.counts all)
