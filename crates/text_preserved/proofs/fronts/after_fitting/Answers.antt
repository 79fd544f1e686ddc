use Rattle.std.proofs.Common.{◌≡◌, ◌+◌, ◌-◌, arith}
use Rattle.text_lines.specs.Columns.{text_columns}
use Rattle.text_preserved.proofs.FrontLemmas.{front_none, front_more, columns_more, columns_within}
use Rattle.text_preserved.proofs.fronts.after_fitting.Goals as goal

pub loop-c-init : goal.loop-c-init
loop-c-init c = record {
  text = c.utf8.text;
  runs = front_none (λ cs. text_columns cs + c.args.room ≡ c.args.room) c.args.text.now (omega arith);
}

pub loop-c-preserved : goal.loop-c-preserved
loop-c-preserved c =
    record {
      text = c.in-Some.ensures.texts.1;
      runs = front_more (λ cs. text_columns cs + c.loop-c.left ≡ c.args.room)
          (λ cs. text_columns cs + (c.loop-c.left - c.width_of-columns.result) ≡ c.args.room) c.args.text.now
          c.loop-c.rest.now c.in-Some.after.now c.in-Some.c c.loop-c.invariant.runs c.in-Some.ensures.first
          c.in-Some.ensures.texts.0 (columns_more c.args.room c.loop-c.left c.width_of-columns.result c.in-Some.c
          c.width_of-columns.ensures (omega (arith, c.if-columns-left.false)));
    }

pub returns-then-columns-left : goal.returns-then-columns-left
returns-then-columns-left c = columns_within c.args.room c.loop-c.left c.args.text.now c.loop-c.rest.now
    c.loop-c.invariant.runs

pub returns : goal.returns
returns c = columns_within c.args.room c.loop-c.left c.args.text.now c.loop-c.rest.now c.loop-c.invariant.runs
