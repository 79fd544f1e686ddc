use Rattle.std.proofs.Common.{◌≡◌, ◌-◌, ◌∙◌, ◌∷◌, [], Bool, ap, arith, cond, false, get_or, refl, true, ℕ}
use mir.Val.{bool_byte}
use Rattle.std.proofs.lemmas.List.{get_or_append_left, get_or_push}
use Rattle.std.proofs.lemmas.Grind.{common_steps}
use borrow.Author.Count.{below_more}
use Rattle.table_widths.specs.Widths.{equal}
use Rattle.table_widths.proofs.RankLemmas.{width_here, left_here}
use Rattle.table_widths.proofs.lowering.lowered.Goals as goal

byte : (b : Bool) → bool_byte b ≡ cond {A = ℕ} b 1 0
byte true = refl
byte false = refl

pub loop-column-init : goal.loop-column-init
unfolding equal
loop-column-init c = (grind (arith, common_steps), grind (arith, common_steps), λ i lt. absurd (omega arith))

pub loop-column-preserved : goal.loop-column-preserved
loop-column-preserved c =
    let pushed = c.in_ok-push.ensures.items in (
      grind (arith, common_steps),
      left_here c.args.level c.args.less c.edge_of-edge.result c.loop-column.column-index c.loop-column.left _
          c.args.columns.now (omega arith) c.loop-column.invariant.1
          (c.saturating_sub-left.ensures ∙ ap (λ n. c.loop-column.left - n)
          (byte c.is_at.result ∙ ap (λ (b : Bool). cond {A = ℕ} b 1 0) c.is_at.ensures)),
      below_more _ _ (λ i lt. ap (λ xs. get_or xs i 0) pushed
          ∙ get_or_append_left c.loop-column.widths.items (c.width.result ∷ []) 0 i (omega arith)
          ∙ c.loop-column.invariant.2 i lt)
          (let here = width_here c.args.level c.args.less c.edge_of-edge.result c.loop-column.column-index
          c.loop-column.left c.width.result c.loses.result c.args.columns.now
          c.edge_of-edge.ensures (omega arith) c.loop-column.invariant.1 c.loses.ensures c.width.ensures in
          ap (λ xs. get_or xs c.loop-column.column-index 0) pushed
          ∙ get_or_push c.loop-column.widths.items c.width.result 0 c.loop-column.column-index
          c.loop-column.invariant.0 ∙ here),
    )

pub returns : goal.returns
returns c = record { same = omega arith; each = λ i lt. c.loop-column.invariant.2 i (omega arith) }
