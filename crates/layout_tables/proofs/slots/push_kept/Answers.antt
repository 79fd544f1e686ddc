use Rattle.std.proofs.Common.{sym}
use Rattle.std.proofs.lemmas.Result.{on_ok_weaker}
use Rattle.block_renderer.specs.Seen.{marking, sub_of}
use Rattle.layout_state.specs.Seen.{widths_seen}
use Rattle.layout_tables.specs.Tables.{empty_slot}
use Rattle.table_widths.specs.Slots.{has_columns}
use Rattle.layout_tables.proofs.TableSlotLemmas.{kept_filled}
use Rattle.layout_tables.proofs.slots.push_kept.Goals as goal

pub returns-then-has_columns-clause-made : goal.returns-then-has_columns-clause-made
returns-then-has_columns-clause-made g c = on_ok_weaker c.push_empty.result
    (λ h. λ tag. kept_filled (empty_slot (marking g.D.TextDecorator.view tag) (widths_seen c.args.widths.now)
    (sub_of g.D.Annotation.EqualCopy.seen g.D.TextDecorator.view.held c.args.laying.now.text.current)) has_columns
    c.args.slot _ _ (sym c.if-has_columns.ensures) (h tag)) c.push_empty.ensures.made
