use Rattle.std.proofs.Common.{subst, sym}
use Rattle.text_lines.specs.Tagged.{element_items}
use Rattle.text_normal.specs.NormalStates.{Cuts}
use Rattle.text_normal.proofs.NormalFilling.{cuts_marker}
use Rattle.text_normal.proofs.filling.Filling.cut_element.Goals as goal

pub returns-in-FragmentStart-clause-laid : goal.returns-in-FragmentStart-clause-laid
returns-in-FragmentStart-clause-laid g c =
    subst (λ e. Cuts g.T.EqualCopy.seen c.args.self.now c.args.self.now (element_items g.T.EqualCopy.seen e))
    (sym c.in-FragmentStart.is) (cuts_marker g.T.EqualCopy.seen c.args.self.now _)
