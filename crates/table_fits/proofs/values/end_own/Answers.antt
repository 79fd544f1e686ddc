use Rattle.std.proofs.Common.{◌≡◌, ◌∙◌, ap, false, subst, true}
use Rattle.table_fits.proofs.FlowLemmas.{own_added, own_alone}
use Rattle.table_fits.specs.Flowing.{fitting, standing, standing_flow}
use Rattle.table_fits.specs.Pass.{added, is_along, is_own}
use Rattle.table_fits.specs.Seen.{FlowIs}
use Rattle.table_fits.proofs.values.end_own.Goals as goal

pub returns-in_ok-stand-in-None : goal.returns-in_ok-stand-in-None
returns-in_ok-stand-in-None g c = λ w items within p own h k.
    let options = c.args.options.now in
    let f = fitting options w in
    let info = c.args.head.now.info in
    let stands = c.standing_of-stands.result in
    let alone : is_along stands ≡ false = ap is_along c.standing_of-stands.ensures
    ∙ own_alone (standing info) (subst (λ q. is_own q (standing info) ≡ true) c.in-None.is own) in
    let stood = c.in_ok-stand-in-None.ensures options w items within p alone
    (c.widths.ensures options.wrap_width within h) k in
    subst (FlowIs options c.trail-in-None.new.flow)
    (own_added f c.args.around c.args.head.now c.args.fits.now within items c.mode_in-mode.result stands c.in-None.is
    c.standing_of-stands.ensures c.mode_in-mode.ensures)
    (c.trail-in-None.ensures (added (standing_flow f info stands within c.args.fits.now) items) stood)
