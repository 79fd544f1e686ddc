use Rattle.std.proofs.Common.{◌-◌, ◌≤◌, ◌∙◌, ap, arith, ℕ}
use Rattle.column_fits.specs.Fits.{covered, high_of, low_of}
use Rattle.column_fits.proofs.WidenLemmas.{length-covered, raised_is_widened, room_for, some_high, widened_is}
use Rattle.std.proofs.lemmas.List.Elements.{All-drop, All-take}
use Rattle.column_fits.specs.declared.fit.ColumnFit.{ColumnFit}
use Rattle.column_fits.proofs.widening.widen.Goals as goal

pub raise-requires-clause-some : goal.raise-requires-clause-some
raise-requires-clause-some c =
    let n = length-covered c.args.cell c.args.fits.now (omega arith) c.requires.within in
    let some = some_high (covered c.args.cell c.args.fits.now) (omega arith)
    (All-take (λ (f : ColumnFit). 1 ≤ f.high) _ _ (All-drop (λ (f : ColumnFit). 1 ≤ f.high) _ _ c.requires.high)) in
    omega arith

pub raise-requires-clause-low : goal.raise-requires-clause-low
raise-requires-clause-low c =
    room_for low_of (covered c.args.cell c.args.fits.now) c.args.cell.narrowest c.lack-low_lack.result (omega arith)
    (c.lack-low_lack.ensures ∙ ap (λ (n : ℕ). c.args.cell.narrowest - n) c.taken_by-taken.ensures.low)

pub raise-requires-clause-high : goal.raise-requires-clause-high
raise-requires-clause-high c =
    room_for high_of (covered c.args.cell c.args.fits.now) c.args.cell.widest c.lack-high_lack.result (omega arith)
    (c.lack-high_lack.ensures ∙ ap (λ (n : ℕ). c.args.cell.widest - n) c.taken_by-taken.ensures.high)

pub returns : goal.returns
returns c =
    widened_is c.args.cell c.args.fits.now c.raise.new.columns
    (c.raise.ensures
    ∙ raised_is_widened c.args.cell (covered c.args.cell c.args.fits.now) c.lack-low_lack.result
    c.lack-high_lack.result _
    (c.lack-low_lack.ensures ∙ ap (λ (n : ℕ). c.args.cell.narrowest - n) c.taken_by-taken.ensures.low)
    (c.lack-high_lack.ensures ∙ ap (λ (n : ℕ). c.args.cell.widest - n) c.taken_by-taken.ensures.high)
    (omega arith))
    (omega arith)
