use Rattle.std.proofs.Common.{◌∙◌, ◌++◌, ◌≡◌, ◌<◌, [], ◌∷◌, ap, arith, chars, length, map, string_bytes, subst, sym}
use Rattle.std.proofs.Common.{take}
use Rattle.std.specs.Prelude.{Err}
use Rattle.std.proofs.lemmas.List.{take_all}
use Rattle.std.proofs.lemmas.Result.{err_from_is_err_and}
use Rattle.text_normal.specs.NormalStates.{HasRead}
use Rattle.text_normal.specs.Riders.{ride}
use Rattle.text_normal.specs.MarkedTags.{tag_seen}
use Rattle.text_pieces.specs.Sources.{names}
use Rattle.text_normal.proofs.MarkedLemmas.{rides_more}
use Rattle.text_normal.proofs.marked.add_rides.Goals as goal

pub returns-in_err-add_ride-clause-never : goal.returns-in_err-add_ride-clause-never
returns-in_err-add_ride-clause-never g c = λ e width overflow read has.
    let p = err_from_is_err_and c.from_residual-in_err-add_ride.result c.from_residual-in_err-add_ride.ensures.1 in
    c.add_ride.ensures.never (c.in_err-add_ride.was ∙ ap Err (sym p.2) ∙ sym p.1 ∙ e) width overflow _
    (c.loop-name.invariant width overflow read has)

pub loop-name-preserved : goal.loop-name-preserved
loop-name-preserved g c = λ width overflow read has.
    let inside : c.loop-name.name-index < length c.args.rides.now = omega arith in
    let copied : string_bytes c.in_ok-from_str.field-0 ≡ string_bytes c.name-item.result = c.in_ok-from_str.ensures.ok
    ∙ c.as_str.ensures.value in
    subst (λ ls. HasRead (tag_seen g.T.EqualCopy.seen) width overflow ls c.add_ride.new.text)
    (ap (λ bytes. (read ++ map (λ name. ride name) (names (take c.loop-name.name-index c.args.rides.now)))
    ++ ride (chars bytes) ∷ []) copied
    ∙ rides_more read c.args.rides.now c.loop-name.name-index c.name-item.result inside c.name-item.is)
    (c.in_ok-add_ride.ensures.read width overflow _ (c.loop-name.invariant width overflow read has))

pub returns-clause-read : goal.returns-clause-read
returns-clause-read g c = λ width overflow read has.
    subst (λ ns. HasRead (tag_seen g.T.EqualCopy.seen) width overflow (read ++ map (λ name. ride name) (names ns))
    c.loop-name.text) (take_all c.loop-name.name-index c.args.rides.now c.loop-name-test.false)
    (c.loop-name.invariant width overflow read has)
