use Rattle.std.proofs.Common.{refl, subst, chars, ◌++◌, ◌∷◌, []}
use Rattle.std.proofs.lemmas.Result.{on_ok_weaker}
use Rattle.text_normal.specs.Riders.{ride}
use Rattle.text_normal.specs.MarkedTags.{tag_seen}
use Rattle.text_normal.specs.NormalStates.{HasRead}
use Rattle.text_normal.proofs.MarkedLemmas.{marker_rides, marker_fits}
use Rattle.text_normal.proofs.marked.MarkedText.add_marker.Goals as goal

pub returns-then-self-clause-carries : goal.returns-then-self-clause-carries
returns-then-self-clause-carries g c =
    on_ok_weaker c.add_ride.result (λ h. marker_rides g.T.EqualCopy.seen c.args.self.now _ (chars c.args.name.now)
    c.if-self.true refl refl refl
    (λ width overflow read has. subst (λ bytes. HasRead (tag_seen g.T.EqualCopy.seen) width overflow
    (read ++ ride (chars bytes) ∷ []) c.add_ride.new.text) c.in_ok-name.ensures.ok (h width overflow read has)))
    c.add_ride.ensures.read

pub returns-then-self-clause-narrow : goal.returns-then-self-clause-narrow
returns-then-self-clause-narrow g c = λ e.
    marker_fits g.T.EqualCopy.seen c.args.self.now (chars c.args.name.now) (c.add_ride.ensures.never e)
