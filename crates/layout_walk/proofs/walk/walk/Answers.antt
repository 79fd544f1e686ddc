use Rattle.std.proofs.Common.{◌≡◌, [], ◌∷◌, Err, ap, arith, length, map, subst, sym, vec_len, ◌∙◌}
use Rattle.std.specs.Prelude.{All}
use Rattle.std.specs.Option.{option_and_then}
use Rattle.std.proofs.lemmas.List.{map-append}
use Rattle.std.proofs.lemmas.List.Elements.{All-nil}
use Rattle.std.proofs.lemmas.Result.{err_from_is_err_and}
use Rattle.text_pieces.specs.declared.fault.BlockError.TheVariants.{TooNarrow}
use Rattle.block_renderer.specs.Seen.{marking}
use Rattle.render_values.specs.Arena.{values_of}
use Rattle.layout_values.specs.Lay.{lay}
use Rattle.layout_state.specs.Seen.{laying_of}
use Rattle.layout_values.specs.Seen.{IsReady, all_waiting, waiting_of}
use Rattle.layout_values.specs.Continuation.{unwound}
use Rattle.layout_values.specs.Sizing.{in_mode}
use Rattle.layout_tables.specs.Seen.{all_fits_seen}
use Rattle.table_fits.specs.Walk.{segment}
use Rattle.text_pieces.specs.declared.white_space.WhiteSpace.TheVariants.{Normal}
use Rattle.layout_walk.proofs.EnterLemmas.{front_ready, left_load}
use Rattle.layout_walk.proofs.SegmentLemmas.{all_here, all_sound, nothing_here}
use Rattle.layout_walk.proofs.WalkLemmas.{begins_here, ends_here, leaves, never_leaves, nothing_popped}
use Rattle.layout_walk.proofs.walk.walk.Goals as goal

pub nodes-init : goal.nodes-init
nodes-init g c = record {
  works = c.requires.1.1.0;
  ready = subst (All (IsReady {D = g.row.D.Denot} {T = g.row.D-Annotation.Denot} c.args.nodes.now c.args.sizes.now
      (all_fits_seen c.args.fits.now) g.w))
      (sym c.new-waiting.ensures.items) (All-nil (IsReady {D = g.row.D.Denot} {T = g.row.D-Annotation.Denot}
      c.args.nodes.now c.args.sizes.now
      (all_fits_seen c.args.fits.now) g.w));
  sound = all_sound c.args.nodes.now c.args.sizes.now (all_fits_seen c.args.fits.now) (in_mode g.w Normal)
      c.requires.1.1.1.0 c.requires.1.1.1.1.0 c.requires.1.1.1.1.1;
  goes = λ tag p. ap (λ xs. option_and_then (unwound (marking g.D.TextDecorator.view tag) g.w
      (all_waiting g.D.Annotation.EqualCopy.seen g.D.TextDecorator.view.held c.args.nodes.now xs))
      (lay (marking g.D.TextDecorator.view tag) (in_mode g.w Normal)
      (values_of (segment c.args.nodes.now 0 (length c.args.nodes.now))) (laying_of g.D.Annotation.EqualCopy.seen
      g.D.TextDecorator.view.held c.args.laying.now))) c.new-waiting.ensures.items
      ∙ begins_here (marking g.D.TextDecorator.view tag) g.w (in_mode g.w Normal) _
      (values_of c.args.nodes.now) (laying_of g.D.Annotation.EqualCopy.seen g.D.TextDecorator.view.held
      c.args.laying.now)
      (all_here c.args.nodes.now);
}

pub leave-requires-clause-ready : goal.leave-requires-clause-ready
leave-requires-clause-ready g c = (
  c.args.sizes.now,
  (
    all_fits_seen c.args.fits.now,
    (
      g.w,
      (front_ready (IsReady {D = g.row.D.Denot} {T = g.row.D-Annotation.Denot} c.args.nodes.now c.args.sizes.now
          (all_fits_seen c.args.fits.now) g.w) c.nodes.waiting.items c.pop.new.self.items c.in-Some.next
          c.in-Some.ensures.items c.nodes.invariant.ready).1,
    ),
  ),
)

pub returns-in_err-place-in-Some-clause-narrow : goal.returns-in_err-place-in-Some-clause-narrow
returns-in_err-place-in-Some-clause-narrow g c = λ e. λ tag p.
    let q = err_from_is_err_and c.from_residual-in_err-place-in-Some.result
    c.from_residual-in_err-place-in-Some.ensures.1 in
    let same : c.in_err-place-in-Some.field-0.0 ≡ TooNarrow = cc (q.1, q.2, e) in
    sym (c.nodes.invariant.goes tag p)
    ∙ never_leaves (marking g.D.TextDecorator.view tag) g.w (in_mode g.w c.nodes.place.mode)
    (all_waiting g.D.Annotation.EqualCopy.seen g.D.TextDecorator.view.held c.args.nodes.now c.nodes.waiting.items)
    (all_waiting g.D.Annotation.EqualCopy.seen g.D.TextDecorator.view.held c.args.nodes.now c.pop.new.self.items)
    (waiting_of g.D.Annotation.EqualCopy.seen g.D.TextDecorator.view.held c.args.nodes.now c.in-Some.next) _ (laying_of
    g.D.Annotation.EqualCopy.seen g.D.TextDecorator.view.held c.nodes.laying)
    (ap (map (waiting_of g.D.Annotation.EqualCopy.seen g.D.TextDecorator.view.held c.args.nodes.now))
    c.in-Some.ensures.items
    ∙ map-append (waiting_of g.D.Annotation.EqualCopy.seen g.D.TextDecorator.view.held c.args.nodes.now)
    c.pop.new.self.items (c.in-Some.next ∷ []))
    (nothing_here c.args.nodes.now c.nodes.place.at c.nodes.place.end c.if-place.false)
    (c.in_err-place-in-Some.ensures.narrow (ap Err same) tag p g.w)

pub nodes-smaller : goal.nodes-smaller
nodes-smaller g c = omega (
  arith,
  left_load c.nodes.waiting.items c.pop.new.self.items c.in-Some.next
      c.in-Some.ensures.items,
  c.in_ok-place-in-Some.ensures.falls,
)

pub nodes-preserved : goal.nodes-preserved
nodes-preserved g c = record {
  works = c.in_ok-place-in-Some.ensures.works;
  ready = (front_ready (IsReady {D = g.row.D.Denot} {T = g.row.D-Annotation.Denot} c.args.nodes.now c.args.sizes.now
      (all_fits_seen c.args.fits.now) g.w)
      c.nodes.waiting.items c.pop.new.self.items c.in-Some.next c.in-Some.ensures.items c.nodes.invariant.ready).0;
  sound = c.in_ok-place-in-Some.ensures.sound c.args.sizes.now (all_fits_seen c.args.fits.now) g.w
      (front_ready (IsReady {D = g.row.D.Denot} {T =
      g.row.D-Annotation.Denot} c.args.nodes.now c.args.sizes.now
      (all_fits_seen c.args.fits.now) g.w)
      c.nodes.waiting.items c.pop.new.self.items c.in-Some.next c.in-Some.ensures.items c.nodes.invariant.ready).1
      c.nodes.invariant.sound;
  goes = λ tag p. leaves (marking g.D.TextDecorator.view tag) g.w (in_mode g.w c.nodes.place.mode)
      (in_mode g.w c.in_ok-place-in-Some.place.mode)
      (all_waiting g.D.Annotation.EqualCopy.seen g.D.TextDecorator.view.held c.args.nodes.now c.nodes.waiting.items)
      (all_waiting g.D.Annotation.EqualCopy.seen g.D.TextDecorator.view.held c.args.nodes.now c.pop.new.self.items)
      (waiting_of g.D.Annotation.EqualCopy.seen g.D.TextDecorator.view.held c.args.nodes.now c.in-Some.next)
      (values_of (segment c.args.nodes.now c.nodes.place.at c.nodes.place.end))
      (values_of (segment c.args.nodes.now c.in_ok-place-in-Some.place.at c.in_ok-place-in-Some.place.end))
      (laying_of g.D.Annotation.EqualCopy.seen g.D.TextDecorator.view.held c.nodes.laying) (laying_of
      g.D.Annotation.EqualCopy.seen g.D.TextDecorator.view.held c.leave.new.laying)
      (ap (map (waiting_of g.D.Annotation.EqualCopy.seen g.D.TextDecorator.view.held c.args.nodes.now))
      c.in-Some.ensures.items
      ∙ map-append (waiting_of g.D.Annotation.EqualCopy.seen g.D.TextDecorator.view.held c.args.nodes.now)
      c.pop.new.self.items (c.in-Some.next ∷ []))
      (nothing_here c.args.nodes.now c.nodes.place.at c.nodes.place.end c.if-place.false)
      (c.in_ok-place-in-Some.ensures.goes tag p g.w) ∙ c.nodes.invariant.goes tag p;
}

pub returns-in-None-clause-done : goal.returns-in-None-clause-done
returns-in-None-clause-done g c = λ tag p.
    let gone = nothing_popped c.nodes.waiting.items c.pop.new.self.items (vec_len c.nodes.waiting)
    c.in-None.ensures.cases.0 c.in-None.ensures.rest c.in-None.ensures.items in
    sym (c.nodes.invariant.goes tag p)
    ∙ ends_here (marking g.D.TextDecorator.view tag) g.w (in_mode g.w c.nodes.place.mode)
    (all_waiting g.D.Annotation.EqualCopy.seen
    g.D.TextDecorator.view.held c.args.nodes.now c.nodes.waiting.items) _ (laying_of g.D.Annotation.EqualCopy.seen
    g.D.TextDecorator.view.held c.nodes.laying)
    (ap (map (waiting_of g.D.Annotation.EqualCopy.seen g.D.TextDecorator.view.held c.args.nodes.now)) gone)
    (nothing_here c.args.nodes.now c.nodes.place.at c.nodes.place.end c.if-place.false)
