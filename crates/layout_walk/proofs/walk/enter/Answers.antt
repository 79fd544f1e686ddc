use Rattle.std.proofs.Common.{◌≡◌, ◌+◌, List, Err, ap, arith, subst, sym, ◌∙◌}
use Rattle.std.proofs.lemmas.Result.{err_from_is_err_and}
use Rattle.text_pieces.specs.declared.fault.BlockError.TheVariants.{TooNarrow}
use Rattle.block_renderer.specs.Seen.{marking}
use Rattle.render_sizes.specs.Extents.{extent_of, extents}
use Rattle.render_sizes.specs.declared.extent.Extent.{Extent}
use Rattle.render_values.specs.Arena.{IsFlat, values_of}
use Rattle.render_values.specs.declared.node.RenderNode.{RenderNode}
use Rattle.layout_state.specs.Seen.{laying_of}
use Rattle.layout_values.specs.Seen.{IsSound, all_waiting, content_seen, left, rest_of, waiting_of}
use Rattle.layout_values.specs.Sizing.{fits_in, in_mode}
use Rattle.layout_tables.specs.Seen.{all_fits_seen, fits_at}
use Rattle.table_fits.specs.Flowing.{mode_in}
use Rattle.layout_walk.proofs.EnterLemmas.{entered, entered_load, entered_ready, goes_in, known_in, rest_waits}
use Rattle.layout_walk.proofs.EnterLemmas.{short_in, sound_in}
use Rattle.layout_walk.proofs.SegmentLemmas.{first_node}
use Rattle.layout_walk.proofs.WalkLemmas.{never_enters}
use Rattle.layout_walk.proofs.walk.enter.Goals as goal

pub overflow_add-trailing : goal.overflow_add-trailing
overflow_add-trailing g c = omega (
  arith,
  (first_node c.args.nodes.now c.args.sizes.now (all_fits_seen c.args.fits.now)
      (in_mode g.w c.args.place.mode) c.args.place.at c.args.place.end c.index-nodes-place.result
      c.index-nodes-place.is c.requires.1.1.1.0 c.requires.1.1.1.1).fits,
)

pub nodes_between-inside-requires-clause-within : goal.nodes_between-inside-requires-clause-within
nodes_between-inside-requires-clause-within g c = omega (
  arith,
  (first_node c.args.nodes.now c.args.sizes.now (all_fits_seen c.args.fits.now)
      (in_mode g.w c.args.place.mode) c.args.place.at c.args.place.end c.index-nodes-place.result
      c.index-nodes-place.is c.requires.1.1.1.0 c.requires.1.1.1.1).fits,
  c.requires.1.1.1.1.within,
)

pub extents_between-inner-requires-clause-within : goal.extents_between-inner-requires-clause-within
extents_between-inner-requires-clause-within g c = (first_node c.args.nodes.now c.args.sizes.now
    (all_fits_seen c.args.fits.now)
    (in_mode g.w c.args.place.mode) c.args.place.at
    c.args.place.end c.index-nodes-place.result
    c.index-nodes-place.is c.requires.1.1.1.0 c.requires.1.1.1.1).inner_there

pub content_of-requires : goal.content_of-requires
content_of-requires g c =
    let n = (first_node c.args.nodes.now c.args.sizes.now (all_fits_seen c.args.fits.now)
    (in_mode g.w c.args.place.mode) c.args.place.at c.args.place.end
    c.index-nodes-place.result
    c.index-nodes-place.is c.requires.1.1.1.0 c.requires.1.1.1.1) in (
      subst IsFlat (sym c.nodes_between-inside.ensures) n.inner.flat,
      (
        λ asks. c.extents_between-inner.ensures ∙ (n.inside asks
            ∙ ap (λ (l : List RenderNode). extents g.w.measure (values_of l)) (sym c.nodes_between-inside.ensures)),
        (
          λ asks. ap (λ (e : Extent). e.least) (n.size asks (record { size = 0; least = 0 }))
              ∙ ap (λ (l : List RenderNode). (extent_of g.w.measure c.index-nodes-place.result.head
              (values_of l)).least) (sym c.nodes_between-inside.ensures),
          n.fitted
              ∙ ap (λ (l : List RenderNode). fits_in (in_mode g.w c.args.place.mode)
              c.index-nodes-place.result.head (values_of l)) (sym c.nodes_between-inside.ensures),
        ),
      ),
    )

pub bounds-sizes-place : goal.bounds-sizes-place
bounds-sizes-place g c = (first_node c.args.nodes.now c.args.sizes.now (all_fits_seen c.args.fits.now)
    (in_mode g.w c.args.place.mode) c.args.place.at c.args.place.end
    c.index-nodes-place.result
    c.index-nodes-place.is c.requires.1.1.1.0 c.requires.1.1.1.1).there

pub open_value-requires-clause-given : goal.open_value-requires-clause-given
open_value-requires-clause-given g c = (first_node c.args.nodes.now c.args.sizes.now (all_fits_seen c.args.fits.now)
    (in_mode g.w c.args.place.mode) c.args.place.at c.args.place.end c.index-nodes-place.result
    c.index-nodes-place.is c.requires.1.1.1.0 c.requires.1.1.1.1).fits_there

pub returns-in_err-entered-clause-narrow : goal.returns-in_err-entered-clause-narrow
returns-in_err-entered-clause-narrow g c = λ e. λ tag p.
    let q = err_from_is_err_and c.from_residual-in_err-entered.result c.from_residual-in_err-entered.ensures.1 in
    let same : c.in_err-entered.field-0.0 ≡ TooNarrow = cc (q.1, q.2, e) in
    never_enters (marking g.D.TextDecorator.view tag) g.w (in_mode g.w c.args.place.mode)
    (all_waiting g.D.Annotation.EqualCopy.seen g.D.TextDecorator.view.held c.args.nodes.now c.args.waiting.now.items)
    c.index-nodes-place.result.head _ _ _ (content_seen c.in_ok-content.content
    (fits_at (all_fits_seen c.args.fits.now) c.args.place.at)) (laying_of
    g.D.Annotation.EqualCopy.seen g.D.TextDecorator.view.held c.args.laying.now)
    (first_node c.args.nodes.now c.args.sizes.now (all_fits_seen c.args.fits.now)
    (in_mode g.w c.args.place.mode) c.args.place.at c.args.place.end c.index-nodes-place.result
    c.index-nodes-place.is c.requires.1.1.1.0 c.requires.1.1.1.1).are
    (known_in (in_mode g.w c.args.place.mode) c.index-nodes-place.result.head (content_seen c.in_ok-content.content
    (fits_at (all_fits_seen c.args.fits.now) c.args.place.at)) _ _
    c.in_ok-content.ensures.alike c.nodes_between-inside.ensures)
    (c.in_err-entered.ensures.narrow (ap Err same) tag p)

pub returns-clause-goes : goal.returns-clause-goes
returns-clause-goes g c = λ tag p.
    let n = (first_node c.args.nodes.now c.args.sizes.now (all_fits_seen c.args.fits.now)
    (in_mode g.w c.args.place.mode) c.args.place.at c.args.place.end
    c.index-nodes-place.result
    c.index-nodes-place.is c.requires.1.1.1.0 c.requires.1.1.1.1) in
    let o = c.in_ok-entered.ensures.opened c.args.nodes.now n.info in
    subst (λ mode. left g.D.Annotation.EqualCopy.seen g.D.TextDecorator.view.held (marking g.D.TextDecorator.view tag)
    c.args.nodes.now g.w mode c.entrance.result (c.args.place.at + 1 + c.index-nodes-place.result.below)
    c.open_value.new.waiting.items c.open_value.new.laying
    ≡ left g.D.Annotation.EqualCopy.seen g.D.TextDecorator.view.held (marking g.D.TextDecorator.view tag)
    c.args.nodes.now g.w c.args.place.mode c.args.place.at c.args.place.end c.args.waiting.now.items
    c.args.laying.now) (sym c.mode_in-mode.ensures)
    (entered (waiting_of g.D.Annotation.EqualCopy.seen g.D.TextDecorator.view.held c.args.nodes.now) (marking
    g.D.TextDecorator.view tag) g.w (in_mode g.w c.args.place.mode)
    c.args.waiting.now.items c.push_nodes.new.waiting.items
    (rest_of c.args.place.mode (c.args.place.at + 1 + c.index-nodes-place.result.below) c.args.place.end) o.items
    c.open_value.new.waiting.items c.index-nodes-place.result.head _ _ _ _
    (content_seen c.in_ok-content.content
    (fits_at (all_fits_seen c.args.fits.now) c.args.place.at)) c.in_ok-entered.entered
    (laying_of g.D.Annotation.EqualCopy.seen g.D.TextDecorator.view.held c.args.laying.now) (laying_of
    g.D.Annotation.EqualCopy.seen g.D.TextDecorator.view.held c.open_value.new.laying) c.in_ok-push_nodes.ensures
    o.pushed
    (rest_waits g.D.Annotation.EqualCopy.seen g.D.TextDecorator.view.held c.args.nodes.now
    (marking g.D.TextDecorator.view tag) g.w c.args.place.mode (c.args.place.at + 1 + c.index-nodes-place.result.below)
    c.args.place.end) n.are
    (known_in (in_mode g.w c.args.place.mode) c.index-nodes-place.result.head (content_seen c.in_ok-content.content
    (fits_at (all_fits_seen c.args.fits.now) c.args.place.at)) _ _
    c.in_ok-content.ensures.alike c.nodes_between-inside.ensures)
    (o.opens tag p g.w)
    (goes_in (marking g.D.TextDecorator.view tag)
    (in_mode g.w (mode_in c.args.place.mode c.index-nodes-place.result.head)) c.args.nodes.now c.in_ok-entered.entered
    _ _ _ (laying_of
    g.D.Annotation.EqualCopy.seen
    g.D.TextDecorator.view.held c.open_value.new.laying)
    c.entrance.ensures))

pub returns-clause-ready : goal.returns-clause-ready
returns-clause-ready g c = λ ready.
    let n = (first_node c.args.nodes.now c.args.sizes.now (all_fits_seen c.args.fits.now)
    (in_mode g.w c.args.place.mode) c.args.place.at c.args.place.end
    c.index-nodes-place.result
    c.index-nodes-place.is c.requires.1.1.1.0 c.requires.1.1.1.1) in
    let o = c.in_ok-entered.ensures.opened c.args.nodes.now n.info in
    entered_ready c.args.nodes.now c.args.sizes.now (all_fits_seen c.args.fits.now) g.w c.args.waiting.now.items
    c.push_nodes.new.waiting.items o.items
    c.open_value.new.waiting.items c.args.place.mode _ _ c.in_ok-push_nodes.ensures o.pushed o.works n.rest ready

pub returns-clause-sound : goal.returns-clause-sound
returns-clause-sound g c =
    let n = first_node c.args.nodes.now c.args.sizes.now (all_fits_seen c.args.fits.now)
    (in_mode g.w c.args.place.mode) c.args.place.at c.args.place.end c.index-nodes-place.result
    c.index-nodes-place.is c.requires.1.1.1.0 c.requires.1.1.1.1 in
    subst (λ mode. IsSound c.args.nodes.now c.args.sizes.now (all_fits_seen c.args.fits.now) (in_mode g.w mode)
    c.entrance.result (c.args.place.at + 1 + c.index-nodes-place.result.below)) (sym c.mode_in-mode.ensures)
    (sound_in c.args.nodes.now c.args.sizes.now (all_fits_seen c.args.fits.now)
    (in_mode g.w (mode_in c.args.place.mode c.index-nodes-place.result.head)) c.in_ok-entered.entered _ _ _
    c.entrance.ensures n.inner)

pub returns-clause-falls : goal.returns-clause-falls
returns-clause-falls g c =
    let n = (first_node c.args.nodes.now c.args.sizes.now (all_fits_seen c.args.fits.now)
    (in_mode g.w c.args.place.mode) c.args.place.at c.args.place.end
    c.index-nodes-place.result
    c.index-nodes-place.is c.requires.1.1.1.0 c.requires.1.1.1.1) in
    let o = c.in_ok-entered.ensures.opened c.args.nodes.now n.info in
    omega (
      arith,
      entered_load c.args.waiting.now.items c.push_nodes.new.waiting.items o.items c.open_value.new.waiting.items
          c.args.place.mode (c.args.place.at + 1 + c.index-nodes-place.result.below) c.args.place.end
          c.in_ok-push_nodes.ensures o.pushed o.works o.few,
      n.fits,
      short_in c.in_ok-entered.entered (c.args.place.at + 1) (c.args.place.at + 1 + c.index-nodes-place.result.below)
          c.entrance.result c.entrance.ensures,
      c.requires.1.1.1.0,
    )
