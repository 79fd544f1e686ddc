use Rattle.std.proofs.Common.{arith, rules}
use Rattle.table_fits.proofs.SegmentLemmas.{first_node}
use Rattle.table_fits.proofs.WalkLemmas.{entered}
use Rattle.table_fits.proofs.pass.enter.Goals as goal

pub overflow_add-last : goal.overflow_add-last
overflow_add-last g c =
    let h = c.requires.1.1.1 in
    let n = first_node c.args.nodes.now c.args.sizes.now g.w c.args.place.at c.args.place.end
    c.index-nodes-place.result c.index-nodes-place.is c.requires.1.0 h.same h.here in
    omega (arith, n.fits)

pub slice_bounds-inside_of-end : goal.slice_bounds-inside_of-end
slice_bounds-inside_of-end g c =
    let h = c.requires.1.1.1 in
    let n = first_node c.args.nodes.now c.args.sizes.now g.w c.args.place.at c.args.place.end
    c.index-nodes-place.result c.index-nodes-place.is c.requires.1.0 h.same h.here in
    search (rules, n.fits, h.here.within)

pub inside_of-requires : goal.inside_of-requires
inside_of-requires g c =
    let h = c.requires.1.1.1 in
    let n = first_node c.args.nodes.now c.args.sizes.now g.w c.args.place.at c.args.place.end
    c.index-nodes-place.result c.index-nodes-place.is c.requires.1.0 h.same h.here in
    record { flat = n.inner.flat }

pub returns-clause-walking : goal.returns-clause-walking
returns-clause-walking g c =
    let h = c.requires.1.1.1 in
    entered c.args.options.now g.w c.args.nodes.now c.args.sizes.now c.args.place c.args.waiting.now.items
    c.push.new.self.items c.args.reading.now c.begin.new.reading c.index-nodes-place.result c.in_ok-kept.kept
    c.in_ok-around.around c.values_ask_for_no_more_at_least.ensures c.index-nodes-place.is c.requires.1.0 h
    (c.in_ok-kept.ensures.passes h.state g.w h.passing) (c.in_ok-kept.ensures.kept h.state h.passing)
    (c.in_ok-around.ensures c.args.options.now g.w c.requires.1.1.0) c.in_ok-push.ensures.items
