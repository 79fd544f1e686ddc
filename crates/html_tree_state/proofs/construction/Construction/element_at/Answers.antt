use Rattle.std.proofs.Common.{List, ap, slice_index_or, ◌∙◌}
use Rattle.html_tree_state.proofs.WalkPlaces.{at_place}
use Rattle.html_tree_state.proofs.construction.Construction.element_at.Goals as goal

pub returns : goal.returns
returns g c = λ tops n lows whole long.
    let x = c.index-open_elements-index.result in
    at_place g.S.TreeSink.view.number c.args.self.now.held.open_elements c.args.index x tops n lows c.requires
    (c.index-open_elements-index.is
    ∙ ap (λ (v : List g.row.S-Handle.Denot). slice_index_or v c.args.index x) c.open_elements.ensures) whole long
