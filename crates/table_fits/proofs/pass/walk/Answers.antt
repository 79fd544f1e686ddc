use Rattle.std.proofs.Common.{◌∙◌, ap, vec_len}
use Rattle.render_values.specs.Arena.{values_of}
use Rattle.table_fits.proofs.WalkLemmas.{begins_all, ends_all, nothing_popped}
use Rattle.table_fits.specs.Flowing.{fitting}
use Rattle.table_fits.specs.Seen.{fits_seen}
use Rattle.table_fits.proofs.pass.walk.Goals as goal

pub values-init : goal.values-init
values-init g c = record {
  walking = begins_all c.args.options.now g.w c.args.nodes.now c.args.sizes.now c.page.result
      c.new-waiting.result.items c.in_ok-reading.reading c.requires.1.0 c.requires.1.1.1
      (c.in_ok-reading.ensures c.args.options.now) c.page.ensures c.new-waiting.ensures.items;
}

pub returns-in-None : goal.returns-in-None
returns-in-None g c =
    let gone = nothing_popped c.values.waiting.items c.pop.new.self.items (vec_len c.values.waiting)
    c.in-None.ensures.cases.0 c.in-None.ensures.rest c.in-None.ensures.items in
    ap (λ v. fits_seen v.items) c.into_fits.ensures
    ∙ (ends_all c.args.options.now g.w c.args.nodes.now c.args.sizes.now c.values.place c.values.waiting.items
    c.values.reading gone c.if-place.false c.values.invariant.walking
    ∙ c.passes_give_fits.ensures (fitting c.args.options.now g.w) (values_of c.args.nodes.now))
