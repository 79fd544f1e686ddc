use Rattle.std.proofs.Common.{◌≡◌, ◌∙◌, ap, length, set, subst, sym}
use Rattle.std.proofs.Math.ListN.{length-set}
use Rattle.table_fits.proofs.TableLemmas.{fits_set, table_ends}
use Rattle.table_fits.specs.Flowing.{fitting, standing}
use Rattle.table_fits.specs.Pass.{fits_read, flow_ended, inside_flow, is_own, table_ended}
use Rattle.table_fits.specs.Seen.{FlowIs, table_seen}
use Rattle.table_fits.proofs.values.end.Goals as goal

pub returns : goal.returns
returns g c = λ w s outer p h k at_is order content.
    let options = c.args.options.now in
    let f = fitting options w in
    let around = c.args.around in
    let head = c.args.head.now in
    let info = head.info in
    let stands = c.standing_of-stands.result in
    let inside = inside_flow s.flow in
    let fits = fits_read (standing info) s.table in
    let fits_are : c.in_ok-fits.fits.items ≡ fits = c.in_ok-fits.ensures
    ∙ (ap (λ x. fits_read x (table_seen c.args.reading.now.table)) c.standing_of-stands.ensures
    ∙ ap (fits_read (standing info)) h.table) in
    record {
      flow = subst (λ l. FlowIs options c.end_flow.new.flow (flow_ended f around head
          (is_own around.prefix (standing info)) l outer.flow s.flow)) (c.as_slice.ensures.value ∙ fits_are)
          (c.in_ok-end_flow.ensures w s.flow outer.flow p h.flow k.flow);
      table = c.in_ok-end_table.ensures options outer.table inside (c.widths_inside-asked.ensures options s.flow h.flow)
          (λ e. k.table (sym c.standing_of-stands.ensures ∙ e))
          ∙ (ap (λ x. table_ended options around x info c.args.extent outer.table inside
          (table_seen c.args.reading.now.table)) c.standing_of-stands.ensures
          ∙ ap (table_ended options around (standing info) info c.args.extent outer.table inside) h.table);
      fits = fits_set c.args.reading.now.fits.items c.args.at c.in_ok-fits.fits
          ∙ (ap (λ l. set l c.args.at c.in_ok-fits.fits.items) h.fits
          ∙ (ap (λ n. set s.fits n c.in_ok-fits.fits.items) at_is
          ∙ ap (set s.fits (length outer.fits)) fits_are));
      is_table = table_ends options around (standing info) info c.args.extent outer.table s.table inside
          (length outer.fits) (length s.fits) (length (set s.fits (length outer.fits) fits)) content order
          (length-set s.fits (length outer.fits) fits) k.is_table h.is_table;
    }
