use Rattle.layout_laws.proofs.BareSteps.{BareLaws}
use Rattle.layout_laws.proofs.BareTables.{parts_alike}
use Rattle.layout_laws.proofs.laws.annotations_change_no_page.Goals as goal

pub returns : goal.returns
returns g c = λ m w values p.
    let laws : BareLaws m = record { does = λ call s. c.annotations_change_no_text.ensures.step m call s } in
    parts_alike laws w values p
