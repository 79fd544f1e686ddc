use Rattle.std.proofs.Common.{refl, arith}
use Rattle.text_lines.proofs.Copying.{seen_alike}
use Rattle.text_lines.proofs.equal_copy.UnitEqualCopy.copies.Goals as goal

pub returns : goal.returns
returns g c =
    seen_alike _ c.resize_with.new.self.items c.args.tags.now (λ x y. refl)
    (omega (arith, c.in_ok-resize_with.ensures.len, c.resize_with.new.self.ok.0))
