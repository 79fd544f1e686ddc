use Rattle.std.proofs.Common.{◌≡◌, ℕ, ◌-◌, ◌^◌, false, List, [], Option, Some, option_map, ap, ◌∙◌, arith}
use Rattle.std.specs.Fmt.{styled_digits_output, padded_integral, format_spec}
use Rattle.std.proofs.lemmas.Fmt.{hex_byte}
use Rattle.text_decorators.specs.Colours.{part_text}
use Rattle.text_decorators.proofs.colour.ColourDisplay.fmt.Goals as goal

abbrev shown : Option (List ℕ) → Option (List ℕ)
shown = option_map (padded_integral (format_spec 32 0 4 2 (2 ^ 64 - 1)) false [])

pub returns-clause-writes : goal.returns-clause-writes
returns-clause-writes g c =
    let red : styled_digits_output c.in_radix.result c.laid_out.result ≡ Some (part_text c.args.self.now.r) =
    ap (styled_digits_output c.in_radix.result) c.laid_out.ensures ∙ ap shown c.in_radix.ensures
    ∙ ap Some (hex_byte false c.args.self.now.r (omega arith)) in
    let green : styled_digits_output c.in_radix-2.result c.laid_out-2.result ≡ Some (part_text c.args.self.now.g) =
    ap (styled_digits_output c.in_radix-2.result) c.laid_out-2.ensures ∙ ap shown c.in_radix-2.ensures
    ∙ ap Some (hex_byte false c.args.self.now.g (omega arith)) in
    let blue : styled_digits_output c.in_radix-3.result c.laid_out-3.result ≡ Some (part_text c.args.self.now.b) =
    ap (styled_digits_output c.in_radix-3.result) c.laid_out-3.ensures ∙ ap shown c.in_radix-3.ensures
    ∙ ap Some (hex_byte false c.args.self.now.b (omega arith)) in
    rw (red, green, blue) at c.write.ensures.writes
