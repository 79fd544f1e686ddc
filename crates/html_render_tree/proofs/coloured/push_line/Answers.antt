use Rattle.std.proofs.Common.{◌∷◌, [], rules, refl, string_bytes, subst}
use Rattle.text_lines.specs.Iterating.{strings_left}
use Rattle.text_lines.specs.Tagged.{line_strings}
use Rattle.html_render_tree.proofs.ColouredLemmas.{HasColoured, all_coloured, one_coloured}
use Rattle.html_render_tree.specs.Coloured.{Colours}
use Rattle.html_render_tree.proofs.coloured.push_line.Goals as goal

pub strings-preserved : goal.strings-preserved
strings-preserved g c =
    let makes = Colours g.F.Fn c.args.colour_map.now in
    let all = line_strings c.args.line.now in
    let before : HasColoured makes all (c.in-Some.string.now ∷ strings_left c.next.new.self)
    (string_bytes c.args.text.now)
    (string_bytes c.strings.text) =
    subst (λ left. HasColoured makes all left (string_bytes c.args.text.now) (string_bytes c.strings.text))
    c.in-Some.ensures.steps c.strings.invariant in
    let made : makes c.in-Some.string.now.tag.items (string_bytes c.in-Some.string.now.s)
    (string_bytes c.in_ok-made.made) = record {
      tags_shown = c.as_slice.result;
      text_shown = c.as_str.result;
      shows = (c.as_slice.ensures.value, c.as_str.ensures.value);
      answer = c.in_ok-made.made;
      says = search rules;
      same = refl;
    } in
    one_coloured makes all (strings_left c.next.new.self) c.in-Some.string.now (string_bytes c.args.text.now)
    (string_bytes c.strings.text) (string_bytes c.push_str.new.self) (string_bytes c.in_ok-made.made) before made
    (search rules)

pub returns : goal.returns
returns g c =
    let makes = Colours g.F.Fn c.args.colour_map.now in
    let all = line_strings c.args.line.now in
    let before : HasColoured makes all [] (string_bytes c.args.text.now) (string_bytes c.strings.text) =
    subst (λ left. HasColoured makes all left (string_bytes c.args.text.now) (string_bytes c.strings.text))
    c.in-None.ensures.steps.0 c.strings.invariant in
    all_coloured makes all (string_bytes c.args.text.now) (string_bytes c.strings.text)
    (string_bytes c.push_str-2.new.self) before (search rules)
