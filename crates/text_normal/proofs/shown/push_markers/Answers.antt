use Rattle.std.proofs.Common.{◌++◌, ◌∷◌, [], sym, ap, ◌∙◌, refl, map, chars, append_assoc, append-nil}
use Rattle.std.proofs.lemmas.Str.{chars-nil, chars_past_char}
use Rattle.text_lines.specs.Tagged.{line_items, marker}
use Rattle.text_normal.proofs.shown.push_markers.Goals as goal

pub loop-after-preserved : goal.loop-after-preserved
loop-after-preserved g c =
    let seen = g.T.EqualCopy.seen in
    record {
      text = c.in-Some.ensures.texts.1;
      items = ap (λ items. items ++ map (λ d. marker (chars c.args.name.now)) (chars c.in-Some.after.now))
          c.in_ok-push_marker.ensures.ok
          ∙ append_assoc (line_items seen c.loop-after.front) (marker (chars c.args.name.now) ∷ [])
          (map (λ d. marker (chars c.args.name.now)) (chars c.in-Some.after.now))
          ∙ ap (λ cs. line_items seen c.loop-after.front ++ map (λ d. marker (chars c.args.name.now)) cs)
          (sym (chars_past_char c.loop-after.rest.now c.in-Some.after.now c.in-Some.field-0-0
          c.loop-after.invariant.text
          c.in-Some.ensures.first)) ∙ c.loop-after.invariant.items;
      joined = λ h. c.push_marker.ensures.joined (c.loop-after.invariant.joined h);
    }

pub returns-clause-ok : goal.returns-clause-ok
returns-clause-ok g c =
    let seen = g.T.EqualCopy.seen in
    sym (ap (λ cs. line_items seen c.loop-after.front ++ map (λ d. marker (chars c.args.name.now)) cs)
    (ap chars (c.in_default.ensures.none refl) ∙ chars-nil) ∙ append-nil (line_items seen c.loop-after.front))
    ∙ c.loop-after.invariant.items
