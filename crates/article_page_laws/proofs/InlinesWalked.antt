-- What the walk of a render tree makes of the values of what a paragraph holds: the calls of its parts.
use Rattle.std.proofs.Common.{◌≡◌, [], ◌∷◌, ◌++◌, if◌then◌else◌, ◌∙◌, Bool, List, None, Option, Some, ap, append-nil}
use Rattle.std.proofs.Common.{append_assoc, codes, false, refl, sym, true, ℕ}
use Rattle.std.specs.Option.{option_and_then, option_map}
use Rattle.article_definitions.specs.ArticleValues.{link_before, marked, style_info, text_before, values_of_inlines}
use Rattle.article_definitions.specs.Calls.{run}
use Rattle.article_definitions.specs.Layouts.{Options, Part, Tag, all_shallow, mark_of, number_mark, parts_of, says}
use Rattle.article_definitions.specs.Layouts.{targets_in, unless_shallow, within}
use Rattle.article_values.specs.Articles.{Inlines, Style, bold, code, emphasis, italic, line_break, link, no_inlines}
use Rattle.article_values.specs.Articles.{span, strong, words}
use Rattle.block_layout.specs.Laid.{Laid, break_line}
use Rattle.block_layout.specs.declared.measure.Measure.{Measure}
use Rattle.layout_state.specs.Begins.{begins, ends, following, leading, style_begins, style_ends}
use Rattle.layout_state.specs.LayoutState.{Step, begins_link, ends_link}
use Rattle.layout_state.specs.LayoutState as laying_of
use Rattle.render_values.specs.Looks.{plain}
use Rattle.render_values.specs.Plain.{plain_head}
use Rattle.render_values.specs.Values.{Values, joined, none, value}
use Rattle.render_values.specs.declared.info.Head.{Head}
use Rattle.render_values.specs.declared.info.RenderInfo.TheVariants as infos
use Rattle.layout_values.specs.Sizing.{within as within_value}
use Rattle.layout_values.specs.Lay.{content_of, holds, laid, lay}
use Rattle.block_trait.specs.Calls.{ends_mark, starts_mark}
use Rattle.block_trait.specs.declared.options.RenderOptions.{RenderOptions}
use Rattle.text_block_renderer.specs.PlainText.{plain_marking}
use Rattle.text_decorators.specs.Marks.{Mark, code_end, code_start, emphasis_end, emphasis_start, strong_end}
use Rattle.text_decorators.specs.Marks.{strong_start}
use Rattle.article_page_laws.specs.Measures.{plain_sizing}
use Rattle.article_page_laws.specs.Pages.{AreFilled, Place}
use Rattle.article_page_laws.proofs.PagesLaid.{Layings, broke, laying, link_begun, link_ended, m, mark_begun}
use Rattle.article_page_laws.proofs.PagesLaid.{mark_ended, o, said}
use Rattle.article_page_laws.proofs.SaidTexts.{IsQuiet, both_after, break_quiet, chained, empty_first, empty_last}
use Rattle.article_page_laws.proofs.SaidTexts.{run_both, run_quiet, say, say_quiet, then_quiet}

-- what is done to a block of lines in a renderer, and what is done after it
pub next : (f : Layings → Option Layings) (g : Laid Tag → Option (Laid Tag)) (here there : Laid Tag → Layings)
    (x : Option (Laid Tag)) → IsQuiet x →
    ((b : Laid Tag) → b.awaits ≡ false → f (here b) ≡ option_map there (g b)) →
    option_and_then f (option_map here x) ≡ option_map there (option_and_then g x)
next f g here there None quiet same = refl
next f g here there (Some b) quiet same = same b quiet

pub unstyled : (x : Option Layings) → option_and_then (style_ends plain_marking plain) x ≡ x
unfolding style_ends
unstyled None = refl
unstyled (Some l) = refl

pub around_it : (inside trailing : Layings → Option Layings) (x : Option Layings) →
    option_and_then (style_ends plain_marking plain) (option_and_then (λ l. option_and_then trailing (inside l)) x)
    ≡ option_and_then trailing (option_and_then inside x)
around_it inside trailing None = unstyled None
around_it inside trailing (Some l) = unstyled (option_and_then trailing (inside l))

abbrev start_of : Style → Mark
start_of bold = strong_start
start_of italic = emphasis_start
start_of emphasis = emphasis_start
start_of code = code_start
start_of strong = strong_start

abbrev end_of : Style → Mark
end_of bold = strong_end
end_of italic = emphasis_end
end_of emphasis = emphasis_end
end_of code = code_end
end_of strong = strong_end

module _ (given : RenderOptions) (decorates : Bool) (min_wrap : ℕ) (held : Unit {0}) where
  abbrev at : Place → List (List ℕ) → Tag → Laid Tag → Layings
  at = laying given decorates min_wrap held

  abbrev article : Options
  article = o given decorates min_wrap held

  abbrev ms : Place → Measure
  ms = m given decorates min_wrap held

  abbrev walk : Values → Step (Unit {0}) (Unit {0})
  walk vs = lay plain_marking (plain_sizing given article) vs

  -- ---- values

  abbrev walk_alone : Head → Values → Step (Unit {0}) (Unit {0})
  walk_alone head inside =
      laid plain_marking head (content_of (plain_sizing given article) head inside)
      (lay plain_marking (within_value (plain_sizing given article) head) inside)

  walk_joined : (xs ys : Values) (l : Layings) → walk (joined xs ys) l ≡ option_and_then (walk ys) (walk xs l)
  walk_joined none ys l = refl
  walk_joined (value head inside rest) ys l =
      both_after (walk ys) (walk rest) (walk (joined rest ys)) (walk_alone head inside l) (λ l. walk_joined rest ys l)

  alone : (x : Option Layings) → option_and_then (style_ends plain_marking plain)
      (option_and_then (λ l. let all : Option Layings = Some l in all) x) ≡ x
  alone None = unstyled None
  alone (Some l) = unstyled (Some l)

  text_walked : (c : ℕ) (cs : List ℕ) (rest : Values) (p : Place) (ts : List (List ℕ)) (d : Tag) (b : Laid Tag) →
      b.awaits ≡ false → walk (value (plain_head (infos.Text (c ∷ cs))) none rest) (at p ts d b)
      ≡ option_and_then (walk rest) (option_map (at p ts d) (say (ms p) d (c ∷ cs) b))
  unfolding begins ends holds leading following style_begins
  text_walked c cs rest p ts d b quiet =
      ap (option_and_then (walk rest)) (alone _ ∙ said given decorates min_wrap held p ts d (c ∷ cs) b quiet)

  break_walked : (rest : Values) (p : Place) (ts : List (List ℕ)) (d : Tag) (b : Laid Tag) →
      walk (value (plain_head infos.Break) none rest) (at p ts d b)
      ≡ option_and_then (walk rest) (option_map (at p ts d) (break_line (ms p) d b))
  unfolding begins ends holds leading following style_begins
  break_walked rest p ts d b =
      ap (option_and_then (walk rest)) (alone _ ∙ broke given decorates min_wrap held p ts d b)

  -- a mark, if it is not empty
  abbrev said_mark : Measure → Tag → List ℕ → Laid Tag → Option (Laid Tag)
  said_mark w d [] b = Some b
  said_mark w d (c ∷ cs) b = say w d (c ∷ cs) b

  mark_quiet : (w : Measure) (d : Tag) (mark : List ℕ) (b : Laid Tag) → b.awaits ≡ false →
      IsQuiet (said_mark w d mark b)
  mark_quiet w d [] b quiet = quiet
  mark_quiet w d (c ∷ cs) b quiet = say_quiet w d (c ∷ cs) b quiet

  mark_first : (w : Measure) (d : Tag) (mark : List ℕ) (b : Laid Tag) →
      option_and_then (said_mark w d mark) (say w d [] b) ≡ say w d mark b
  mark_first w d [] b = refl
  mark_first w d (c ∷ cs) b = empty_first w d (c ∷ cs) b

  mark_last : (w : Measure) (d : Tag) (mark : List ℕ) (b : Laid Tag) →
      option_and_then (say w d []) (said_mark w d mark b) ≡ say w d mark b
  mark_last w d [] b = refl
  mark_last w d (c ∷ cs) b = empty_last w d d (c ∷ cs) b

  before_walked : (mark : List ℕ) (rest : Values) (p : Place) (ts : List (List ℕ)) (d : Tag) (b : Laid Tag) →
      b.awaits ≡ false → walk (text_before mark rest) (at p ts d b)
      ≡ option_and_then (walk rest) (option_map (at p ts d) (said_mark (ms p) d mark b))
  before_walked [] rest p ts d b quiet = refl
  before_walked (c ∷ cs) rest p ts d b quiet = text_walked c cs rest p ts d b quiet

  -- ---- inlines

  abbrev IsWalked : Inlines → Type 0
  IsWalked is = (p : Place) (ts : List (List ℕ)) (d : Tag) (b : Laid Tag) →
      b.awaits ≡ false → walk (values_of_inlines article is) (at p ts d b)
      ≡ option_map (at p (ts ++ targets_in article is) d) (run (ms p) (parts_of article d ts is) b)

  words_walked : (c : ℕ) (cs : List ℕ) (rest : Inlines) → IsWalked rest → IsWalked (words (c ∷ cs) rest)
  words_walked c cs rest then_rest p ts d b quiet =
      text_walked c cs (values_of_inlines article rest) p ts d b quiet
      ∙ next (walk (values_of_inlines article rest)) (run (ms p) (parts_of article d ts rest)) (at p ts d)
      (at p (ts ++ targets_in article rest) d) (say (ms p) d (c ∷ cs) b) (say_quiet (ms p) d (c ∷ cs) b quiet)
      (λ b quiet. then_rest p ts d b quiet)

  broken_walked : (rest : Inlines) → IsWalked rest → IsWalked (line_break rest)
  broken_walked rest then_rest p ts d b quiet =
      break_walked (values_of_inlines article rest) p ts d b
      ∙ next (walk (values_of_inlines article rest)) (run (ms p) (parts_of article d ts rest)) (at p ts d)
      (at p (ts ++ targets_in article rest) d) (break_line (ms p) d b) (break_quiet (ms p) d b quiet)
      (λ b quiet. then_rest p ts d b quiet)

  -- ---- spans

  styled_walked : (style : Style) (inside rest : Values) (p : Place) (ts : List (List ℕ)) (d : Tag) (b : Laid Tag) →
      walk (value (plain_head (style_info style)) inside rest) (at p ts d b)
      ≡ option_and_then (walk rest) (option_and_then (laying_of.says plain_marking (ends_mark (end_of style)))
      (option_and_then (walk inside) (laying_of.says plain_marking (starts_mark (start_of style)) (at p ts d b))))
  unfolding begins ends holds leading following style_begins
  styled_walked bold inside rest p ts d b = ap (option_and_then (walk rest)) (around_it (walk inside) _ _)
  styled_walked italic inside rest p ts d b = ap (option_and_then (walk rest)) (around_it (walk inside) _ _)
  styled_walked emphasis inside rest p ts d b = ap (option_and_then (walk rest)) (around_it (walk inside) _ _)
  styled_walked code inside rest p ts d b = ap (option_and_then (walk rest)) (around_it (walk inside) _ _)
  styled_walked strong inside rest p ts d b = ap (option_and_then (walk rest)) (around_it (walk inside) _ _)

  span_begun : (style : Style) (p : Place) (ts : List (List ℕ)) (d : Tag) (b : Laid Tag) → b.awaits ≡ false →
      laying_of.says plain_marking (starts_mark (start_of style)) (at p ts d b)
      ≡ option_map (at p ts (within d)) (say (ms p) (within d) [] b)
  span_begun bold p ts d b quiet = mark_begun given decorates min_wrap held strong_start refl p ts d b quiet
  span_begun italic p ts d b quiet = mark_begun given decorates min_wrap held emphasis_start refl p ts d b quiet
  span_begun emphasis p ts d b quiet = mark_begun given decorates min_wrap held emphasis_start refl p ts d b quiet
  span_begun code p ts d b quiet = mark_begun given decorates min_wrap held code_start refl p ts d b quiet
  span_begun strong p ts d b quiet = mark_begun given decorates min_wrap held strong_start refl p ts d b quiet

  span_ended : (style : Style) (p : Place) (ts : List (List ℕ)) (d : Tag) (b : Laid Tag) → b.awaits ≡ false →
      laying_of.says plain_marking (ends_mark (end_of style)) (at p ts (within d) b)
      ≡ option_map (at p ts d) (say (ms p) (within d) [] b)
  span_ended bold p ts d b quiet = mark_ended given decorates min_wrap held strong_end refl p ts d b quiet
  span_ended italic p ts d b quiet = mark_ended given decorates min_wrap held emphasis_end refl p ts d b quiet
  span_ended emphasis p ts d b quiet = mark_ended given decorates min_wrap held emphasis_end refl p ts d b quiet
  span_ended code p ts d b quiet = mark_ended given decorates min_wrap held code_end refl p ts d b quiet
  span_ended strong p ts d b quiet = mark_ended given decorates min_wrap held strong_end refl p ts d b quiet

  -- what stands in a span, its marks beside it
  abbrev marked_run : Measure → Tag → List ℕ → List Part → Laid Tag → Option (Laid Tag)
  marked_run w d mark parts b = option_and_then (said_mark w d mark)
      (option_and_then (run w parts) (said_mark w d mark b))

  mark_after : (mark : List ℕ) (p : Place) (ts : List (List ℕ)) (d : Tag) (b : Laid Tag) → b.awaits ≡ false →
      walk (text_before mark none) (at p ts d b) ≡ option_map (at p ts d) (said_mark (ms p) d mark b)
  mark_after mark p ts d b quiet =
      before_walked mark none p ts d b quiet ∙ kept (option_map (at p ts d) (said_mark (ms p) d mark b))
    where
      kept : (x : Option Layings) → option_and_then (walk none) x ≡ x
      kept None = refl
      kept (Some l) = refl

  marked_walked : (mark : List ℕ) (kids : Inlines) → IsWalked kids → (p : Place) (ts : List (List ℕ))
      (d : Tag) (b : Laid Tag) → b.awaits ≡ false →
      walk (marked mark (values_of_inlines article kids)) (at p ts d b)
      ≡ option_map (at p (ts ++ targets_in article kids) d) (marked_run (ms p) d mark (parts_of article d ts kids) b)
  marked_walked mark kids in_kids p ts d b quiet =
      let w = ms p in
      let inside = values_of_inlines article kids in
      let parts = parts_of article d ts kids in
      let trailing = ts ++ targets_in article kids in
      before_walked mark (joined inside (text_before mark none)) p ts d b quiet
      ∙ next (walk (joined inside (text_before mark none)))
      (λ b. option_and_then (said_mark w d mark) (run w parts b)) (at p ts d) (at p trailing d)
      (said_mark w d mark b) (mark_quiet w d mark b quiet)
      (λ b quiet. walk_joined inside (text_before mark none) (at p ts d b)
      ∙ ap (option_and_then (walk (text_before mark none))) (in_kids p ts d b quiet)
      ∙ next (walk (text_before mark none)) (said_mark w d mark) (at p trailing d) (at p trailing d) (run w parts b)
      (run_quiet w parts b quiet) (λ b quiet. mark_after mark p trailing d b quiet))
      ∙ ap (option_map (at p trailing d)) (sym (chained (said_mark w d mark) (run w parts) (said_mark w d mark b)))

  span_run : (w : Measure) (d : Tag) (mark : List ℕ) (inside rest : List Part) (b : Laid Tag) →
      option_and_then (run w rest) (option_and_then (say w d []) (option_and_then (marked_run w d mark inside)
      (say w d [] b)))
      ≡ run w (says mark d ∷ (inside ++ says mark d ∷ rest)) b
  span_run w d mark inside rest b =
      ap (λ x. option_and_then (run w rest) (option_and_then (say w d []) x))
      (first (say w d [] b) ∙ ap (λ x. option_and_then (said_mark w d mark) (option_and_then (run w inside) x))
      (mark_first w d mark b))
      ∙ by_text (say w d mark b)
    where
      first : (x : Option (Laid Tag)) → option_and_then (marked_run w d mark inside) x
          ≡ option_and_then (said_mark w d mark)
          (option_and_then (run w inside) (option_and_then (said_mark w d mark) x))
      first None = refl
      first (Some b) = refl

      by_inside : (x : Option (Laid Tag)) →
          option_and_then (run w rest) (option_and_then (say w d []) (option_and_then (said_mark w d mark) x))
          ≡ option_and_then (run w (says mark d ∷ rest)) x
      by_inside None = refl
      by_inside (Some b) = ap (option_and_then (run w rest)) (mark_last w d mark b)

      by_text : (x : Option (Laid Tag)) → option_and_then (run w rest) (option_and_then (say w d [])
          (option_and_then (said_mark w d mark) (option_and_then (run w inside) x)))
          ≡ option_and_then (run w (inside ++ says mark d ∷ rest)) x
      by_text None = refl
      by_text (Some b) = by_inside (run w inside b) ∙ sym (run_both w inside (says mark d ∷ rest) b)

  marked_quiet : (w : Measure) (d : Tag) (mark : List ℕ) (parts : List Part) (b : Laid Tag) → b.awaits ≡ false →
      IsQuiet (marked_run w d mark parts b)
  marked_quiet w d mark parts b quiet =
      then_quiet (said_mark w d mark) (option_and_then (run w parts) (said_mark w d mark b))
      (then_quiet (run w parts) (said_mark w d mark b) (mark_quiet w d mark b quiet)
      (λ b quiet. run_quiet w parts b quiet))
      (λ b quiet. mark_quiet w d mark b quiet)

  span_walked : (style : Style) (kids rest : Inlines) → IsWalked kids → IsWalked rest → IsWalked (span style kids rest)
  span_walked style kids rest in_kids then_rest p ts d b quiet =
      let w : Measure = ms p in
      let e : Tag = within d in
      let mark : List ℕ = mark_of article style in
      let inside : Values = marked mark (values_of_inlines article kids) in
      let others : Values = values_of_inlines article rest in
      let parts : List Part = parts_of article e ts kids in
      let targets : List (List ℕ) = targets_in article kids in
      let trailing : List (List ℕ) = ts ++ targets in
      let following : List Part = parts_of article d trailing rest in
      let begun : Option (Laid Tag) = say w e [] b in
      let begun_quiet : IsQuiet begun = say_quiet w e [] b quiet in
      let filled : Option (Laid Tag) = option_and_then (marked_run w e mark parts) begun in
      let filled_quiet : IsQuiet filled =
      then_quiet (marked_run w e mark parts) begun begun_quiet (λ b quiet. marked_quiet w e mark parts b quiet) in
      let ended : Option (Laid Tag) = option_and_then (say w e []) filled in
      let ended_quiet : IsQuiet ended = then_quiet (say w e []) filled filled_quiet
      (λ b quiet. say_quiet w e [] b quiet) in
      styled_walked style inside others p ts d b
      ∙ ap (λ x. option_and_then (walk others) (option_and_then (laying_of.says plain_marking (ends_mark
      (end_of style)))
      (option_and_then (walk inside) x))) (span_begun style p ts d b quiet)
      ∙ ap (λ x. option_and_then (walk others) (option_and_then (laying_of.says plain_marking (ends_mark
      (end_of style))) x))
      (next (walk inside) (marked_run w e mark parts) (at p ts e) (at p trailing e) begun begun_quiet
      (λ b quiet. marked_walked mark kids in_kids p ts e b quiet))
      ∙ ap (option_and_then (walk others))
      (next (laying_of.says plain_marking (ends_mark (end_of style))) (say w e []) (at p trailing e) (at p trailing d)
      filled filled_quiet (λ b quiet. span_ended style p trailing d b quiet))
      ∙ next (walk others) (run w following) (at p trailing d) (at p
      (trailing ++ targets_in article rest) d) ended ended_quiet
      (λ b quiet. then_rest p trailing d b quiet)
      ∙ ap (λ all. option_map (at p all d) (option_and_then (run w following) ended))
      (append_assoc ts targets (targets_in article rest))
      ∙ ap (option_map (at p (ts ++ (targets ++ targets_in article rest)) d)) (span_run w e mark parts following b)

  -- ---- links

  linked_walked : (target : List ℕ) (inside rest : Values) (p : Place) (ts : List (List ℕ)) (d : Tag) (b : Laid Tag) →
      walk (value (plain_head (infos.Link target)) inside rest) (at p ts d b)
      ≡ option_and_then (walk rest) (option_and_then (ends_link plain_marking)
      (option_and_then (walk inside) (begins_link plain_marking target (at p ts d b))))
  unfolding begins ends holds leading following style_begins
  linked_walked target inside rest p ts d b = ap (option_and_then (walk rest)) (around_it (walk inside) _ _)

  -- the bracket after a link, and its number
  abbrev closed : Measure → Tag → List ℕ → Laid Tag → Option (Laid Tag)
  closed w d mark b = option_and_then (say w d mark) (say w (within d) (codes "]") b)

  closed_quiet : (w : Measure) (d : Tag) (mark : List ℕ) (b : Laid Tag) → b.awaits ≡ false → IsQuiet (closed w d mark b)
  closed_quiet w d mark b quiet = then_quiet (say w d mark) (say w (within d) (codes "]") b)
      (say_quiet w (within d) (codes "]") b quiet) (λ b quiet. say_quiet w d mark b quiet)

  link_run : (w : Measure) (d : Tag) (mark : List ℕ) (inside rest : List Part) (b : Laid Tag) →
      option_and_then (run w rest) (option_and_then (closed w d mark)
      (option_and_then (run w inside) (say w (within d) (codes "[") b)))
      ≡ run w (says (codes "[") (within d) ∷ (inside ++ says (codes "]") (within d) ∷ says mark d ∷ rest)) b
  link_run w d mark inside rest b =
      by_text (say w (within d) (codes "[") b)
    where
      by_close : (x : Option (Laid Tag)) → option_and_then (run w rest) (option_and_then (say w d mark) x)
          ≡ option_and_then (run w (says mark d ∷ rest)) x
      by_close None = refl
      by_close (Some b) = refl

      by_inside : (x : Option (Laid Tag)) → option_and_then (run w rest) (option_and_then (closed w d mark) x)
          ≡ option_and_then (run w (says (codes "]") (within d) ∷ says mark d ∷ rest)) x
      by_inside None = refl
      by_inside (Some b) = by_close (say w (within d) (codes "]") b)

      by_text : (x : Option (Laid Tag)) → option_and_then (run w rest) (option_and_then (closed w d mark)
          (option_and_then (run w inside) x))
          ≡ option_and_then (run w (inside ++ says (codes "]") (within d) ∷ says mark d ∷ rest)) x
      by_text None = refl
      by_text (Some b) = by_inside (run w inside b)
          ∙ sym (run_both w inside (says (codes "]") (within d) ∷ says mark d ∷ rest) b)

  shown_walked : (target : List ℕ) (kids rest : Inlines) → IsWalked kids → IsWalked rest → (p : Place)
      (ts : List (List ℕ)) (d : Tag) (b : Laid Tag) → b.awaits ≡ false →
      walk (value (plain_head (infos.Link target)) (values_of_inlines article kids) (values_of_inlines article rest))
      (at p ts d b)
      ≡ option_map (at p (ts ++ target ∷ (targets_in article kids ++ targets_in article rest)) d)
      (run (ms p) (says (codes "[") (within d) ∷ (parts_of article (within d) (ts ++ target ∷ []) kids
      ++ says (codes "]") (within d) ∷ says (number_mark article ((ts ++ target ∷ []) ++ targets_in article kids)) d
      ∷ parts_of article d ((ts ++ target ∷ []) ++ targets_in article kids) rest)) b)
  shown_walked target kids rest in_kids then_rest p ts d b quiet =
      let w : Measure = ms p in
      let e : Tag = within d in
      let inside : Values = values_of_inlines article kids in
      let others : Values = values_of_inlines article rest in
      let here : List (List ℕ) = ts ++ target ∷ [] in
      let parts : List Part = parts_of article e here kids in
      let targets : List (List ℕ) = targets_in article kids in
      let more : List (List ℕ) = targets_in article rest in
      let trailing : List (List ℕ) = here ++ targets in
      let following : List Part = parts_of article d trailing rest in
      let begun : Option (Laid Tag) = say w e (codes "[") b in
      let begun_quiet : IsQuiet begun = say_quiet w e (codes "[") b quiet in
      let filled : Option (Laid Tag) = option_and_then (run w parts) begun in
      let filled_quiet : IsQuiet filled =
      then_quiet (run w parts) begun begun_quiet (λ b quiet. run_quiet w parts b quiet) in
      let mark : List ℕ = number_mark article trailing in
      let ended : Option (Laid Tag) = option_and_then (closed w d mark) filled in
      let ended_quiet : IsQuiet ended =
      then_quiet (closed w d mark) filled filled_quiet (λ b quiet. closed_quiet w d mark b quiet) in
      linked_walked target inside others p ts d b
      ∙ ap (λ x. option_and_then (walk others) (option_and_then (ends_link plain_marking) (option_and_then
      (walk inside) x)))
      (link_begun given decorates min_wrap held target p ts d b quiet)
      ∙ ap (λ x. option_and_then (walk others) (option_and_then (ends_link plain_marking) x))
      (next (walk inside) (run w parts) (at p here e) (at p trailing e) begun begun_quiet
      (λ b quiet. in_kids p here e b quiet))
      ∙ ap (option_and_then (walk others))
      (next (ends_link plain_marking) (closed w d mark) (at p trailing e) (at p trailing d) filled filled_quiet
      (λ b quiet. link_ended given decorates min_wrap held p trailing d b quiet))
      ∙ next (walk others) (run w following) (at p trailing d) (at p (trailing ++ more) d) ended ended_quiet
      (λ b quiet. then_rest p trailing d b quiet)
      ∙ ap (λ all. option_map (at p all d) (option_and_then (run w following) ended))
      (append_assoc here targets more ∙ append_assoc ts (target ∷ []) (targets ++ more))
      ∙ ap (option_map (at p (ts ++ target ∷ (targets ++ more)) d)) (link_run w d mark parts following b)

  link_by : (shallow : Bool) (target : List ℕ) (kids rest : Inlines) → IsWalked kids → IsWalked rest → (p : Place)
      (ts : List (List ℕ)) (d : Tag) (b : Laid Tag) → b.awaits ≡ false →
      walk (link_before shallow target (values_of_inlines article kids) (values_of_inlines article rest)) (at p ts d b)
      ≡ option_map (at p (ts ++ (unless_shallow shallow
      (target ∷ targets_in article kids) ++ targets_in article rest)) d)
      (run (ms p) (unless_shallow shallow (says (codes "[") (within d)
      ∷ (parts_of article (within d) (ts ++ target ∷ []) kids ++ says (codes "]") (within d)
      ∷ says (number_mark article (ts ++ target ∷ targets_in article kids)) d ∷ []))
      ++ parts_of article d (if shallow then ts else ts ++ target ∷ targets_in article kids) rest) b)
  link_by true target kids rest in_kids then_rest p ts d b quiet = then_rest p ts d b quiet
  link_by false target kids rest in_kids then_rest p ts d b quiet =
      let inside : List Part = parts_of article (within d) (ts ++ target ∷ []) kids in
      let end : List (List ℕ) → List Part = λ trailing. says (codes "]") (within d)
      ∷ says (number_mark article trailing) d ∷ [] in
      let walked : List Part → Option Layings =
      λ parts. option_map (at p (ts ++ target ∷ (targets_in article kids ++ targets_in article rest)) d)
      (run (ms p) (says (codes "[") (within d) ∷ parts) b) in
      shown_walked target kids rest in_kids then_rest p ts d b quiet
      ∙ ap (λ trailing. walked (inside ++ (end trailing ++ parts_of article d trailing rest)))
      (append_assoc ts (target ∷ []) (targets_in article kids))
      ∙ ap walked (sym (append_assoc inside (end (ts ++ target ∷ targets_in article kids))
      (parts_of article d (ts ++ target ∷ targets_in article kids) rest)))

  pub are_walked : (is : Inlines) → AreFilled is → IsWalked is
  are_walked no_inlines filled p ts d b quiet =
      ap (λ all. let some : Option Layings = Some (at p all d b) in some) (sym (append-nil ts))
  are_walked (words [] rest) filled p ts d b quiet = absurd filled
  are_walked (words (c ∷ cs) rest) filled p ts d b quiet =
      words_walked c cs rest (are_walked rest filled) p ts d b quiet
  are_walked (line_break rest) filled p ts d b quiet =
      broken_walked rest (are_walked rest filled) p ts d b quiet
  are_walked (span style kids rest) filled p ts d b quiet =
      span_walked style kids rest (are_walked kids filled.0) (are_walked rest filled.1) p ts d b quiet
  are_walked (link target kids rest) filled p ts d b quiet =
      link_by (all_shallow article kids) target kids rest (are_walked kids filled.0) (are_walked rest filled.1)
      p ts d b quiet
