-- A paragraph with a visible character has a line with content, and its links don't depend on the text.
use Rattle.std.proofs.Common.{◌≡◌, ◌==◌, ◌&&◌, ◌||◌, [], ◌∷◌, ◌++◌, if◌then◌else◌, ◌∙◌, Bool, List, None, Option, Some}
use Rattle.std.proofs.Common.{ap, codes, false, map, not, refl, subst, sym, true, ℕ}
use Rattle.std.proofs.lemmas.Bool.{eq-eqb}
use Rattle.std.proofs.lemmas.List.Elements.{filter-append}
use Rattle.std.proofs.lemmas.List.Folds.{list_any-append}
use Rattle.std.proofs.lemmas.Option.{none-some, same_Some}
use Rattle.std.specs.Char.{is_whitespace}
use Rattle.std.specs.List.{list_all, list_any}
use Rattle.text_normal.specs.Letters.{has_marker}
use Rattle.text_normal.specs.Riders.{normal_lines}
use Rattle.text_lines.specs.Tagged.{Item}
use Rattle.text_pieces.specs.Items.{has_text}
use Rattle.text_pieces.specs.Sources.{Source, is_filled, letter, fragment, sourced}
use Rattle.text_wrapping.specs.Blocks.{ends_in_columns}
use Rattle.article_definitions.specs.Showing.{has_visible, is_visible}
use Rattle.article_values.specs.Articles.{Inlines, Style, line_break, link, span, words}
use Rattle.article_definitions.specs.Exchanges.{DifferInline, HasVisible, IsParagraph, after_break, after_link}
use Rattle.article_definitions.specs.Exchanges.{after_span, after_text, in_link, in_span, is_number, others, this_text}
use Rattle.article_definitions.specs.Layouts.{Line, Options, Part, Stretch, Tag, all_fit, all_shallow, begun_by}
use Rattle.article_definitions.specs.Layouts.{break_lines, breaks, empty_line, has_content, has_none, if_fits, line_of}
use Rattle.article_definitions.specs.Layouts.{lines_of_stretches, mark_of, number_mark, outermost, paragraph_lines}
use Rattle.article_definitions.specs.Layouts.{parts_of, says, stretch_lines, stretches, targets_in, unless_shallow}
use Rattle.article_definitions.specs.Layouts.{within, wrap_at}

-- a text with a visible character stands somewhere
pub data HasShown : Inlines → Type 0 where
  here : (cs : List ℕ) (rest : Inlines) → HasVisible cs → HasShown (words cs rest)
  past_text : (cs : List ℕ) (a : Inlines) → HasShown a → HasShown (words cs a)
  past_break : (a : Inlines) → HasShown a → HasShown (line_break a)
  within_span : (style : Style) (a rest : Inlines) → HasShown a → HasShown (span style a rest)
  past_span : (style : Style) (kids a : Inlines) → HasShown a → HasShown (span style kids a)
  within_link : (target : List ℕ) (a rest : Inlines) → HasShown a → HasShown (link target a rest)
  past_link : (target : List ℕ) (kids a : Inlines) → HasShown a → HasShown (link target kids a)

pub left_shown : (a b : Inlines) → DifferInline a b → HasShown a
left_shown _ _ (this_text cs ds rest h k) = here cs rest h
left_shown _ _ (after_text cs a b d) = past_text cs a (left_shown a b d)
left_shown _ _ (after_break a b d) = past_break a (left_shown a b d)
left_shown _ _ (in_span style a b rest d) = within_span style a rest (left_shown a b d)
left_shown _ _ (after_span style kids a b d) = past_span style kids a (left_shown a b d)
left_shown _ _ (in_link target a b rest d) = within_link target a rest (left_shown a b d)
left_shown _ _ (after_link target kids a b d) = past_link target kids a (left_shown a b d)

pub right_shown : (a b : Inlines) → DifferInline a b → HasShown b
right_shown _ _ (this_text cs ds rest h k) = here ds rest k
right_shown _ _ (after_text cs a b d) = past_text cs b (right_shown a b d)
right_shown _ _ (after_break a b d) = past_break b (right_shown a b d)
right_shown _ _ (in_span style a b rest d) = within_span style b rest (right_shown a b d)
right_shown _ _ (after_span style kids a b d) = past_span style kids b (right_shown a b d)
right_shown _ _ (in_link target a b rest d) = within_link target b rest (right_shown a b d)
right_shown _ _ (after_link target kids a b d) = past_link target kids b (right_shown a b d)

-- ---- Bools

or_left : (a b : Bool) → a ≡ true → (a || b) ≡ true
or_left true b h = refl
or_left false b h = cc

or_right : (a b : Bool) → b ≡ true → (a || b) ≡ true
or_right true b h = refl
or_right false b h = h

and_left : (a b : Bool) → a ≡ false → (a && b) ≡ false
and_left true b h = cc
and_left false b h = refl

and_right : (a b : Bool) → b ≡ false → (a && b) ≡ false
and_right true b h = h
and_right false b h = refl

-- ---- texts

white_stops : (front back : List ℕ) (c : ℕ) → is_whitespace c ≡ false → list_all is_whitespace (front ++ c ∷ back)
    ≡ false
white_stops [] back c h = and_left (is_whitespace c) (list_all is_whitespace back) h
white_stops (d ∷ front) back c h =
    and_right (is_whitespace d) (list_all is_whitespace (front ++ c ∷ back)) (white_stops front back c h)

not_white : (cs : List ℕ) → HasVisible cs → list_all is_whitespace cs ≡ false
not_white cs h = ap (list_all is_whitespace) h.3 ∙ white_stops h.0 h.2 h.1 h.4.0

seen_there : (front back : List ℕ) (c : ℕ) (d : Tag) → is_visible c ≡ true →
    has_visible (sourced (front ++ c ∷ back) d d) ≡ true
seen_there [] back c d h = or_left (is_visible c) (has_visible (sourced back d d)) h
seen_there (e ∷ front) back c d h =
    or_right (is_visible e) (has_visible (sourced (front ++ c ∷ back) d d)) (seen_there front back c d h)

seen_text : (cs : List ℕ) (d : Tag) → HasVisible cs → has_visible (sourced cs d d) ≡ true
seen_text cs d h = ap (λ l. has_visible (sourced l d d)) h.3 ∙ seen_there h.0 h.2 h.1 d h.4.1

or_apart : (a b c : Bool) → (a || (b || c)) ≡ ((a || b) || c)
or_apart true b c = refl
or_apart false b c = refl

seen_both : (s t : List (Source Tag)) → has_visible (s ++ t) ≡ (has_visible s || has_visible t)
seen_both [] t = refl
seen_both (letter c a b ∷ s) t =
    ap (λ r. is_visible c || r) (seen_both s t) ∙ or_apart (is_visible c) (has_visible s) (has_visible t)
seen_both (fragment name ∷ s) t = seen_both s t

-- ---- inlines

module _ (o : Options) where
  not_none : (a : Inlines) → HasShown a → has_none a ≡ false
  not_none _ (here cs rest h) = refl
  not_none _ (past_text cs a h) = refl
  not_none _ (past_break a h) = refl
  not_none _ (within_span style a rest h) = refl
  not_none _ (past_span style kids a h) = refl
  not_none _ (within_link target a rest h) = refl
  not_none _ (past_link target kids a h) = refl

  pub not_shallow : (a : Inlines) → HasShown a → all_shallow o a ≡ false
  not_shallow _ (here cs rest h) = and_left (list_all is_whitespace cs) (all_shallow o rest) (not_white cs h)
  not_shallow _ (past_text cs a h) = and_right (list_all is_whitespace cs) (all_shallow o a) (not_shallow a h)
  not_shallow _ (past_break a h) = not_shallow a h
  not_shallow _ (within_span style a rest h) =
      and_left (has_none a && not (is_filled (mark_of o style))) (all_shallow o rest)
      (and_left (has_none a) (not (is_filled (mark_of o style))) (not_none a h))
  not_shallow _ (past_span style kids a h) =
      and_right (has_none kids && not (is_filled (mark_of o style))) (all_shallow o a) (not_shallow a h)
  not_shallow _ (within_link target a rest h) = and_left (has_none a) (all_shallow o rest) (not_none a h)
  not_shallow _ (past_link target kids a h) = and_right (has_none kids) (all_shallow o a) (not_shallow a h)

  -- the links are the same
  pub same_targets : (a b : Inlines) → DifferInline a b → targets_in o a ≡ targets_in o b
  same_targets _ _ (this_text cs ds rest h k) = refl
  same_targets _ _ (after_text cs a b d) = same_targets a b d
  same_targets _ _ (after_break a b d) = same_targets a b d
  same_targets _ _ (in_span style a b rest d) = ap (λ l. l ++ targets_in o rest) (same_targets a b d)
  same_targets _ _ (after_span style kids a b d) = ap (λ l. targets_in o kids ++ l) (same_targets a b d)
  same_targets _ _ (in_link target a b rest d) =
      ap (λ e. unless_shallow e (target ∷ targets_in o a) ++ targets_in o rest)
      (not_shallow a (left_shown a b d) ∙ sym (not_shallow b (right_shown a b d)))
      ∙ ap (λ l. unless_shallow (all_shallow o b) (target ∷ l) ++ targets_in o rest) (same_targets a b d)
  same_targets _ _ (after_link target kids a b d) =
      ap (λ l. unless_shallow (all_shallow o kids) (target ∷ targets_in o kids) ++ l) (same_targets a b d)

  -- ---- what a paragraph says

  abbrev pub part_shows : Part → Bool
  part_shows (says cs tag) = has_visible (sourced cs tag tag)
  part_shows (breaks tag) = false

  any_first : (ps qs : List Part) → list_any part_shows ps ≡ true → list_any part_shows (ps ++ qs) ≡ true
  any_first ps qs h = list_any-append part_shows ps qs ∙ or_left (list_any part_shows ps) (list_any part_shows qs) h

  any_later : (ps qs : List Part) → list_any part_shows qs ≡ true → list_any part_shows (ps ++ qs) ≡ true
  any_later ps qs h = list_any-append part_shows ps qs ∙ or_right (list_any part_shows ps) (list_any part_shows qs) h

  link_shown : (b : Bool) (p : Part) (ks qs more : List Part) → b ≡ false → list_any part_shows ks ≡ true →
      list_any part_shows (unless_shallow b (p ∷ (ks ++ qs)) ++ more) ≡ true
  link_shown true p ks qs more h k = cc
  link_shown false p ks qs more h k = any_first (p ∷ (ks ++ qs)) more
      (or_right (part_shows p) (list_any part_shows (ks ++ qs)) (any_first ks qs k))

  parts_shown : (d : Tag) (ts : List (List ℕ)) (a : Inlines) → HasShown a →
      list_any part_shows (parts_of o d ts a) ≡ true
  parts_shown d ts _ (here cs rest h) =
      or_left (has_visible (sourced cs d d)) (list_any part_shows (parts_of o d ts rest)) (seen_text cs d h)
  parts_shown d ts _ (past_text cs a h) =
      or_right (has_visible (sourced cs d d)) (list_any part_shows (parts_of o d ts a)) (parts_shown d ts a h)
  parts_shown d ts _ (past_break a h) = parts_shown d ts a h
  parts_shown d ts _ (within_span style a rest h) = let mark : Part = says (mark_of o style) (within d) in
      let more : List Part = mark ∷ parts_of o d (ts ++ targets_in o a) rest in
      or_right (part_shows mark) (list_any part_shows (parts_of o (within d) ts a ++ more))
      (any_first (parts_of o (within d) ts a) more (parts_shown (within d) ts a h))
  parts_shown d ts _ (past_span style kids a h) = let mark : Part = says (mark_of o style) (within d) in
      let more : List Part = parts_of o d (ts ++ targets_in o kids) a in
      or_right (part_shows mark) (list_any part_shows (parts_of o (within d) ts kids ++ mark ∷ more))
      (any_later (parts_of o (within d) ts kids) (mark ∷ more)
      (or_right (part_shows mark) (list_any part_shows more)
      (parts_shown d (ts ++ targets_in o kids) a h)))
  parts_shown d ts _ (within_link target a rest h) = let trailing = ts ++ target ∷ targets_in o a in
      link_shown (all_shallow o a) (says (codes "[") (within d)) (parts_of o (within d) (ts ++ target ∷ []) a)
      (says (codes "]") (within d) ∷ says (number_mark o trailing) d ∷ [])
      (parts_of o d (if all_shallow o a then ts else trailing) rest) (not_shallow a h)
      (parts_shown (within d) (ts ++ target ∷ []) a h)
  parts_shown d ts _ (past_link target kids a h) = let trailing = ts ++ target ∷ targets_in o kids in
      any_later (unless_shallow (all_shallow o kids) (says (codes "[") (within d)
      ∷ (parts_of o (within d) (ts ++ target ∷ []) kids
      ++ says (codes "]") (within d) ∷ says (number_mark o trailing) d ∷ [])))
      (parts_of o d (if all_shallow o kids then ts else trailing) a)
      (parts_shown d (if all_shallow o kids then ts else trailing) a h)

  break_shown : (b rest rest' : Bool) → (b || rest) ≡ true → (rest ≡ true → rest' ≡ true) → (b || rest') ≡ true
  break_shown true rest rest' h k = refl
  break_shown false rest rest' h k = k h

  abbrev pub stretch_shows : Stretch → Bool
  stretch_shows s = has_visible s.source

  stretch_shown : (begun : Option Tag) (so_far : List (Source Tag)) (parts : List Part) →
      (has_visible so_far || list_any part_shows parts) ≡ true →
      list_any stretch_shows (stretches begun so_far parts) ≡ true
  stretch_shown begun so_far [] h = h
  stretch_shown begun so_far (says cs tag ∷ parts) h = let s : List (Source Tag) = sourced cs tag tag in
      stretch_shown (begun_by begun tag) (so_far ++ s) parts
      (ap (λ b. b || list_any part_shows parts) (seen_both so_far s)
      ∙ sym (or_apart (has_visible so_far) (has_visible s) (list_any part_shows parts)) ∙ h)
  stretch_shown begun so_far (breaks tag ∷ parts) h = break_shown (has_visible so_far) (list_any part_shows parts)
      (list_any stretch_shows (stretches None [] parts)) h (stretch_shown None [] parts)

  -- no marker stands there
  abbrev AllPlain : List Stretch → Type 0
  AllPlain [] = Unit {0}
  AllPlain (s ∷ ss) = (has_marker s.source ≡ false) × AllPlain ss

  plain_both : (s t : List (Source Tag)) → has_marker s ≡ false → has_marker t ≡ false → has_marker (s ++ t) ≡ false
  plain_both [] t h e = e
  plain_both (letter c a b ∷ s) t h e = plain_both s t h e
  plain_both (fragment name ∷ s) t h e = cc

  plain_text : (cs : List ℕ) (tag : Tag) → has_marker (sourced cs tag tag) ≡ false
  plain_text [] tag = refl
  plain_text (c ∷ cs) tag = plain_text cs tag

  stretches_plain : (begun : Option Tag) (s : List (Source Tag)) (parts : List Part) → has_marker s ≡ false →
      AllPlain (stretches begun s parts)
  stretches_plain begun s [] h = (h, tt)
  stretches_plain begun s (says cs tag ∷ parts) h = stretches_plain (begun_by begun tag) (s ++ sourced cs tag tag) parts
      (plain_both s (sourced cs tag tag) h (plain_text cs tag))
  stretches_plain begun s (breaks tag ∷ parts) h = (h, stretches_plain None [] parts refl)

  -- ---- its lines

  module _ (width k : ℕ) where
    own_number : (k == k) ≡ true
    own_number = eq-eqb k k refl

    numbered_lines : (s : Stretch) (lines : List (List (Item Tag))) → others k (map (line_of o width k s) lines) ≡ []
    numbered_lines s [] = refl
    numbered_lines s (line ∷ lines) =
        ap (λ b. if not b then line_of o width k s line ∷ others k (map (line_of o width k s) lines)
        else others k (map (line_of o width k s) lines)) own_number
        ∙ numbered_lines s lines

    numbered_break : (tag : Tag) (b : Bool) → others k (if b then [] else empty_line o width tag (Some k) ∷ []) ≡ []
    numbered_break tag true = refl
    numbered_break tag false =
        ap (λ b. let lines : List Line = if not b then empty_line o width tag (Some k) ∷ [] else [] in lines) own_number

    none_of_both : (ls ms : List Line) → others k ls ≡ [] → others k ms ≡ [] → others k (ls ++ ms) ≡ []
    none_of_both ls ms h e =
        filter-append (λ l. not (is_number k l.number)) ls ms ∙ ap (λ l. l ++ others k ms) h ∙ e

    numbered : (ss : List Stretch) → others k (lines_of_stretches o width k ss) ≡ []
    numbered [] = refl
    numbered (s ∷ []) = numbered_lines s (stretch_lines o width s)
    numbered (s ∷ t ∷ more) =
        none_of_both (map (line_of o width k s) (stretch_lines o width s))
        (break_lines o width k s.close (stretch_lines o width s) ++ lines_of_stretches o width k (t ∷ more))
        (numbered_lines s (stretch_lines o width s))
        (none_of_both (break_lines o width k s.close (stretch_lines o width s))
        (lines_of_stretches o width k (t ∷ more))
        (numbered_break s.close (ends_in_columns (stretch_lines o width s))) (numbered (t ∷ more)))

    content_is : (s : Stretch) (lines : List (List (Item Tag))) →
        has_content (map (line_of o width k s) lines) ≡ list_any has_text lines
    content_is s [] = refl
    content_is s (line ∷ lines) = ap (λ b. has_text line || b) (content_is s lines)

    content_both : (ls ms : List Line) → has_content (ls ++ ms) ≡ (has_content ls || has_content ms)
    content_both ls ms = list_any-append (λ (l : Line). l.content) ls ms

    either_shown : (a : Bool) (b c d : Bool) → (a || b) ≡ true → (a ≡ true → c ≡ true) → (b ≡ true → d ≡ true) →
        (c || d) ≡ true
    either_shown true b c d h f g = or_left c d (f refl)
    either_shown false b c d h f g = or_right c d (g h)

    -- the lines of text that has a visible character have a character
    module _ (shows : (width : ℕ) (s : List (Source Tag)) → has_marker s ≡ false → has_visible s ≡ true →
        list_any has_text (normal_lines width s) ≡ true) where
      stretch_content : (s : Stretch) → has_marker s.source ≡ false → stretch_shows s ≡ true →
          has_content (map (line_of o width k s) (stretch_lines o width s)) ≡ true
      stretch_content s n h = content_is s (stretch_lines o width s) ∙ shows (wrap_at o width) s.source n h

      lines_shown : (ss : List Stretch) → AllPlain ss → list_any stretch_shows ss ≡ true →
          has_content (lines_of_stretches o width k ss) ≡ true
      lines_shown [] n h = h
      lines_shown (s ∷ []) n h = stretch_content s n.0 (last (stretch_shows s) h) where
        last : (b : Bool) → (b || false) ≡ true → b ≡ true
        last true h = refl
        last false h = h
      lines_shown (s ∷ t ∷ more) n h =
          let lines : List Line = map (line_of o width k s) (stretch_lines o width s) in
          let broken : List Line = break_lines o width k s.close (stretch_lines o width s) in
          let rest : List Line = lines_of_stretches o width k (t ∷ more) in
          content_both lines (broken ++ rest)
          ∙ either_shown (stretch_shows s) (list_any stretch_shows (t ∷ more)) (has_content lines)
          (has_content (broken ++ rest)) h (stretch_content s n.0)
          (λ e. content_both broken rest ∙ or_right (has_content broken) (has_content rest)
          (lines_shown (t ∷ more) n.1 e))

      fits_is : (b : Bool) (x y : List Line) → if_fits b x ≡ Some y → x ≡ y
      fits_is true x y e = same_Some x y e
      fits_is false x y e = absurd (none-some y e)

      pub paragraph_is : (ts : List (List ℕ)) (a : Inlines) (lines : List Line) → HasShown a →
          paragraph_lines o width k ts a ≡ Some lines → IsParagraph k lines
      paragraph_is ts a lines h e =
          let ss : List Stretch = stretches None [] (parts_of o outermost ts a) in
          subst (IsParagraph k) (fits_is (all_fit o width ss) (lines_of_stretches o width k ss) lines e)
          (record {
            all = numbered ss;
            shows = lines_shown ss (stretches_plain None [] (parts_of o outermost ts a) refl)
                (stretch_shown None [] (parts_of o outermost ts a) (parts_shown outermost ts a h));
          })
