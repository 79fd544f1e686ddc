-- Laws of blocks.
use Rattle.std.proofs.Common.{◌≡◌, ◌+◌, ◌-◌, ◌≤◌, ◌&&◌, ◌==◌, [], ◌∷◌, ◌++◌, ◌∙◌, Bool, List, None, Some, ap, arith}
use Rattle.std.proofs.Common.{false, length, map, refl, replicate, sym, true, ℕ}
use Rattle.std.specs.Prelude.{Option, if◌then◌else◌}
use Rattle.std.specs.Option.{option_map, option_and_then}
use Rattle.std.proofs.lemmas.Bool.{false≢true}
use Rattle.std.proofs.lemmas.List.{length-append, length-map}
use Rattle.text_lines.specs.Tagged.{Item, line_columns}
use Rattle.text_preserved.specs.Preserved.{space}
use Rattle.text_pieces.specs.Modes.{is_preserved, is_same_mode}
use Rattle.text_pieces.specs.declared.white_space.WhiteSpace.{WhiteSpace}
use Rattle.text_pieces.specs.declared.white_space.WhiteSpace.TheVariants.{Normal, Pre, PreWrap}
use Rattle.text_preserved.proofs.ColumnLemmas.{line_columns-replicate}
use Rattle.text_pieces.proofs.ItemColumns.{line_columns-append}
use Rattle.text_wrapping.specs.Lines.{lines_in}
use Rattle.text_wrapping.specs.Blocks.{Block, added, ended, in_mode, is_too_narrow, line_ended, line_feed, lines_after}
use Rattle.text_wrapping.specs.Blocks.{lines_or_empty, padded, took, took_all, with_letter, with_mode}
use Rattle.text_wrapping.specs.LawWords.{line_ends}
use Rattle.text_wrapping.proofs.BlockLemmas.{took_all-append}

-- ---- the mode stays

same_modes : (a b : WhiteSpace) → is_same_mode a b ≡ true → b ≡ a
same_modes Normal Normal is = refl
same_modes Normal Pre is = absurd (false≢true is)
same_modes Normal PreWrap is = absurd (false≢true is)
same_modes Pre Normal is = absurd (false≢true is)
same_modes Pre Pre is = refl
same_modes Pre PreWrap is = absurd (false≢true is)
same_modes PreWrap Normal is = absurd (false≢true is)
same_modes PreWrap Pre is = absurd (false≢true is)
same_modes PreWrap PreWrap is = refl

is_itself : (a : WhiteSpace) → is_same_mode a a ≡ true
is_itself Normal = refl
is_itself Pre = refl
is_itself PreWrap = refl

pub some_same : {X : Type 0} (x y : X) → Some x ≡ Some y → x ≡ y
some_same x y h = cc

-- what comes of a test that refuses
mode_unless : {S : Type 0} (narrow : Bool) (mid new : Block S) (mode : WhiteSpace)
    → (if narrow then None else Some mid) ≡ Some new → mid.mode ≡ mode → new.mode ≡ mode
mode_unless true mid new mode is same = cc
mode_unless false mid new mode is same = ap (λ b. b.mode) (sym (some_same mid new is)) ∙ same

took_mode : {S : Type 0} (main further : S) (c : ℕ) (b new : Block S) → took main further c b ≡ Some new
    → new.mode ≡ b.mode
took_mode main further c b new is = by_end (is_preserved b.mode && (c == line_feed)) is
  where
    by_end : (t : Bool) → (if t then line_ended b else Some (with_letter main further c b)) ≡ Some new
        → new.mode ≡ b.mode
    by_end true e = mode_unless (is_too_narrow b)
        (lines_after b (lines_or_empty (lines_in b.mode b.width b.source))) new b.mode e refl
    by_end false e = ap (λ x. x.mode) (sym (some_same (with_letter main further c b) new e))

took_all_mode : {S : Type 0} (main further : S) (cs : List ℕ) (b new : Block S)
    → took_all main further cs b ≡ Some new → new.mode ≡ b.mode
took_all_mode main further [] b new is = ap (λ x. x.mode) (sym (some_same b new is))
took_all_mode {S = S} main further (c ∷ cs) b new is =
    by_first (λ mid h. took_all_mode main further cs mid new h) (took main further c b) refl is
  where
    by_first : ((mid : Block S) → took_all main further cs mid ≡ Some new → new.mode ≡ mid.mode)
        → (o : Option (Block S)) → took main further c b ≡ o
        → option_and_then (took_all main further cs) o ≡ Some new → new.mode ≡ b.mode
    by_first trailing None e h = cc
    by_first trailing (Some mid) e h = trailing mid h ∙ took_mode main further c b mid e

entered_mode : {S : Type 0} (mode : WhiteSpace) (b new : Block S) → in_mode mode b ≡ Some new → new.mode ≡ mode
entered_mode {S = S} mode b new is = by_same (is_same_mode mode b.mode) refl is
  where
    by_ended : (o : Option (Block S)) → option_map (with_mode mode) o ≡ Some new → new.mode ≡ mode
    by_ended None h = cc
    by_ended (Some e) h = ap (λ x. x.mode) (sym (some_same (with_mode mode e) new h))

    by_same : (t : Bool) → is_same_mode mode b.mode ≡ t
        → (if t then Some b else option_map (with_mode mode) (ended b)) ≡ Some new → new.mode ≡ mode
    by_same true e h = ap (λ x. x.mode) (sym (some_same b new h)) ∙ same_modes mode b.mode e
    by_same false e h = by_ended (ended b) h

in_its_mode : {S : Type 0} (mode : WhiteSpace) (b : Block S) → b.mode ≡ mode → in_mode mode b ≡ Some b
in_its_mode mode b same =
    ap (λ t. if t then Some b else option_map (with_mode mode) (ended b)) (ap (is_same_mode mode) same ∙ is_itself mode)

-- ---- cuts

and_then_some : {A : Type 0} (o : Option A) → o ≡ option_and_then (λ a. Some a) o
and_then_some None = refl
and_then_some (Some a) = refl

-- after what was taken, a text in the same mode is taken
goes_on : {S : Type 0} (mode : WhiteSpace) (main further : S) (back : List ℕ) (b : Block S) → b.mode ≡ mode
    → took_all main further back b ≡ added mode back main further b
goes_on mode main further [] b same = refl
goes_on mode main further (c ∷ back) b same =
    ap (option_and_then (took_all main further (c ∷ back))) (sym (in_its_mode mode b same))

pub cut_anywhere : {S : Type 0} (mode : WhiteSpace) (front back : List ℕ) (main further : S) (b : Block S)
    → added mode (front ++ back) main further b
    ≡ option_and_then (added mode back main further) (added mode front main further b)
cut_anywhere mode [] back main further b = refl
cut_anywhere {S = S} mode (c ∷ front) back main further b = by_entered (in_mode mode b) refl
  where
    by_taken : (o : Option (Block S)) → ((y : Block S) → o ≡ Some y → y.mode ≡ mode)
        → option_and_then (took_all main further back) o ≡ option_and_then (added mode back main further) o
    by_taken None same = refl
    by_taken (Some y) same = goes_on mode main further back y (same y refl)

    by_entered : (o : Option (Block S)) → in_mode mode b ≡ o
        → option_and_then (took_all main further (c ∷ (front ++ back))) o
        ≡ option_and_then (added mode back main further) (option_and_then (took_all main further (c ∷ front)) o)
    by_entered None e = refl
    by_entered (Some x) e = took_all-append main further (c ∷ front) back x
        ∙ by_taken (took_all main further (c ∷ front) x)
        (λ y taken. took_all_mode main further (c ∷ front) x y taken ∙ entered_mode mode b x e)

-- ---- line ends

no_fewer : {S : Type 0} (narrow : Bool) (b new : Block S) (lines : List (List (Item S)))
    → (if narrow then None else Some (lines_after b lines)) ≡ Some new
    → length b.lines + length lines ≤ length new.lines
no_fewer true b new lines is = cc
no_fewer false b new lines is =
    let same : length (b.lines ++ map (padded b.width b.padding) lines) ≡ length new.lines =
    ap (λ x. length x.lines) (some_same (lines_after b lines) new is) in
    omega (
      arith,
      same,
      length-append b.lines (map (padded b.width b.padding) lines),
      length-map lines (padded b.width b.padding),
    )

one_at_least : {A : Type 0} (lines : List (List A)) → 1 ≤ length (lines_or_empty lines)
one_at_least [] = omega arith
one_at_least (line ∷ lines) = omega arith

took_gives : {S : Type 0} (main further : S) (c : ℕ) (b new : Block S) → is_preserved b.mode ≡ true
    → took main further c b ≡ Some new → length b.lines + (if c == line_feed then 1 else 0) ≤ length new.lines
took_gives main further c b new preserved is =
    by_end (c == line_feed) (ap (λ p. if p && (c == line_feed) then line_ended b
    else Some (with_letter main further c b))
    (sym preserved) ∙ is)
  where
    by_end : (t : Bool) → (if t then line_ended b else Some (with_letter main further c b)) ≡ Some new
        → length b.lines + (if t then 1 else 0) ≤ length new.lines
    by_end true e =
        let more = no_fewer (is_too_narrow b) b new (lines_or_empty (lines_in b.mode b.width b.source)) e in
        omega (arith, more, one_at_least (lines_in b.mode b.width b.source))
    by_end false e =
        let same : length b.lines ≡ length new.lines =
        ap (λ x. length x.lines) (some_same (with_letter main further c b) new e) in
        omega (arith, same)

took_all_gives : {S : Type 0} (main further : S) (cs : List ℕ) (b new : Block S) → is_preserved b.mode ≡ true
    → took_all main further cs b ≡ Some new → length b.lines + line_ends cs ≤ length new.lines
took_all_gives main further [] b new preserved is =
    let same : length b.lines ≡ length new.lines = ap (λ x. length x.lines) (some_same b new is) in omega (arith, same)
took_all_gives {S = S} main further (c ∷ cs) b new preserved is =
    by_first (λ mid same h. took_all_gives main further cs mid new same h) (took main further c b) refl is
  where
    by_first : ((mid : Block S) → is_preserved mid.mode ≡ true → took_all main further cs mid ≡ Some new
        → length mid.lines + line_ends cs ≤ length new.lines)
        → (o : Option (Block S)) → took main further c b ≡ o
        → option_and_then (took_all main further cs) o ≡ Some new
        → length b.lines + ((if c == line_feed then 1 else 0) + line_ends cs) ≤ length new.lines
    by_first trailing None e h = cc
    by_first trailing (Some mid) e h =
        let here = took_gives main further c b mid preserved e in
        let rest = trailing mid (ap is_preserved (took_mode main further c b mid e) ∙ preserved) h in
        omega (arith, here, rest)

entered_keeps : {S : Type 0} (mode : WhiteSpace) (b new : Block S) → in_mode mode b ≡ Some new
    → length b.lines ≤ length new.lines
entered_keeps {S = S} mode b new is = by_same (is_same_mode mode b.mode) is
  where
    by_ended : (o : Option (Block S)) → ended b ≡ o → option_map (with_mode mode) o ≡ Some new
        → length b.lines ≤ length new.lines
    by_ended None e h = cc
    by_ended (Some x) e h =
        let more = no_fewer (is_too_narrow b) b x (lines_in b.mode b.width b.source) e in
        let same : length x.lines ≡ length new.lines = ap (λ y. length y.lines) (some_same (with_mode mode x) new h) in
        omega (arith, more, same)

    by_same : (t : Bool) → (if t then Some b else option_map (with_mode mode) (ended b)) ≡ Some new
        → length b.lines ≤ length new.lines
    by_same true h =
        let same : length b.lines ≡ length new.lines = ap (λ y. length y.lines) (some_same b new h) in
        omega (arith, same)
    by_same false h = by_ended (ended b) refl h

pub line_ends_give : {S : Type 0} (mode : WhiteSpace) (cs : List ℕ) (main further : S) (b new : Block S)
    → is_preserved mode ≡ true → added mode cs main further b ≡ Some new
    → length b.lines + line_ends cs ≤ length new.lines
line_ends_give mode [] main further b new preserved is =
    let same : length b.lines ≡ length new.lines = ap (λ x. length x.lines) (some_same b new is) in omega (arith, same)
line_ends_give {S = S} mode (c ∷ cs) main further b new preserved is = by_entered (in_mode mode b) refl is
  where
    by_entered : (o : Option (Block S)) → in_mode mode b ≡ o
        → option_and_then (took_all main further (c ∷ cs)) o ≡ Some new
        → length b.lines + line_ends (c ∷ cs) ≤ length new.lines
    by_entered None e h = cc
    by_entered (Some x) e h =
        let here = entered_keeps mode b x e in
        let rest =
        took_all_gives main further (c ∷ cs) x new (ap is_preserved (entered_mode mode b x e) ∙ preserved) h in
        omega (arith, here, rest)

-- ---- lines that are filled

pub filled_width : {S : Type 0} (width : ℕ) (tag : S) (line : List (Item S)) → line_columns line ≤ width
    → line_columns (padded width (Some tag) line) ≡ width
filled_width width tag line fits =
    let joined = line_columns-append line (replicate (width - line_columns line) (space tag)) in
    let spaces = line_columns-replicate (width - line_columns line) tag in
    omega (arith, fits, joined, spaces)
