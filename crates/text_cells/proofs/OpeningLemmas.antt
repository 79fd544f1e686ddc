-- Cells whose borders are taken out.
use Rattle.std.proofs.Common.{◌≡◌, ◌+◌, ◌-◌, [], ◌∷◌, ◌++◌, if◌then◌else◌, ◌∙◌, Bool, List, ap, append-nil}
use Rattle.std.proofs.Common.{append_assoc, arith, false, length, map, refl, replicate, suc, sym, true, zero, ℕ}
use Rattle.std.proofs.lemmas.List.{map_push}
use Rattle.text_lines.specs.Tagged.{Item}
use Rattle.text_borders.specs.Segments.{Segment, joins_above}
use Rattle.text_borders.specs.Borders.{Border, horizontal, stretched, columns_where, with_segments, lines_above}
use Rattle.text_borders.specs.Lines.{border}
use Rattle.text_borders.specs.Across.{CellLine, OpenCell, close_line, close_after, close_last}
use Rattle.text_cells.specs.OpenCells.{with_lines}

-- ---- a border that is stretched asks for the same joins

none_plain : (is : Segment → Bool) (at n : ℕ) → is horizontal ≡ false
    → columns_where is at (replicate n horizontal) ≡ []
none_plain is at zero none = refl
none_plain is at (suc n) none =
    ap (λ t. if t then at ∷ columns_where is (at + 1) (replicate n horizontal)
    else columns_where is (at + 1) (replicate n horizontal)) none ∙ none_plain is (at + 1) n none

pub where_stretched : (is : Segment → Bool) (at n : ℕ) (ss : List Segment) → is horizontal ≡ false
    → columns_where is at (ss ++ replicate n horizontal) ≡ columns_where is at ss
where_stretched is at n [] none = none_plain is at n none
where_stretched is at n (s ∷ ss) none = by_test (is s) (where_stretched is (at + 1) n ss none)
  where
    by_test : (t : Bool) → columns_where is (at + 1) (ss ++ replicate n horizontal) ≡ columns_where is (at + 1) ss
        → (if t then at ∷ columns_where is (at + 1) (ss ++ replicate n horizontal)
        else columns_where is (at + 1) (ss ++ replicate n horizontal))
        ≡ (if t then at ∷ columns_where is (at + 1) ss else columns_where is (at + 1) ss)
    by_test true same = ap (λ ks. at ∷ ks) same
    by_test false same = same

pub closed_with : {S : Type 0} (tag : S) (c : OpenCell S) (b new : Border S) (filler : List (Item S))
    → new ≡ with_segments (stretched c.width b.segments) b → filler ≡ lines_above tag new
    → (record c { filler = filler; asks_below = columns_where joins_above 0 new.segments })
    ≡ close_line tag (border b) c.lines c
closed_with tag c b new filler wide filled =
    ap (λ items. record c { filler = items; asks_below = columns_where joins_above 0 new.segments }) filled
    ∙ ap (λ x. record c { filler = lines_above tag x; asks_below = columns_where joins_above 0 x.segments }) wide
    ∙ ap (λ ks. record c {
      filler = lines_above tag (with_segments (stretched c.width b.segments) b);
      asks_below = ks;
    }) (where_stretched joins_above 0 (c.width - length b.segments) b.segments refl)

-- ---- the last line

closed_after : {S : Type 0} (tag : S) (before front : List (CellLine S)) (x l : CellLine S) (c : OpenCell S)
    → close_after tag before x (front ++ l ∷ []) c ≡ close_line tag l.line (before ++ x ∷ front) c
closed_after tag before [] x l c = refl
closed_after tag before (y ∷ front) x l c =
    closed_after tag (before ++ x ∷ []) front y l c
    ∙ ap (λ ls. close_line tag l.line ls c) (append_assoc before (x ∷ []) (y ∷ front))

closed_last : {S : Type 0} (tag : S) (front : List (CellLine S)) (l : CellLine S) (c : OpenCell S)
    → close_last tag (front ++ l ∷ []) c ≡ close_line tag l.line front c
closed_last tag [] l c = refl
closed_last tag (x ∷ front) l c = closed_after tag [] front x l c

pub last_taken : {S : Type 0} (tag : S) (front : List (CellLine S)) (l : CellLine S) (c : OpenCell S)
    → c.lines ≡ front ++ l ∷ []
    → close_line tag l.line front (with_lines (front ++ l ∷ []) c) ≡ close_last tag c.lines c
last_taken tag front l c is =
    sym (ap (λ ls. close_last tag ls (with_lines ls c)) is ∙ closed_last tag front l (with_lines (front ++ l ∷ []) c))

-- ---- one thing after another, each by what is seen of it

pub next_seen : {T X Y Z : Type 0} (f : T → Z) (s : Y → Z) (r : X → Y) (old new : List T) (t : T) (its rest : List X)
    (x : X) (all : List Z) → new ≡ old ++ t ∷ [] → its ≡ x ∷ rest → f t ≡ s (r x)
    → map f old ++ map s (map r its) ≡ all → map f new ++ map s (map r rest) ≡ all
next_seen {X = X} f s r old new t its rest x all pushed here is so_far =
    let later = map s (map r rest) in
    ap (λ l. l ++ later) (ap (map f) pushed ∙ map_push f old t)
    ∙ (append_assoc (map f old) (f t ∷ []) later
    ∙ (ap (λ y. map f old ++ y ∷ later) is
    ∙ (ap (λ (l : List X). map f old ++ map s (map r l)) (sym here) ∙ so_far)))

pub all_seen : {X Y Z : Type 0} (front : List Z) (s : Y → Z) (r : X → Y) (its : List X) (all : List Z)
    → length its ≡ 0 → front ++ map s (map r its) ≡ all → front ≡ all
all_seen front s r [] all none_left h = sym (append-nil front) ∙ h
all_seen front s r (x ∷ its) all none_left h = absurd (omega (arith, none_left))
