-- A source line without the white space at its end, from its pieces and their characters.
use Rattle.std.proofs.Common.{◌≡◌, ◌≤◌, ◌+◌, ◌||◌, ◌==◌, [], ◌∷◌, ◌++◌, ◌∙◌, Bool, IsUtf8, List, add-one, ap}
use Rattle.std.proofs.Common.{append_assoc, arith, chars, drop, encode_utf8, false, length, not, refl, subst, sym, take}
use Rattle.std.proofs.Common.{true, ℕ}
use Rattle.std.specs.Prelude.{if◌then◌else◌}
use Rattle.std.specs.Char.{IsScalar}
use Rattle.std.proofs.lemmas.Bool.Decides.{nat_tests}
use Rattle.std.proofs.lemmas.List.{append-nil, take_all, take_at, take-take, drop_at, length-append}
use Rattle.std.proofs.lemmas.Str.{chars-nil, chars-append, chars_past_char, IsCharBoundary-from_take, IsUtf8-encode}
use Rattle.text_pieces.specs.Sources.{Source, letter, fragment, sourced, piece_sources, sources_of, is_filled}
use Rattle.text_preserved.specs.Preserved.{kind_of, is_solid, has_solid, trimmed}
use Rattle.text_preserved.specs.Trimming.{has_solid_text, solid_text, trimmed_each, StayWhole, IsFrontOf}
use Rattle.text_pieces.specs.declared.piece.Piece.{Piece}

-- ---- characters

pub chars-encode : (c : ℕ) → IsScalar c → chars (encode_utf8 c) ≡ c ∷ []
chars-encode c scalar = chars_past_char (encode_utf8 c) [] c (IsUtf8-encode c scalar) (sym (append-nil (encode_utf8 c)))
    ∙ ap (λ l. c ∷ l) chars-nil

pub chars_last : (rest before : List ℕ) (c : ℕ) → rest ≡ before ++ encode_utf8 c → IsUtf8 before → IsScalar c
    → chars rest ≡ chars before ++ c ∷ []
chars_last rest before c split utf8 scalar =
    ap chars split ∙ chars-append before (encode_utf8 c) utf8 ∙ ap (λ l. chars before ++ l) (chars-encode c scalar)

-- ---- a text

has_solid-last : (width : ℕ) (wraps : Bool) (cs : List ℕ) (c : ℕ)
    → has_solid_text width wraps (cs ++ c ∷ []) ≡ (has_solid_text width wraps cs || is_solid (kind_of width wraps c))
has_solid-last width wraps [] c = by_test (is_solid (kind_of width wraps c))
  where
    by_test : (b : Bool) → (b || false) ≡ b
    by_test true = refl
    by_test false = refl
has_solid-last width wraps (d ∷ cs) c =
    ap (λ b. is_solid (kind_of width wraps d) || b) (has_solid-last width wraps cs c)
    ∙ by_test (is_solid (kind_of width wraps d))
  where
    by_test : (b : Bool) → (b || (has_solid_text width wraps cs || is_solid (kind_of width wraps c)))
        ≡ ((b || has_solid_text width wraps cs) || is_solid (kind_of width wraps c))
    by_test true = refl
    by_test false = refl

or_true : (b : Bool) → (b || true) ≡ true
or_true true = refl
or_true false = refl

or_false : (b : Bool) → (b || false) ≡ b
or_false true = refl
or_false false = refl

pub solid_has : (width : ℕ) (wraps : Bool) (cs : List ℕ) (c : ℕ) → is_solid (kind_of width wraps c) ≡ true
    → has_solid_text width wraps (cs ++ c ∷ []) ≡ true
solid_has width wraps cs c solid =
    has_solid-last width wraps cs c ∙ ap (λ b. has_solid_text width wraps cs || b) solid
    ∙ or_true (has_solid_text width wraps cs)

pub bare_has : (width : ℕ) (wraps : Bool) (cs : List ℕ) (c : ℕ) → is_solid (kind_of width wraps c) ≡ false
    → has_solid_text width wraps (cs ++ c ∷ []) ≡ has_solid_text width wraps cs
bare_has width wraps cs c bare =
    has_solid-last width wraps cs c ∙ ap (λ b. has_solid_text width wraps cs || b) bare
    ∙ or_false (has_solid_text width wraps cs)

pub solid_stays : (width : ℕ) (wraps : Bool) (cs : List ℕ) (c : ℕ) → is_solid (kind_of width wraps c) ≡ true
    → solid_text width wraps (cs ++ c ∷ []) ≡ cs ++ c ∷ []
solid_stays width wraps [] c solid = ap (λ b. if b || false then c ∷ [] else []) solid
solid_stays width wraps (d ∷ cs) c solid =
    ap (λ b. if is_solid (kind_of width wraps d) || b then d ∷ solid_text width wraps (cs ++ c ∷ [])
    else solid_text width wraps (cs ++ c ∷ [])) (solid_has width wraps cs c solid)
    ∙ ap (λ b. if b then d ∷ solid_text width wraps (cs ++ c ∷ []) else solid_text width wraps (cs ++ c ∷ []))
    (or_true (is_solid (kind_of width wraps d)))
    ∙ ap (λ l. d ∷ l) (solid_stays width wraps cs c solid)

pub bare_goes : (width : ℕ) (wraps : Bool) (cs : List ℕ) (c : ℕ) → is_solid (kind_of width wraps c) ≡ false
    → solid_text width wraps (cs ++ c ∷ []) ≡ solid_text width wraps cs
bare_goes width wraps [] c bare = ap (λ b. if b || false then c ∷ [] else []) bare
bare_goes width wraps (d ∷ cs) c bare =
    ap (λ b. if is_solid (kind_of width wraps d) || b then d ∷ solid_text width wraps (cs ++ c ∷ [])
    else solid_text width wraps (cs ++ c ∷ [])) (bare_has width wraps cs c bare)
    ∙ ap (λ l. if is_solid (kind_of width wraps d) || has_solid_text width wraps cs then d ∷ l else l)
    (bare_goes width wraps cs c bare)

pub solid_filled : (width : ℕ) (wraps : Bool) (cs : List ℕ)
    → is_filled (solid_text width wraps cs) ≡ has_solid_text width wraps cs
solid_filled width wraps [] = refl
solid_filled width wraps (c ∷ cs) =
    by_test (is_solid (kind_of width wraps c)) (has_solid_text width wraps cs) (solid_text width wraps cs)
    (solid_filled width wraps cs)
  where
    by_test : (a b : Bool) (rest : List ℕ) → is_filled rest ≡ b
        → is_filled (if a || b then c ∷ rest else rest) ≡ (a || b)
    by_test true b rest e = refl
    by_test false true rest e = refl
    by_test false false rest e = e

pub filled_last : (before : List ℕ) (c : ℕ) → IsScalar c → is_filled (before ++ encode_utf8 c) ≡ true
filled_last before c scalar = filled_after before (encode_utf8 c) (filled_char (encode_utf8 c) refl)
  where
    filled_after : (xs ys : List ℕ) → is_filled ys ≡ true → is_filled (xs ++ ys) ≡ true
    filled_after [] ys h = h
    filled_after (x ∷ xs) ys h = refl

    filled_char : (bytes : List ℕ) → encode_utf8 c ≡ bytes → is_filled bytes ≡ true
    filled_char [] e = cc (sym (chars-encode c scalar) ∙ ap chars e ∙ chars-nil)
    filled_char (b ∷ bs) e = refl

-- ---- fronts

pub whole_front : (text : List ℕ) → IsFrontOf text text
whole_front text = record {
  is = take_all (length text) text (omega arith);
  edge = (omega arith, λ _ inside. absurd (omega (arith, inside)));
}

-- without its last character a front is one too
pub front_before : (text rest before : List ℕ) (c : ℕ) → IsUtf8 text → IsFrontOf text rest
    → rest ≡ before ++ encode_utf8 c → IsUtf8 before → IsFrontOf text before
front_before text rest before c utf8 f split ok =
    let size : length rest ≡ length before + length (encode_utf8 c) =
    ap length split ∙ length-append before (encode_utf8 c) in
    let is : take (length before) text ≡ before =
    sym (take-take (length before) (length rest) text (omega (arith, size)))
    ∙ ap (take (length before)) (f.is ∙ split) ∙ take_at before (encode_utf8 c) (length before) refl in
    let edge =
    IsCharBoundary-from_take text (length before) utf8 (omega (arith, size, f.edge.0)) (subst IsUtf8 (sym is) ok) in
    record { is = is; edge = (edge.0, λ _. edge.1) }

-- ---- sources

pub sourced_solid : {S : Type 0} (width : ℕ) (wraps : Bool) (cs : List ℕ) (main further : S)
    → has_solid width wraps (sourced cs main further) ≡ has_solid_text width wraps cs
sourced_solid width wraps [] main further = refl
sourced_solid width wraps (c ∷ cs) main further =
    ap (λ b. is_solid (kind_of width wraps c) || b) (sourced_solid width wraps cs main further)

pub sourced_trimmed : {S : Type 0} (width : ℕ) (wraps : Bool) (cs : List ℕ) (main further : S)
    → trimmed width wraps (sourced cs main further) ≡ sourced (solid_text width wraps cs) main further
sourced_trimmed width wraps [] main further = refl
sourced_trimmed width wraps (c ∷ cs) main further =
    ap (λ b. if is_solid (kind_of width wraps c) || b
    then letter c main further ∷ trimmed width wraps (sourced cs main further)
    else trimmed width wraps (sourced cs main further)) (sourced_solid width wraps cs main further)
    ∙ ap (λ l. if is_solid (kind_of width wraps c) || has_solid_text width wraps cs then letter c main further ∷ l
    else l)
    (sourced_trimmed width wraps cs main further)
    ∙ by_test (is_solid (kind_of width wraps c) || has_solid_text width wraps cs)
  where
    by_test : (b : Bool) → (if b then letter c main further ∷ sourced (solid_text width wraps cs) main further
        else sourced (solid_text width wraps cs) main further)
        ≡ sourced (if b then c ∷ solid_text width wraps cs else solid_text width wraps cs) main further
    by_test true = refl
    by_test false = refl

pub has_solid-append : {S : Type 0} (width : ℕ) (wraps : Bool) (xs ys : List (Source S))
    → has_solid width wraps (xs ++ ys) ≡ (has_solid width wraps xs || has_solid width wraps ys)
has_solid-append width wraps [] ys = refl
has_solid-append width wraps (letter c main further ∷ xs) ys =
    ap (λ b. is_solid (kind_of width wraps c) || b) (has_solid-append width wraps xs ys)
    ∙ by_test (is_solid (kind_of width wraps c))
  where
    by_test : (b : Bool) → (b || (has_solid width wraps xs || has_solid width wraps ys))
        ≡ ((b || has_solid width wraps xs) || has_solid width wraps ys)
    by_test true = refl
    by_test false = refl
has_solid-append width wraps (fragment name ∷ xs) ys = has_solid-append width wraps xs ys

-- what stands before something that is shown stays whole
pub stays_before : {S : Type 0} (width : ℕ) (wraps : Bool) (xs ys : List (Source S)) → has_solid width wraps ys ≡ true
    → trimmed width wraps (xs ++ ys) ≡ xs ++ trimmed width wraps ys
stays_before width wraps [] ys solid = refl
stays_before width wraps (letter c main further ∷ xs) ys solid =
    ap (λ b. if is_solid (kind_of width wraps c) || b then letter c main further ∷ trimmed width wraps (xs ++ ys)
    else trimmed width wraps (xs ++ ys)) (has_solid-append width wraps xs ys
    ∙ ap (λ b. has_solid width wraps xs || b) solid ∙ or_true (has_solid width wraps xs))
    ∙ ap (λ b. if b then letter c main further ∷ trimmed width wraps (xs ++ ys) else trimmed width wraps (xs ++ ys))
    (or_true (is_solid (kind_of width wraps c)))
    ∙ ap (λ l. letter c main further ∷ l) (stays_before width wraps xs ys solid)
stays_before width wraps (fragment name ∷ xs) ys solid =
    ap (λ l. fragment name ∷ l) (stays_before width wraps xs ys solid)

-- what stands before nothing that is shown is trimmed by itself
pub goes_before : {S : Type 0} (width : ℕ) (wraps : Bool) (xs ys : List (Source S)) → has_solid width wraps ys ≡ false
    → trimmed width wraps (xs ++ ys) ≡ trimmed width wraps xs ++ trimmed width wraps ys
goes_before width wraps [] ys bare = refl
goes_before width wraps (letter c main further ∷ xs) ys bare =
    ap (λ b. if is_solid (kind_of width wraps c) || b then letter c main further ∷ trimmed width wraps (xs ++ ys)
    else trimmed width wraps (xs ++ ys)) (has_solid-append width wraps xs ys
    ∙ ap (λ b. has_solid width wraps xs || b) bare ∙ or_false (has_solid width wraps xs))
    ∙ ap (λ l. if is_solid (kind_of width wraps c) || has_solid width wraps xs then letter c main further ∷ l else l)
    (goes_before width wraps xs ys bare)
    ∙ by_test (is_solid (kind_of width wraps c) || has_solid width wraps xs)
  where
    by_test : (b : Bool) → (if b then letter c main further ∷ (trimmed width wraps xs ++ trimmed width wraps ys)
        else trimmed width wraps xs ++ trimmed width wraps ys)
        ≡ (if b then letter c main further ∷ trimmed width wraps xs
        else trimmed width wraps xs) ++ trimmed width wraps ys
    by_test true = refl
    by_test false = refl
goes_before width wraps (fragment name ∷ xs) ys bare =
    ap (λ l. fragment name ∷ l) (goes_before width wraps xs ys bare)

-- ---- pieces

pub sources-append : {T S : Type 0} (seen : T → S) (xs ys : List (Piece T))
    → sources_of seen (xs ++ ys) ≡ sources_of seen xs ++ sources_of seen ys
sources-append seen [] ys = refl
sources-append seen (x ∷ xs) ys =
    ap (λ l. piece_sources seen x ++ l) (sources-append seen xs ys)
    ∙ sym (append_assoc (piece_sources seen x) (sources_of seen xs) (sources_of seen ys))

or_both : (a b : Bool) → (a || b) ≡ false → (a ≡ false) × (b ≡ false)
or_both true b h = cc
or_both false b h = (refl, h)

bare_each : {T S : Type 0} (seen : T → S) (width : ℕ) (wraps : Bool) (pieces : List (Piece T))
    → has_solid width wraps (sources_of seen pieces) ≡ false
    → trimmed width wraps (sources_of seen pieces) ≡ trimmed_each seen width wraps pieces
bare_each seen width wraps [] bare = refl
bare_each seen width wraps (piece ∷ pieces) bare =
    let none =
    or_both (has_solid width wraps (piece_sources seen piece)) (has_solid width wraps (sources_of seen pieces))
    (sym (has_solid-append width wraps (piece_sources seen piece) (sources_of seen pieces)) ∙ bare) in
    goes_before width wraps (piece_sources seen piece) (sources_of seen pieces) none.1
    ∙ ap (λ l. trimmed width wraps (piece_sources seen piece) ++ l) (bare_each seen width wraps pieces none.1)

-- After these pieces nothing is shown.
pub record IsBareAfter {T S : Type 0} (seen : T → S) (width : ℕ) (wraps : Bool)
    (all rest : List (Piece T)) : Type 0 where
  pub trailing : List (Piece T)
  pub whole : all ≡ rest ++ trailing
  pub bare : has_solid width wraps (sources_of seen trailing) ≡ false

pub bare_at_end : {T S : Type 0} (seen : T → S) (width : ℕ) (wraps : Bool) (all : List (Piece T))
    → IsBareAfter seen width wraps all all
bare_at_end seen width wraps all = record { trailing = []; whole = sym (append-nil all); bare = refl }

pub bare_more : {T S : Type 0} (seen : T → S) (width : ℕ) (wraps : Bool) (all rest front : List (Piece T))
    (last : Piece T)
    → IsBareAfter seen width wraps all rest → rest ≡ front ++ last ∷ []
    → has_solid width wraps (piece_sources seen last) ≡ false → IsBareAfter seen width wraps all front
bare_more seen width wraps all rest front last r split none = record {
  trailing = last ∷ r.trailing;
  whole = r.whole ∙ ap (λ l. l ++ r.trailing) split ∙ append_assoc front (last ∷ []) r.trailing;
  bare = has_solid-append width wraps (piece_sources seen last) (sources_of seen r.trailing)
      ∙ ap (λ b. b || has_solid width wraps (sources_of seen r.trailing)) none ∙ r.bare;
}

pub whole_before : {T S : Type 0} (seen : T → S) (width : ℕ) (wraps : Bool) (all rest front : List (Piece T))
    (last : Piece T) → IsBareAfter seen width wraps all rest → rest ≡ front ++ last ∷ []
    → has_solid width wraps (piece_sources seen last) ≡ true → StayWhole seen width wraps all (length front)
whole_before seen width wraps all rest front last r split some =
    let back = last ∷ r.trailing in
    let whole : all ≡ front ++ back =
    r.whole ∙ ap (λ l. l ++ r.trailing) split ∙ append_assoc front (last ∷ []) r.trailing in
    let solid : has_solid width wraps (sources_of seen back) ≡ true =
    has_solid-append width wraps (piece_sources seen last) (sources_of seen r.trailing)
    ∙ ap (λ b. b || has_solid width wraps (sources_of seen r.trailing)) some in
    record {
      within = subst (λ l. length front ≤ length l) (sym whole) (omega (arith, length-append front back));
      trims = ap (trimmed width wraps) (ap (sources_of seen) whole ∙ sources-append seen front back)
          ∙ stays_before width wraps (sources_of seen front) (sources_of seen back) solid
          ∙ ap (λ l. sources_of seen front ++ l)
          (goes_before width wraps (piece_sources seen last) (sources_of seen r.trailing) r.bare
          ∙ ap (λ l. trimmed width wraps (piece_sources seen last) ++ l) (bare_each seen width wraps r.trailing r.bare))
          ∙ ap (λ l. sources_of seen l ++ trimmed_each seen width wraps back) (sym (ap (take (length front)) whole
          ∙ take_at front back (length front) refl))
          ∙ ap (λ l. sources_of seen (take (length front) all) ++ trimmed_each seen width wraps l)
          (sym (ap (drop (length front)) whole ∙ drop_at front back (length front) refl));
    }

pub none_before : {T S : Type 0} (seen : T → S) (width : ℕ) (wraps : Bool) (all rest : List (Piece T))
    → IsBareAfter seen width wraps all rest → rest ≡ [] → StayWhole seen width wraps all 0
none_before seen width wraps all rest r nothing =
    let whole : all ≡ r.trailing = r.whole ∙ ap (λ l. l ++ r.trailing) nothing in
    record {
      within = omega arith;
      trims = bare_each seen width wraps all (ap (λ l. has_solid width wraps (sources_of seen l)) whole ∙ r.bare);
    }

pub nil_length : {A : Type 0} (xs : List A) → length xs ≡ 0 → xs ≡ []
nil_length [] none = refl
nil_length (x ∷ xs) none = absurd (omega (arith, none))

some_zero : (n : ℕ) → ((n + 1) == 0) ≡ false
some_zero n = grind (arith, nat_tests)

not_zero : (n : ℕ) → not ((n + 1) == 0) ≡ true
not_zero n = ap not (some_zero n)

pub not_empty : (xs : List ℕ) → not (length xs == 0) ≡ is_filled xs
not_empty [] = refl
not_empty (x ∷ xs) = ap (λ n. not (n == 0)) (sym (add-one (length xs))) ∙ not_zero (length xs)
