-- Slices of a text that is read one character more.
use Rattle.std.proofs.Common.{◌≡◌, ◌≢◌, ◌+◌, ◌≤◌, [], ◌∷◌, ◌++◌, ◌∙◌, Bool, Bor, IsUtf8, List, MatchOption, None}
use Rattle.std.proofs.Common.{Option, Some, ap, append-nil, append_assoc, arith, chars, drop, encode_utf8}
use Rattle.std.proofs.Common.{encode_utf8_all, false, length, option_map, refl, subst, sym, take, true, ℕ}
use Rattle.std.proofs.lemmas.Bool.{false≢true, and_parts, and_from, eqb-true, eq-eqb, ne_eqb, false_from_ne_true}
use Rattle.std.proofs.lemmas.List.{drop_at, nil_from_length}
use Rattle.std.proofs.lemmas.Str.{IsCharBoundary-from_take, IsUtf8-drop, IsUtf8-nil, IsUtf8-past_char, chars-append}
use Rattle.std.proofs.lemmas.Str.{chars-nil, chars_past_char, encodes-append, encodes-chars}
use Rattle.std.specs.Char.{len_utf8, to_ascii_lowercase}
use Rattle.std.specs.Str.{IsCharBoundary}
use Rattle.std.specs.Str.Pattern.{FindsTextPrefix}
use Rattle.lex_base.proofs.TextFronts.{read_on}
use Rattle.token_grammar.specs.Slices.{Cut, after, begins, begins_word, cut, front_while, rest_while}

pub no_bytes : (bs : List ℕ) → length bs ≡ 0 → chars bs ≡ []
no_bytes bs none = ap chars (nil_from_length bs none) ∙ chars-nil

-- what is left after a front that is a text is one
left_text : (bs left : List ℕ) (n : ℕ) → IsUtf8 bs → n ≤ length bs → IsUtf8 (take n bs) → left ≡ drop n bs → IsUtf8 left
left_text bs left n u le read e = subst IsUtf8 (sym e) (IsUtf8-drop bs n u (IsCharBoundary-from_take bs n u le read))

-- ---- the longest front of a class

pub front_on : (p : ℕ → Bool) (c : ℕ) (cs : List ℕ) → p c ≡ true → front_while p (c ∷ cs) ≡ c ∷ front_while p cs
front_on p c cs e = rw e refl

front_off : (p : ℕ → Bool) (c : ℕ) (cs : List ℕ) → p c ≡ false → front_while p (c ∷ cs) ≡ []
front_off p c cs e = rw e refl

pub rest_on : (p : ℕ → Bool) (c : ℕ) (cs : List ℕ) → p c ≡ true → rest_while p (c ∷ cs) ≡ rest_while p cs
rest_on p c cs e = rw e refl

pub rest_off : (p : ℕ → Bool) (c : ℕ) (cs : List ℕ) → p c ≡ false → rest_while p (c ∷ cs) ≡ c ∷ cs
rest_off p c cs e = rw e refl

-- the first n bytes passed, and `left` is to come
pub record IsSplitting (p : ℕ → Bool) (bs left : List ℕ) (n : ℕ) : Type 0 where
  pub fits : n ≤ length bs
  pub is_left : left ≡ drop n bs
  pub read : IsUtf8 (take n bs)
  pub front : front_while p (chars bs) ≡ chars (take n bs) ++ front_while p (chars left)
  pub trailing : rest_while p (chars bs) ≡ rest_while p (chars left)

-- the first n bytes are the longest front
pub record IsSplit (p : ℕ → Bool) (bs : List ℕ) (n : ℕ) : Type 0 where
  pub boundary : IsCharBoundary bs n
  pub front : chars (take n bs) ≡ front_while p (chars bs)
  pub trailing : chars (drop n bs) ≡ rest_while p (chars bs)

pub split_start : (p : ℕ → Bool) (bs left : List ℕ) → left ≡ bs → IsSplitting p bs left 0
split_start p bs left e = record {
  fits = omega arith;
  is_left = e;
  read = IsUtf8-nil;
  front = rw chars-nil (ap (λ l. front_while p (chars l)) (sym e));
  trailing = ap (λ l. rest_while p (chars l)) (sym e);
}

module _ (p : ℕ → Bool) (bs left : List ℕ) (n : ℕ) (u : IsUtf8 bs) (h : IsSplitting p bs left n) where
  edge : IsCharBoundary bs n
  edge = IsCharBoundary-from_take bs n u h.fits h.read

  to_come : IsUtf8 left
  to_come = left_text bs left n u h.fits h.read h.is_left

  pub split_more : (rest : List ℕ) (c w : ℕ) → left ≡ encode_utf8 c ++ rest → w ≡ len_utf8 c → p c ≡ true →
      IsSplitting p bs rest (n + w)
  split_more rest c w e width passes =
      let step = read_on bs left rest n c w u h.fits h.read h.is_left e width in
      let first : chars left ≡ c ∷ chars rest = chars_past_char left rest c to_come e in
      record {
        fits = step.seam.0;
        is_left = step.left;
        read = step.read;
        front =
            h.front ∙ ap (λ l. chars (take n bs) ++ front_while p l) first ∙ ap (λ l. chars (take n bs) ++ l)
            (front_on p c (chars rest) passes)
            ∙ sym (append_assoc (chars (take n bs)) (c ∷ []) (front_while p (chars rest)))
            ∙ ap (λ l. l ++ front_while p (chars rest)) (sym step.text);
        trailing = h.trailing ∙ ap (rest_while p) first ∙ rest_on p c (chars rest) passes;
      }

  pub split_stops : (rest : List ℕ) (c : ℕ) → left ≡ encode_utf8 c ++ rest → p c ≡ false → IsSplit p bs n
  split_stops rest c e fails =
      let first : chars left ≡ c ∷ chars rest = chars_past_char left rest c to_come e in
      record {
        boundary = edge;
        front = sym
            (h.front ∙ ap (λ l. chars (take n bs) ++ l) (ap (front_while p) first ∙ front_off p c (chars rest) fails) ∙
            append-nil (chars (take n bs)));
        trailing = ap chars (sym h.is_left) ∙ first ∙
            sym (h.trailing ∙ ap (rest_while p) first ∙ rest_off p c (chars rest) fails);
      }

  pub split_ends : length left ≡ 0 → IsSplit p bs n
  split_ends none =
      let nothing : chars left ≡ [] = no_bytes left none in
      record {
        boundary = edge;
        front = sym (h.front ∙ ap (λ l. chars (take n bs) ++ front_while p l) nothing ∙ append-nil (chars (take n bs)));
        trailing = ap chars (sym h.is_left) ∙ nothing ∙ sym (h.trailing ∙ ap (rest_while p) nothing);
      }

-- ---- marks

begins_append : (ms rest : List ℕ) → begins ms (ms ++ rest) ≡ true
begins_append [] rest = refl
begins_append (m ∷ ms) rest = and_from _ _ (eq-eqb m m refl) (begins_append ms rest)

begins_split : (ms cs : List ℕ) → begins ms cs ≡ true → cs ≡ ms ++ drop (length ms) cs
begins_split [] cs e = refl
begins_split (m ∷ ms) [] e = absurd (false≢true e)
begins_split (m ∷ ms) (c ∷ cs) e =
    let parts = and_parts _ (begins ms cs) e in
    ap (λ x. x ∷ cs) (eqb-true c m parts.0) ∙ ap (λ l. m ∷ l) (begins_split ms cs parts.1)

pub after_mark : (ms rest : List ℕ) → after ms (ms ++ rest) ≡ Some rest
after_mark ms rest = rw (begins_append ms rest) (ap Some (drop_at ms rest (length ms) refl))

pub after_none : (ms cs : List ℕ) → ((rest : List ℕ) → cs ≢ ms ++ rest) → after ms cs ≡ None
after_none ms cs h =
    let not_begun : begins ms cs ≡ false = false_from_ne_true _ (λ e. h (drop (length ms) cs) (begins_split ms cs e)) in
    rw not_begun refl

-- the clause of `strip_prefix` at a text
pub stripped : (mark bs : List ℕ) (r : Option (Bor (List ℕ))) → IsUtf8 mark → IsUtf8 bs
    → MatchOption r (FindsTextPrefix mark bs None) (λ x. (n : ℕ) × FindsTextPrefix mark bs (Some n)
    × (x.now ≡ drop n bs) × (length x.now + n ≡ length bs))
    → option_map {T = Bor (List ℕ)} {U = List ℕ} (λ rest. chars rest.now) r ≡ after (chars mark) (chars bs)
stripped mark bs None um u h =
    sym (after_none (chars mark) (chars bs) (λ rest e.
    h (encode_utf8_all rest) (sym (encodes-chars bs u) ∙ ap encode_utf8_all e ∙ encodes-append (chars mark) rest ∙
    ap (λ l. l ++ encode_utf8_all rest) (encodes-chars mark um))))
stripped mark bs (Some x) um u h =
    let whole : chars bs ≡ chars mark ++ chars x.now =
    ap chars h.1.1 ∙ chars-append mark (drop h.0 bs) um ∙ ap (λ l. chars mark ++ chars l) (sym h.2) in
    sym (ap (after (chars mark)) whole ∙ after_mark (chars mark) (chars x.now))

-- ---- words

-- so far the text goes like the word, and `left` and `more` are to come
pub record IsSpelling (text word left more : List ℕ) : Type 0 where
  pub left_text : IsUtf8 left
  pub more_text : IsUtf8 more
  pub same : begins_word (chars word) (chars text) ≡ begins_word (chars more) (chars left)

pub spelling_start : (text word left more : List ℕ) → IsUtf8 text → IsUtf8 word → left ≡ text → more ≡ word →
    IsSpelling text word left more
spelling_start text word left more u v e f = record {
  left_text = subst IsUtf8 (sym e) u;
  more_text = subst IsUtf8 (sym f) v;
  same = ap (λ l. begins_word (chars word) (chars l)) (sym e) ∙ ap (λ l. begins_word (chars l) (chars left)) (sym f);
}

word_on : (w c : ℕ) (ws cs : List ℕ) → to_ascii_lowercase c ≡ w → begins_word (w ∷ ws) (c ∷ cs) ≡ begins_word ws cs
word_on w c ws cs e = rw (eq-eqb (to_ascii_lowercase c) w e) refl

word_off : (w c : ℕ) (ws cs : List ℕ) → to_ascii_lowercase c ≢ w → begins_word (w ∷ ws) (c ∷ cs) ≡ false
word_off w c ws cs fails = rw (ne_eqb (to_ascii_lowercase c) w fails) refl

module _ (text word left more : List ℕ) (h : IsSpelling text word left more) where
  pub spelling_short : (w : ℕ) (later : List ℕ) → more ≡ encode_utf8 w ++ later → length left ≡ 0 →
      false ≡ begins_word (chars word) (chars text)
  spelling_short w later e none =
      sym (h.same ∙ ap (λ l. begins_word l (chars left)) (chars_past_char more later w h.more_text e) ∙
      ap (begins_word (w ∷ chars later)) (no_bytes left none))

  both : (w c : ℕ) (later rest : List ℕ) → more ≡ encode_utf8 w ++ later → left ≡ encode_utf8 c ++ rest →
      begins_word (chars word) (chars text) ≡ begins_word (w ∷ chars later) (c ∷ chars rest)
  both w c later rest e f =
      h.same ∙ ap (λ l. begins_word l (chars left)) (chars_past_char more later w h.more_text e) ∙
      ap (begins_word (w ∷ chars later)) (chars_past_char left rest c h.left_text f)

  pub spelling_differs : (w c : ℕ) (later rest : List ℕ) → more ≡ encode_utf8 w ++ later →
      left ≡ encode_utf8 c ++ rest → to_ascii_lowercase c ≢ w → false ≡ begins_word (chars word) (chars text)
  spelling_differs w c later rest e f fails =
      sym (both w c later rest e f ∙ word_off w c (chars later) (chars rest) fails)

  pub spelling_more : (w c : ℕ) (later rest : List ℕ) → more ≡ encode_utf8 w ++ later → left ≡ encode_utf8 c ++ rest →
      to_ascii_lowercase c ≡ w → IsSpelling text word rest later
  spelling_more w c later rest e f passes = record {
    left_text = IsUtf8-past_char left rest c h.left_text f;
    more_text = IsUtf8-past_char more later w h.more_text e;
    same = both w c later rest e f ∙ word_on w c (chars later) (chars rest) passes;
  }

  pub spelling_ends : length more ≡ 0 → true ≡ begins_word (chars word) (chars text)
  spelling_ends none = sym (h.same ∙ ap (λ l. begins_word l (chars left)) (no_bytes more none))

-- ---- cuts

abbrev pub cut_with : List ℕ → List ℕ → Cut
cut_with slice rest = record { slice = slice; rest = rest }

abbrev pub after_front : List ℕ → Cut → Cut
after_front front cut = cut_with (front ++ cut.slice) cut.rest

after_nothing : (o : Option Cut) → o ≡ option_map (after_front []) o
after_nothing None = refl
after_nothing (Some k) = refl

after_both : (front : List ℕ) (c : ℕ) (o : Option Cut) →
    option_map (after_front front) (option_map (after_front (c ∷ [])) o)
    ≡ option_map (after_front (front ++ c ∷ [])) o
after_both front c None = refl
after_both front c (Some k) = ap (λ (l : List ℕ). Some (cut_with l k.rest)) (sym (append_assoc front (c ∷ []) k.slice))

pub cut_off : (mark : List ℕ → Option (List ℕ)) (c : ℕ) (cs : List ℕ) → mark (c ∷ cs) ≡ None →
    cut mark (c ∷ cs) ≡ option_map (after_front (c ∷ [])) (cut mark cs)
cut_off mark c cs e = rw e refl

pub cut_on : (mark : List ℕ → Option (List ℕ)) (c : ℕ) (cs rest : List ℕ) → mark (c ∷ cs) ≡ Some rest →
    cut mark (c ∷ cs) ≡ Some (cut_with [] rest)
cut_on mark c cs rest e = rw e refl

-- no mark began in the first n bytes, and `left` is to come
pub record IsCutting (mark : List ℕ → Option (List ℕ)) (bs left : List ℕ) (n : ℕ) : Type 0 where
  pub fits : n ≤ length bs
  pub is_left : left ≡ drop n bs
  pub read : IsUtf8 (take n bs)
  pub so_far : cut mark (chars bs) ≡ option_map (after_front (chars (take n bs))) (cut mark (chars left))

pub cut_start : (mark : List ℕ → Option (List ℕ)) (bs left : List ℕ) → left ≡ bs → IsCutting mark bs left 0
cut_start mark bs left e = record {
  fits = omega arith;
  is_left = e;
  read = IsUtf8-nil;
  so_far = rw chars-nil (ap (λ l. cut mark (chars l)) (sym e) ∙ after_nothing (cut mark (chars left)));
}

module _ (mark : List ℕ → Option (List ℕ)) (bs left : List ℕ) (n : ℕ) (u : IsUtf8 bs)
    (h : IsCutting mark bs left n) where
  pub cut_edge : IsCharBoundary bs n
  cut_edge = IsCharBoundary-from_take bs n u h.fits h.read

  first_of : (rest : List ℕ) (c : ℕ) → left ≡ encode_utf8 c ++ rest → chars left ≡ c ∷ chars rest
  first_of rest c e = chars_past_char left rest c (left_text bs left n u h.fits h.read h.is_left) e

  pub cut_more : (rest marked : List ℕ) (c w : ℕ) → left ≡ encode_utf8 c ++ rest → w ≡ len_utf8 c → marked ≡ drop n bs →
      mark (chars marked) ≡ None → IsCutting mark bs rest (n + w)
  cut_more rest marked c w e width m none =
      let step = read_on bs left rest n c w u h.fits h.read h.is_left e width in
      let first : chars left ≡ c ∷ chars rest = first_of rest c e in
      let here : mark (c ∷ chars rest) ≡ None = ap mark (sym (ap chars (m ∙ sym h.is_left) ∙ first)) ∙ none in
      record {
        fits = step.seam.0;
        is_left = step.left;
        read = step.read;
        so_far =
            h.so_far ∙ ap (λ l. option_map (after_front (chars (take n bs))) (cut mark l)) first
            ∙ ap (option_map (after_front (chars (take n bs)))) (cut_off mark c (chars rest) here)
            ∙ after_both (chars (take n bs)) c (cut mark (chars rest))
            ∙ ap (λ l. option_map (after_front l) (cut mark (chars rest))) (sym step.text);
      }

  pub cut_found : (slice rest marked trailing : List ℕ) (c : ℕ) → left ≡ encode_utf8 c ++ rest → slice ≡ take n bs →
      marked ≡ drop n bs → Some (chars trailing) ≡ mark (chars marked)
      → Some (cut_with (chars slice) (chars trailing)) ≡ cut mark (chars bs)
  cut_found slice rest marked trailing c e s m found =
      let first : chars left ≡ c ∷ chars rest = first_of rest c e in
      let here : mark (c ∷ chars rest) ≡ Some (chars trailing) =
      ap mark (sym (ap chars (m ∙ sym h.is_left) ∙ first)) ∙ sym found in
      ap (λ (l : List ℕ). Some (cut_with (chars l) (chars trailing))) s
      ∙ sym (
      h.so_far ∙ ap (λ l. option_map (after_front (chars (take n bs))) (cut mark l)) first
      ∙ ap (option_map (after_front (chars (take n bs)))) (cut_on mark c (chars rest) (chars trailing) here)
      ∙ ap (λ (l : List ℕ). Some (cut_with l (chars trailing))) (append-nil (chars (take n bs))))

  pub cut_ends : length left ≡ 0 → None ≡ cut mark (chars bs)
  cut_ends none =
      sym (h.so_far ∙ ap (λ l. option_map (after_front (chars (take n bs))) (cut mark l)) (no_bytes left none))
