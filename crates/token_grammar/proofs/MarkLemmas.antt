-- Slices before a mark, on texts and on their code points.
use Rattle.std.proofs.Common.{◌≡◌, ◌≢◌, ◌-◌, ◌<◌, [], ◌∷◌, ◌++◌, ◌∙◌, Bool, IsUtf8, List, MatchOption, None, Option}
use Rattle.std.proofs.Common.{Some, ap, append-nil, append_assoc, arith, codes, cond, drop, encode_utf8}
use Rattle.std.proofs.Common.{encode_utf8_all, eqb, false, length, length-append, option_map, refl, reverse, subst, sym}
use Rattle.std.proofs.Common.{take, true, unwrap_or, ℕ}
use denote.Ref.{Bor}
use Rattle.std.proofs.lemmas.Bool.{and_parts, eq-eqb, eqb-true}
use Rattle.std.proofs.lemmas.List.{nil_from_length, reverse-append, reverse-reverse, take-append-le, take_all}
use Rattle.std.proofs.lemmas.Option.{same_Some}
use Rattle.std.proofs.lemmas.Str.{IsCharBoundary-at_seam, IsUtf8-append, IsUtf8-encode, IsUtf8-nil, IsUtf8-take}
use Rattle.std.proofs.lemmas.Str.{chars-append, chars-nil, chars_past_char, cons_from_encodes, encodes-append}
use Rattle.std.proofs.lemmas.Str.{encodes-chars, len_utf8_bounds, length-encode}
use Rattle.std.specs.Char.{IsScalar}
use Rattle.std.specs.Option.{option_or}
use Rattle.std.proofs.Math.Utf8.{scalar}
use Rattle.std.specs.Str.{IsCharBoundary, all_scalars, chars}
use Rattle.std.specs.Str.Pattern.{FindsTextSuffix, StripsSuffix}
use Rattle.token_grammar.specs.Characters.{shown, shown_text}
use Rattle.token_grammar.specs.Comments.{comment_mark, comment_slice, without_begun_mark}
use Rattle.token_grammar.specs.Edges.{before}
use Rattle.token_grammar.specs.Read.{cut_of}
use Rattle.token_grammar.specs.Slices.{Cut, after, begins, cut, cut_or_all}

-- a text's first character, in bytes
pub first_split : (text rest : List ℕ) (c : ℕ) → IsUtf8 text → IsUtf8 rest → chars text ≡ c ∷ chars rest →
    text ≡ encode_utf8 c ++ rest
first_split text rest c u v e =
    sym (encodes-chars text u) ∙ ap encode_utf8_all e ∙ ap (λ l. encode_utf8 c ++ l) (encodes-chars rest v)

pub shorter : (text rest : List ℕ) (c : ℕ) → IsUtf8 text → IsUtf8 rest → chars text ≡ c ∷ chars rest →
    length rest < length text
shorter text rest c u v e =
    let bounds = len_utf8_bounds c in
    omega (
      arith,
      ap length (first_split text rest c u v e),
      length-append (encode_utf8 c) rest,
      length-encode c,
      bounds.0,
    )

pub chars-encode : (c : ℕ) → IsScalar c → chars (encode_utf8 c) ≡ c ∷ []
chars-encode c scalar =
    chars_past_char (encode_utf8 c) [] c (IsUtf8-encode c scalar) (sym (append-nil (encode_utf8 c))) ∙
    ap (λ l. c ∷ l) chars-nil

-- a cut of which a front was read before
abbrev pub prefixed : List ℕ → Cut → Cut
prefixed front cut = record cut { slice = front ++ cut.slice }

cut_past : (mark : List ℕ → Option (List ℕ)) (c : ℕ) (cs : List ℕ) → mark (c ∷ cs) ≡ None →
    cut mark (c ∷ cs) ≡ option_map (prefixed (c ∷ [])) (cut mark cs)
cut_past mark c cs e = rw e refl

prefixed_nil : (o : Option Cut) → o ≡ option_map (prefixed []) o
prefixed_nil None = refl
prefixed_nil (Some cut) = refl

prefixed_both : (a b : List ℕ) (o : Option Cut) → option_map (prefixed a) (option_map (prefixed b) o)
    ≡ option_map (prefixed (a ++ b)) o
prefixed_both a b None = refl
prefixed_both a b (Some cut) = ap (λ l. Some (record cut { slice = l })) (sym (append_assoc a b cut.slice))

-- A front of a text has no mark that begins in it, and the rest is left.
pub record IsLeft (mark : List ℕ → Option (List ℕ)) (text left : List ℕ) : Type 0 where
  pub front : List ℕ
  pub front_text : IsUtf8 front
  pub left_text : IsUtf8 left
  pub whole : text ≡ front ++ left
  pub cut_is : cut mark (chars text) ≡ option_map (prefixed (chars front)) (cut mark (chars left))

pub IsLeft-all : (mark : List ℕ → Option (List ℕ)) (text : List ℕ) → IsUtf8 text → IsLeft mark text text
IsLeft-all mark text u = record {
  front = [];
  front_text = IsUtf8-nil;
  left_text = u;
  whole = refl;
  cut_is = rw chars-nil (prefixed_nil (cut mark (chars text)));
}

pub IsLeft-past : (mark : List ℕ → Option (List ℕ)) (text left rest : List ℕ) (c : ℕ) → IsLeft mark text left →
    IsScalar c → IsUtf8 rest → chars left ≡ c ∷ chars rest → mark (chars left) ≡ None → IsLeft mark text rest
IsLeft-past mark text left rest c h scalar v e none =
    let split = first_split left rest c h.left_text v e in
    let front_is : chars (h.front ++ encode_utf8 c) ≡ chars h.front ++ c ∷ [] =
    chars-append h.front (encode_utf8 c) h.front_text ∙ ap (λ l. chars h.front ++ l) (chars-encode c scalar) in
    record {
      front = h.front ++ encode_utf8 c;
      front_text = IsUtf8-append h.front (encode_utf8 c) h.front_text (IsUtf8-encode c scalar);
      left_text = v;
      whole = h.whole ∙ ap (λ l. h.front ++ l) split ∙ sym (append_assoc h.front (encode_utf8 c) rest);
      cut_is =
          h.cut_is ∙ ap (λ l. option_map (prefixed (chars h.front)) (cut mark l)) e
          ∙ ap (option_map (prefixed (chars h.front))) (cut_past mark c (chars rest) (ap mark (sym e) ∙ none))
          ∙ prefixed_both (chars h.front) (c ∷ []) (cut mark (chars rest))
          ∙ ap (λ l. option_map (prefixed l) (cut mark (chars rest))) (sym front_is);
    }

pub IsLeft-boundary : (mark : List ℕ → Option (List ℕ)) (text left : List ℕ) → IsLeft mark text left →
    IsCharBoundary text (length text - length left)
IsLeft-boundary mark text left h =
    let long : length h.front ≡ length text - length left =
    omega (arith, ap length h.whole, length-append h.front left) in
    subst (IsCharBoundary text) long (IsCharBoundary-at_seam text h.front left h.whole h.left_text)

front_is : (text front left : List ℕ) → text ≡ front ++ left → take (length text - length left) text ≡ front
front_is text front left e =
    let long : length text - length left ≡ length front = omega (arith, ap length e, length-append front left) in
    rw long (ap (take (length front)) e ∙ take-append-le (length front) front left (omega arith) ∙
    take_all (length front) front (omega arith))

-- a mark at a list's beginning
begins_front : (m r : List ℕ) → begins m (m ++ r) ≡ true
begins_front [] r = refl
begins_front (c ∷ m) r = rw (eq-eqb c c refl) (begins_front m r)

begins_split : (m cs : List ℕ) → begins m cs ≡ true → (r : List ℕ) × (cs ≡ m ++ r)
begins_split [] cs e = (cs, refl)
begins_split (d ∷ m) [] e = absurd (cc)
begins_split (d ∷ m) (c ∷ cs) e =
    let parts = and_parts (eqb c d) (begins m cs) e in
    let further = begins_split m cs parts.1 in
    (further.0, ap (λ x. x ∷ cs) (eqb-true c d parts.0) ∙ ap (λ l. d ∷ l) further.1)

-- a mark at a list's end
before_mark : (front mark : List ℕ) → before mark (front ++ mark) ≡ Some front
before_mark front mark =
    rw (reverse-append front mark, begins_front (reverse mark) (reverse front))
    (ap Some (front_is (front ++ mark) front mark refl))

cond_none : (b : Bool) (x : List ℕ) → (b ≡ true → ⊥) → cond b (Some x) None ≡ None
cond_none true x h = absurd (h refl)
cond_none false x h = refl

before_none : (mark cs : List ℕ) → ((front : List ℕ) → cs ≢ front ++ mark) → before mark cs ≡ None
before_none mark cs h =
    cond_none (begins (reverse mark) (reverse cs)) (take (length cs - length mark) cs)
    (λ e.
    let r = begins_split (reverse mark) (reverse cs) e in
    h (reverse r.0) (sym (reverse-reverse cs) ∙ ap reverse r.1 ∙ reverse-append (reverse mark) r.0 ∙
    ap (λ l. reverse r.0 ++ l) (reverse-reverse mark)))

-- a text before a text at its end
pub front_text : (text front mark : List ℕ) → IsUtf8 text → IsUtf8 mark → text ≡ front ++ mark → IsUtf8 front
front_text text front mark u v e =
    subst IsUtf8 (ap (λ n. take n text) (let long : length front ≡ length text - length mark = omega (arith, ap length e, length-append front mark) in long) ∙ front_is text front mark e) (IsUtf8-take text (length front) u (IsCharBoundary-at_seam text front mark e v))

pub before_is : (mark text : List ℕ) (r : Option (Bor (List ℕ))) → IsUtf8 text → IsUtf8 mark →
    MatchOption r (FindsTextSuffix mark text None) (λ x. StripsSuffix (FindsTextSuffix mark) text x.now)
    → option_map (λ front. chars front.now) r ≡ before (chars mark) (chars text)
before_is mark text None u v h =
    sym
    (before_none (chars mark) (chars text)
    (λ front e.
    h (encode_utf8_all front) (sym (encodes-chars text u) ∙ ap encode_utf8_all e ∙ encodes-append front (chars mark) ∙
    ap (λ l. encode_utf8_all front ++ l) (encodes-chars mark v))))
before_is mark text (Some x) u v h =
    let e : text ≡ x.now ++ mark = h.1.1 ∙ ap (λ l. l ++ mark) (sym h.2) in
    sym (ap (before (chars mark)) (ap chars e ∙ chars-append x.now mark (front_text text x.now mark u v e)) ∙
    before_mark (chars x.now) (chars mark))

choice : (a b d : Bool) (x y z w : List ℕ) →
    unwrap_or (option_or (option_or (cond a (Some x) None) (cond b (Some y) None)) (cond d (Some z) None)) w
    ≡ cond a x (cond b y (cond d z w))
choice true b d x y z w = refl
choice false true d x y z w = refl
choice false false true x y z w = refl
choice false false false x y z w = refl

pub without_begun_mark_is : (cs : List ℕ) →
    unwrap_or (option_or (option_or (before (codes "--!") cs) (before (codes "--") cs)) (before (codes "-") cs)) cs
    ≡ without_begun_mark cs
without_begun_mark_is cs =
    choice (begins (codes "!--") (reverse cs)) (begins (codes "--") (reverse cs)) (begins (codes "-") (reverse cs))
    (take (length cs - 3) cs) (take (length cs - 2) cs) (take (length cs - 1) cs) cs

pub option_map-or : {A B : Type 0} (f : A → B) (x y : Option A) → option_map f (option_or x y)
    ≡ option_or (option_map f x) (option_map f y)
option_map-or f None y = refl
option_map-or f (Some a) y = refl

pub option_map-unwrap_or : {A B : Type 0} (f : A → B) (x : Option A) (d : A) → f (unwrap_or x d)
    ≡ unwrap_or (option_map f x) (f d)
option_map-unwrap_or f None d = refl
option_map-unwrap_or f (Some a) d = refl

pub or_is : {A B : Type 0} (f : A → B) (r x y : Option A) (a b : Option B) → r ≡ option_or x y → option_map f x ≡ a →
    option_map f y ≡ b → option_map f r ≡ option_or a b
or_is f r x y a b e p q =
    ap (option_map f) e ∙ option_map-or f x y ∙ ap (λ o. option_or o (option_map f y)) p ∙ ap (option_or a) q

-- the code points of marks
pub greater_codes : chars (codes ">") ≡ codes ">"
unfolding chars
greater_codes = refl

pub arrow_codes : chars (codes "->") ≡ codes "->"
unfolding chars
arrow_codes = refl

pub end_codes : chars (codes "-->") ≡ codes "-->"
unfolding chars
end_codes = refl

pub bang_codes : chars (codes "--!>") ≡ codes "--!>"
unfolding chars
bang_codes = refl

pub begun_codes : chars (codes "--!") ≡ codes "--!"
unfolding chars
begun_codes = refl

pub dashes_codes : chars (codes "--") ≡ codes "--"
unfolding chars
dashes_codes = refl

pub dash_codes : chars (codes "-") ≡ codes "-"
unfolding chars
dash_codes = refl

-- a comment's slice, by its three cases
empty_by : (a b : Bool) (x y w : List ℕ) (e : Cut) → Some w ≡ option_or (cond a (Some x) None) (cond b (Some y) None)
    → (record { slice = []; rest = w }) ≡ cond a (record { slice = []; rest = x })
    (cond b (record { slice = []; rest = y }) e)
empty_by true b x y w e h = ap (λ l. record { slice = []; rest = l }) (same_Some w x h)
empty_by false true x y w e h = ap (λ l. record { slice = []; rest = l }) (same_Some w y h)
empty_by false false x y w e h = absurd (cc)

other_by : (a b : Bool) (x y : List ℕ) (d f e : Cut) → None ≡ option_or (cond a (Some x) None) (cond b (Some y) None) →
    e ≡ cond a d (cond b f e)
other_by true b x y d f e h = absurd (cc)
other_by false true x y d f e h = absurd (cc)
other_by false false x y d f e h = refl

pub comment_slice-empty : (cs rest : List ℕ) → Some rest ≡ option_or (after (codes ">") cs) (after (codes "->") cs) →
    (record { slice = []; rest = rest }) ≡ comment_slice cs
comment_slice-empty cs rest h =
    empty_by (begins (codes ">") cs) (begins (codes "->") cs) (drop 1 cs) (drop 2 cs) rest _ h

pub comment_slice-found : (cs : List ℕ) (read : Cut) → None ≡ option_or (after (codes ">") cs) (after (codes "->") cs) →
    Some read ≡ cut comment_mark cs → read ≡ comment_slice cs
comment_slice-found cs read h e =
    rw (← e) (other_by (begins (codes ">") cs) (begins (codes "->") cs) (drop 1 cs) (drop 2 cs) _ _ read h)

pub comment_slice-ended : (cs : List ℕ) → None ≡ option_or (after (codes ">") cs) (after (codes "->") cs) →
    None ≡ cut comment_mark cs → (record { slice = without_begun_mark cs; rest = [] }) ≡ comment_slice cs
comment_slice-ended cs h e =
    rw (← e) (other_by (begins (codes ">") cs) (begins (codes "->") cs) (drop 1 cs) (drop 2 cs) _ _
    (record { slice = without_begun_mark cs; rest = [] }) h)

pub empty_same : (rest : List ℕ) →
    ◌≡◌ {A = Cut} (record { slice = chars []; rest = rest }) (record { slice = []; rest = rest })
empty_same rest = ap (λ l. record { slice = l; rest = rest }) chars-nil

pub ended_same : (slice cs : List ℕ) → slice ≡ cs →
    ◌≡◌ {A = Cut} (record { slice = slice; rest = chars [] }) (record { slice = cs; rest = [] })
ended_same slice cs e =
    ap (λ l. record { slice = l; rest = chars [] }) e ∙ ap (λ l. record { slice = cs; rest = l }) chars-nil

-- a cut, or else all of the text
pub cut_of-or_all : (r : Option (Bor (List ℕ) × Bor (List ℕ))) (text empty : Bor (List ℕ)) → empty.now ≡ [] →
    cut_of (unwrap_or r (text, empty)) ≡ cut_or_all (option_map cut_of r) (chars text.now)
cut_of-or_all None text empty e = ap (λ l. record { slice = chars text.now; rest = l }) (ap chars e ∙ chars-nil)
cut_of-or_all (Some p) text empty e = refl

-- what is written of a text, and what is left of it
pub shown_all : (written left cs : List ℕ) → length left ≡ 0 → chars written ++ shown_text (chars left) ≡ cs →
    chars written ≡ cs
shown_all written left cs e h =
    sym (append-nil (chars written)) ∙
    sym (ap (λ l. chars written ++ shown_text l) (ap chars (nil_from_length left e) ∙ chars-nil)) ∙ h

-- how a character is written
pub record IsShown (c d : ℕ) : Type 0 where
  pub scalar : IsScalar d
  pub same : shown c ≡ d

pub scalar_first : (bs rest : List ℕ) (c : ℕ) → IsUtf8 bs → bs ≡ encode_utf8 c ++ rest → IsScalar c
scalar_first bs rest c u e =
    let cut = cons_from_encodes u.0 rest c (u.1.1 ∙ e) in
    (and_parts (scalar c) (all_scalars cut.0) (ap all_scalars (sym cut.1) ∙ u.1.0)).0

pub shown_more : (written bytes left rest cs : List ℕ) (c d : ℕ) → IsUtf8 written → IsUtf8 left →
    left ≡ encode_utf8 c ++ rest → bytes ≡ written ++ encode_utf8 d → IsShown c d
    → chars written ++ shown_text (chars left) ≡ cs → chars bytes ++ shown_text (chars rest) ≡ cs
shown_more written bytes left rest cs c d u v e f s h =
    let more : chars bytes ≡ chars written ++ d ∷ [] =
    ap chars f ∙ chars-append written (encode_utf8 d) u ∙ ap (λ l. chars written ++ l)
    (chars-encode d s.scalar) in
    ap (λ l. l ++ shown_text (chars rest)) more ∙ append_assoc (chars written) (d ∷ []) (shown_text (chars rest))
    ∙ ap (λ x. chars written ++ x ∷ shown_text (chars rest)) (sym s.same)
    ∙ ap (λ l. chars written ++ shown_text l) (sym (chars_past_char left rest c v e))
    ∙ h
