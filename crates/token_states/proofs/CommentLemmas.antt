-- Where a comment ends, read one character more.
use Rattle.std.proofs.Common.{◌≡◌, ◌≢◌, ◌≤◌, ◌&&◌, ◌==◌, ◌⊎◌, [], ◌∷◌, ◌++◌, ◌∙◌, Bool, IsUtf8, List, MatchBool, None}
use Rattle.std.proofs.Common.{Option, Some, ap, append_assoc, ap₂, arith, codes, drop, encode_utf8_all, false, length}
use Rattle.std.proofs.Common.{length-append, refl, subst, sym, true, ℕ}
use Rattle.std.proofs.Math.Logic.{◌⊎◌.inl, ◌⊎◌.inr}
use Rattle.std.proofs.lemmas.Bool.{and_parts, cases_Bool, eqb-true}
use Rattle.std.proofs.lemmas.Str.{chars-append, encodes-append, encodes-chars}
use Rattle.std.specs.Option.{option_or}
use Rattle.std.specs.Prelude.{if◌then◌else◌}
use Rattle.std.specs.Str.{chars}
use Rattle.std.specs.Str.Pattern.{FindsTextSuffix, HasSuffixMatch}
use Rattle.lex_base.specs.References.{References}
use Rattle.token_grammar.proofs.MarkLemmas.{arrow_codes, front_text, greater_codes}
use Rattle.token_grammar.specs.Comments.{comment_mark, comment_slice, empty_comment, found_or_ended}
use Rattle.token_grammar.specs.Lexemes.{comment_lexeme}
use Rattle.token_grammar.specs.Slices.{Cut, begins, cut, cut_here}
use Rattle.token_grammar.specs.declared.modes.Mode.{Mode}
use Rattle.token_states.specs.CommentEnds.{EndsApart, EndsWith, IsClosed, IsNotClosed}
use Rattle.token_states.specs.MarkupSound.{IsOpenComment}
use Rattle.token_states.specs.Turns.{IsOver}
use Rattle.token_states.specs.declared.place.LexemeState.TheVariants.{Comment}
use Rattle.token_states.proofs.MarkupHeld.{and_false, over_by}

-- ---- a mark at a text's beginning

begins_more : (m cs more : List ℕ) → length m ≤ length cs → begins m (cs ++ more) ≡ begins m cs
begins_more [] cs more h = refl
begins_more (d ∷ m) [] more h = absurd (omega arith)
begins_more (d ∷ m) (c ∷ cs) more h = ap (λ b. (c == d) && b) (begins_more m cs more (omega arith))

begins_nil : (m : List ℕ) → begins m [] ≡ true → [] ≡ m
begins_nil [] e = refl
begins_nil (d ∷ m) e = absurd cc

-- a mark that a character completes is all of the text
begins_now : (m hs : List ℕ) (c : ℕ) → begins m hs ≡ false → begins m (hs ++ c ∷ []) ≡ true → hs ++ c ∷ [] ≡ m
begins_now [] hs c n e = absurd cc
begins_now (d ∷ m) [] c n e =
    let parts = and_parts (c == d) (begins m []) e in
    ap₂ (λ x l. x ∷ l) (eqb-true c d parts.0) (begins_nil m parts.1)
begins_now (d ∷ m) (h ∷ hs) c n e =
    let parts = and_parts (h == d) (begins m (hs ++ c ∷ [])) e in
    let further : begins m hs ≡ false = ap (λ b. b && begins m hs) (sym parts.0) ∙ n in
    ap₂ (λ x l. x ∷ l) (eqb-true h d parts.0) (begins_now m hs c further parts.1)

pub begins_still : (m hs : List ℕ) (c : ℕ) → begins m hs ≡ false → hs ++ c ∷ [] ≢ m → begins m (hs ++ c ∷ []) ≡ false
begins_still m hs c n apart =
    elim (cases_Bool (begins m (hs ++ c ∷ []))) [ inl e ↦ absurd (apart (begins_now m hs c n e)) | inr e ↦ e ]

-- ---- no end mark

either_none : (a b : Bool) (x y : List ℕ) → option_or (if a then Some x else None) (if b then Some y
    else None) ≡ None → (a ≡ false) × (b ≡ false)
either_none false false x y e = (refl, refl)
either_none false true x y e = absurd cc
either_none true b x y e = absurd cc

none_either : (a b : Bool) (x y : List ℕ) → a ≡ false → b ≡ false → option_or (if a then Some x
    else None) (if b then Some y else None) ≡ None
none_either a b x y p q = ap₂ (λ s t. option_or (if s then Some x else None) (if t then Some y else None)) p q

no_marks : (cs : List ℕ) → comment_mark cs ≡ None → (begins (codes "-->") cs ≡ false)
    × (begins (codes "--!>") cs ≡ false)
no_marks cs e = either_none (begins (codes "-->") cs) (begins (codes "--!>") cs) (drop 3 cs) (drop 4 cs) e

no_mark_by : (cs : List ℕ) → begins (codes "-->") cs ≡ false → begins (codes "--!>") cs ≡ false → comment_mark cs ≡ None
no_mark_by cs p q = none_either (begins (codes "-->") cs) (begins (codes "--!>") cs) (drop 3 cs) (drop 4 cs) p q

cut_parts : (c : ℕ) (m : Option (List ℕ)) (later : Option Cut) → cut_here c m later ≡ None → (m ≡ None) × (later ≡ None)
cut_parts c (Some r) later e = absurd cc
cut_parts c None None e = (refl, refl)
cut_parts c None (Some k) e = absurd cc

mark_still : (hs : List ℕ) (c : ℕ) → begins (codes "-->") hs ≡ false → begins (codes "--!>") hs ≡ false →
    EndsApart (codes "-->") (hs ++ c ∷ []) → EndsApart (codes "--!>") (hs ++ c ∷ []) →
    comment_mark (hs ++ c ∷ []) ≡ None
mark_still hs c p q a b =
    no_mark_by (hs ++ c ∷ []) (begins_still (codes "-->") hs c p (a [])) (begins_still (codes "--!>") hs c q (b []))

cut_still : (hs : List ℕ) (c : ℕ) → cut comment_mark hs ≡ None → EndsApart (codes "-->") (hs ++ c ∷ []) →
    EndsApart (codes "--!>") (hs ++ c ∷ []) → cut comment_mark (hs ++ c ∷ []) ≡ None
cut_still [] c n a b = ap (λ m. cut_here c m None) (mark_still [] c refl refl a b)
cut_still (h ∷ hs) c n a b =
    let parts = cut_parts h (comment_mark (h ∷ hs)) (cut comment_mark hs) n in
    let marks = no_marks (h ∷ hs) parts.0 in
    ap₂ (λ m l. cut_here h m l) (mark_still (h ∷ hs) c marks.0 marks.1 a b)
    (cut_still hs c parts.1 (λ front e. a (h ∷ front) (ap (λ l. h ∷ l) e))
    (λ front e. b (h ∷ front) (ap (λ l. h ∷ l) e)))

pub still_open_comment : (hs now : List ℕ) (c : ℕ) → IsOpenComment hs → now ≡ hs ++ c ∷ [] → IsNotClosed now →
    IsOpenComment now
still_open_comment hs now c held e more =
    let same : IsNotClosed (hs ++ c ∷ []) = subst IsNotClosed e more in
    subst IsOpenComment (sym e) (record {
      no_greater = begins_still (codes ">") hs c held.no_greater same.not_greater;
      no_arrow = begins_still (codes "->") hs c held.no_arrow same.not_arrow;
      no_mark = cut_still hs c held.no_mark same.not_end same.not_bang_end;
    })

-- ---- an end mark that has come

mark_more : (cs more : List ℕ) → 4 ≤ length cs → comment_mark cs ≡ None → comment_mark (cs ++ more) ≡ None
mark_more cs more long n =
    let marks = no_marks cs n in
    no_mark_by (cs ++ more) (begins_more (codes "-->") cs more (omega arith) ∙ marks.0)
    (begins_more (codes "--!>") cs more long ∙ marks.1)

dashes_mark : (x : ℕ) (front more : List ℕ) → comment_mark (x ∷ (front ++ 45 ∷ 45 ∷ [])) ≡ None →
    comment_mark (x ∷ (front ++ 45 ∷ 45 ∷ 62 ∷ more)) ≡ None
dashes_mark x [] more n = no_mark_by (x ∷ 45 ∷ 45 ∷ 62 ∷ more) (and_false (x == 45)) (and_false (x == 45))
dashes_mark x (y ∷ front) more n =
    ap (λ l. comment_mark (x ∷ y ∷ l)) (sym (append_assoc front (45 ∷ 45 ∷ []) (62 ∷ more)))
    ∙ mark_more (x ∷ y ∷ (front ++ 45 ∷ 45 ∷ [])) (62 ∷ more) (omega (arith, length-append front (45 ∷ 45 ∷ []))) n

dashes_cut : (front more : List ℕ) → cut comment_mark (front ++ 45 ∷ 45 ∷ []) ≡ None →
    cut comment_mark (front ++ 45 ∷ 45 ∷ 62 ∷ more) ≡ Some (record { slice = front; rest = more })
dashes_cut [] more n = refl
dashes_cut (x ∷ front) more n =
    let parts = cut_parts x (comment_mark (x ∷ (front ++ 45 ∷ 45 ∷ []))) (cut comment_mark (front ++ 45 ∷ 45 ∷ [])) n in
    ap₂ (λ m l. cut_here x m l) (dashes_mark x front more parts.0) (dashes_cut front more parts.1)

bang_cut : (front more : List ℕ) → cut comment_mark (front ++ 45 ∷ 45 ∷ 33 ∷ []) ≡ None →
    cut comment_mark (front ++ 45 ∷ 45 ∷ 33 ∷ 62 ∷ more) ≡ Some (record { slice = front; rest = more })
bang_cut [] more n = refl
bang_cut (x ∷ front) more n =
    let parts =
    cut_parts x (comment_mark (x ∷ (front ++ 45 ∷ 45 ∷ 33 ∷ [])))
    (cut comment_mark (front ++ 45 ∷ 45 ∷ 33 ∷ [])) n in
    let here : comment_mark (x ∷ (front ++ 45 ∷ 45 ∷ 33 ∷ 62 ∷ more)) ≡ None =
    ap (λ l. comment_mark (x ∷ l)) (sym (append_assoc front (45 ∷ 45 ∷ 33 ∷ []) (62 ∷ more)))
    ∙ mark_more (x ∷ (front ++ 45 ∷ 45 ∷ 33 ∷ [])) (62 ∷ more)
    (omega (arith, length-append front (45 ∷ 45 ∷ 33 ∷ []))) parts.0 in
    ap₂ (λ m l. cut_here x m l) here (bang_cut front more parts.1)

slice_found : (cs : List ℕ) (k : Cut) → begins (codes ">") cs ≡ false → begins (codes "->") cs ≡ false →
    cut comment_mark cs ≡ Some k → comment_slice cs ≡ k
slice_found cs k p q e =
    ap (λ b. if b then empty_comment (drop 1 cs) else (if begins (codes "->") cs then empty_comment (drop 2 cs)
    else found_or_ended (cut comment_mark cs) cs)) p
    ∙ (ap (λ b. if b then empty_comment (drop 2 cs)
    else found_or_ended (cut comment_mark cs) cs) q ∙ ap (λ o. found_or_ended o cs) e)

-- a text that is an open comment of at least two characters, with more after it
slice_of : (hs more : List ℕ) (k : Cut) → IsOpenComment hs → 2 ≤ length hs → cut comment_mark (hs ++ more) ≡ Some k →
    comment_slice (hs ++ more) ≡ k
slice_of hs more k held long e =
    slice_found (hs ++ more) k (begins_more (codes ">") hs more (omega arith) ∙ held.no_greater)
    (begins_more (codes "->") hs more long ∙ held.no_arrow) e

dashes_slice : (front more : List ℕ) → IsOpenComment (front ++ 45 ∷ 45 ∷ []) →
    comment_slice (front ++ 45 ∷ 45 ∷ 62 ∷ more) ≡ record { slice = front; rest = more }
dashes_slice front more held =
    let seam = append_assoc front (45 ∷ 45 ∷ []) (62 ∷ more) in
    ap comment_slice (sym seam)
    ∙ slice_of (front ++ 45 ∷ 45 ∷ []) (62 ∷ more) (record { slice = front; rest = more }) held
    (omega (arith, length-append front (45 ∷ 45 ∷ [])))
    (ap (cut comment_mark) seam ∙ dashes_cut front more held.no_mark)

bang_slice : (front more : List ℕ) → IsOpenComment (front ++ 45 ∷ 45 ∷ 33 ∷ []) →
    comment_slice (front ++ 45 ∷ 45 ∷ 33 ∷ 62 ∷ more) ≡ record { slice = front; rest = more }
bang_slice front more held =
    let seam = append_assoc front (45 ∷ 45 ∷ 33 ∷ []) (62 ∷ more) in
    ap comment_slice (sym seam)
    ∙ slice_of (front ++ 45 ∷ 45 ∷ 33 ∷ []) (62 ∷ more) (record { slice = front; rest = more }) held
    (omega (arith, length-append front (45 ∷ 45 ∷ 33 ∷ [])))
    (ap (cut comment_mark) seam ∙ bang_cut front more held.no_mark)

never_nil : (xs : List ℕ) (a : ℕ) → xs ++ a ∷ [] ≡ [] → ⊥
never_nil [] a e = cc
never_nil (x ∷ xs) a e = cc

fronts_same : (xs ys : List ℕ) (a b : ℕ) → xs ++ a ∷ [] ≡ ys ++ b ∷ [] → xs ≡ ys
fronts_same [] [] a b e = refl
fronts_same [] (y ∷ ys) a b e = absurd (never_nil ys b (ap (drop 1) (sym e)))
fronts_same (x ∷ xs) [] a b e = absurd (never_nil xs a (ap (drop 1) e))
fronts_same (x ∷ xs) (y ∷ ys) a b e =
    let heads : x ≡ y = cc in
    ap₂ (λ z l. z ∷ l) heads (fronts_same xs ys a b (ap (drop 1) e))

-- what was held before the last character of a mark
before_last : (hs now front mark : List ℕ) (c d : ℕ) → now ≡ hs ++ c ∷ [] → now ≡ front ++ (mark ++ d ∷ []) →
    hs ≡ front ++ mark
before_last hs now front mark c d e f =
    fronts_same hs (front ++ mark) c d (sym e ∙ (f ∙ sym (append_assoc front mark (d ∷ []))))

-- a comment's end, and what follows it
abbrev pub Closes : List ℕ → Type 0
Closes now = (slice : List ℕ) × ((rest : List ℕ) → comment_slice (now ++ rest) ≡ record { slice = slice; rest = rest })

closes : (hs now : List ℕ) (c : ℕ) → IsOpenComment hs → now ≡ hs ++ c ∷ [] → IsClosed now → Closes now
closes hs now c held e (inl is) = ([], λ rest. ap (λ l. comment_slice (l ++ rest)) is)
closes hs now c held e (inr (inl is)) = ([], λ rest. ap (λ l. comment_slice (l ++ rest)) is)
closes hs now c held e (inr (inr (inl f))) =
    let same : IsOpenComment (f.0 ++ 45 ∷ 45 ∷ []) =
    subst IsOpenComment (before_last hs now f.0 (45 ∷ 45 ∷ []) c 62 e f.1) held in (
      f.0,
      λ rest. ap (λ l. comment_slice (l ++ rest)) f.1
          ∙ (ap comment_slice (append_assoc f.0 (45 ∷ 45 ∷ 62 ∷ []) rest) ∙ dashes_slice f.0 rest same),
    )
closes hs now c held e (inr (inr (inr f))) =
    let same : IsOpenComment (f.0 ++ 45 ∷ 45 ∷ 33 ∷ []) =
    subst IsOpenComment (before_last hs now f.0 (45 ∷ 45 ∷ 33 ∷ []) c 62 e f.1) held in (
      f.0,
      λ rest. ap (λ l. comment_slice (l ++ rest)) f.1
          ∙ (ap comment_slice (append_assoc f.0 (45 ∷ 45 ∷ 33 ∷ 62 ∷ []) rest) ∙ bang_slice f.0 rest same),
    )

pub comment_over : (table : References) (foreign : Bool) (mode : Mode) (hs now : List ℕ) (c : ℕ) → IsOpenComment hs →
    now ≡ hs ++ c ∷ [] → IsClosed now → IsOver table foreign mode Comment now []
comment_over table foreign mode hs now c held e closed =
    let end = closes hs now c held e closed in
    over_by table foreign mode Comment now _ mode (λ rest. ap (comment_lexeme mode) (end.1 rest))

-- ---- the tests on bytes

ends_is : (mark text : List ℕ) (r : Bool) → IsUtf8 text → IsUtf8 mark →
    MatchBool r (HasSuffixMatch (FindsTextSuffix mark) text) (FindsTextSuffix mark text None) →
    MatchBool r (EndsWith (chars mark) (chars text)) (EndsApart (chars mark) (chars text))
ends_is mark text true u v h =
    (chars _, ap chars h.1.1 ∙ chars-append _ mark (front_text text _ mark u v h.1.1))
ends_is mark text false u v h =
    λ front e.
    h (encode_utf8_all front) (sym (encodes-chars text u)
    ∙ (ap encode_utf8_all e
    ∙ (encodes-append front (chars mark) ∙ ap (λ l. encode_utf8_all front ++ l) (encodes-chars mark v))))

apart_chars : (a b : List ℕ) → IsUtf8 a → IsUtf8 b → a ≢ b → chars a ≢ chars b
apart_chars a b u v h e = h (sym (encodes-chars a u) ∙ (ap encode_utf8_all e ∙ encodes-chars b v))

pub closed_first : (cs : List ℕ) (r : Bool) → r ≡ true →
    MatchBool r (EndsWith (codes "-->") cs) (EndsApart (codes "-->") cs) → MatchBool r (IsClosed cs) (IsNotClosed cs)
closed_first cs true e h = inr (inr (inl h))
closed_first cs false e h = absurd cc

pub closed_second : (cs : List ℕ) (r s : Bool) → cs ≢ codes ">" → cs ≢ codes "->" → r ≡ false →
    MatchBool r (EndsWith (codes "-->") cs) (EndsApart (codes "-->") cs) →
    MatchBool s (EndsWith (codes "--!>") cs) (EndsApart (codes "--!>") cs) → MatchBool s (IsClosed cs) (IsNotClosed cs)
closed_second cs true s a b e h k = absurd cc
closed_second cs false true a b e h k = inr (inr (inr k))
closed_second cs false false a b e h k = record { not_greater = a; not_arrow = b; not_end = h; not_bang_end = k }

pub ends_at : (mark text : List ℕ) (r : Bool) → IsUtf8 text → IsUtf8 mark → chars mark ≡ mark →
    MatchBool r (HasSuffixMatch (FindsTextSuffix mark) text) (FindsTextSuffix mark text None) →
    MatchBool r (EndsWith mark (chars text)) (EndsApart mark (chars text))
ends_at mark text r u v e h =
    subst (λ m. MatchBool r (EndsWith m (chars text)) (EndsApart m (chars text))) e (ends_is mark text r u v h)

pub apart_at : (mark text : List ℕ) → IsUtf8 text → IsUtf8 mark → chars mark ≡ mark → text ≢ mark → chars text ≢ mark
apart_at mark text u v e h = subst (λ m. chars text ≢ m) e (apart_chars text mark u v h)

pub closed_when : (text : List ℕ) → (text ≡ codes ">") ⊎ (text ≡ codes "->") → IsClosed (chars text)
closed_when text (inl e) = inl (ap chars e ∙ greater_codes)
closed_when text (inr e) = inr (inl (ap chars e ∙ arrow_codes))
