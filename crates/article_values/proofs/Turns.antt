-- A turn of the check of inline contents.
use Rattle.std.proofs.Common.{◌≡◌, [], ◌∷◌, ◌+◌, ◌<◌, ◌∙◌, ◌==◌, Bool, Global, IsUtf8, List, None, Option, Some, String}
use Rattle.std.proofs.Common.{Vec, add-one, ap, chars, drop, drop-cons, encode_utf8_all, false, get_or, length, not}
use Rattle.std.proofs.Common.{refl, string_bytes, suc, sym, true, ℕ}
use Rattle.std.proofs.lemmas.Bool.{eqb-true}
use Rattle.std.proofs.lemmas.List.{nil_from_length}
use Rattle.std.proofs.lemmas.Str.{chars-nil, encodes-chars}
use Rattle.std.specs.Option.{option_or}
use Rattle.article_values.specs.Articles.{Inlines, Style, bold, code, emphasis, italic, link, no_inlines, span, strong}
use Rattle.article_values.specs.Articles.{words}
use Rattle.article_values.specs.Faults.{fault_of_inlines, has_forbidden, fault_where, is_filled, is_too_deep}
use Rattle.article_values.specs.Outcomes.{begins_with_text}
use Rattle.article_values.specs.Views.{inline_step, inline_view, inlines_view}
use Rattle.article_values.specs.declared.error.ArticleError.{ArticleError}
use Rattle.article_values.specs.declared.error.ArticleError.TheVariants.{EmptyText, ForbiddenCharacter, NeighbourTexts}
use Rattle.article_values.specs.declared.error.ArticleError.TheVariants.{TooDeep}
use Rattle.article_values.specs.declared.values.Inline.{Inline}
use Rattle.article_values.specs.declared.values.Inline.TheFolds.{fold-roll-Inline}
use Rattle.article_values.specs.declared.values.Inline.TheOpen.{Inline-F}
use Rattle.article_values.specs.declared.values.Inline.TheVariants.{rolls-Bold, rolls-Code, rolls-Emphasis}
use Rattle.article_values.specs.declared.values.Inline.TheVariants.{rolls-Italic, rolls-Link, rolls-Strong}
use Rattle.article_values.specs.declared.values.Inline.TheViews as views

pub span_case : (v : Inline) (d : ℕ) (l b : Bool) (contents slice : List Inline) (style : Style)
    (emitted : Option ArticleError)
    (rest : Inlines) → ((r : Inlines) → inline_view v r ≡ span style (inlines_view contents) r) → slice ≡ contents →
    ((b : Bool) (style : Style) (rest : Inlines) → fault_of_inlines d l b (span style (inlines_view slice) rest)
    ≡ option_or emitted (fault_of_inlines d l false rest)) →
    fault_of_inlines d l b (inline_view v rest)
    ≡ option_or emitted (fault_of_inlines d l (begins_with_text (inline_view v no_inlines)) rest)
span_case v d l b contents slice style emitted rest seen e h =
    ap (fault_of_inlines d l b) (seen rest)
    ∙ ap (λ ks. fault_of_inlines d l b (span style (inlines_view ks) rest)) (sym e)
    ∙ h b style rest
    ∙ ap (λ t. option_or emitted (fault_of_inlines d l t rest)) (sym (ap begins_with_text (seen no_inlines)))

pub link_case : (v : Inline) (d : ℕ) (l b : Bool) (target text : List ℕ) (contents slice : List Inline)
    (emitted : Option ArticleError) (rest : Inlines) →
    ((r : Inlines) → inline_view v r ≡ link target (inlines_view contents) r) → slice ≡ contents → text ≡ target →
    ((b : Bool) (rest : Inlines) → fault_of_inlines d l b (link text (inlines_view slice) rest)
    ≡ option_or emitted (fault_of_inlines d l false rest)) →
    fault_of_inlines d l b (inline_view v rest)
    ≡ option_or emitted (fault_of_inlines d l (begins_with_text (inline_view v no_inlines)) rest)
link_case v d l b target text contents slice emitted rest seen e f h =
    ap (fault_of_inlines d l b) (seen rest)
    ∙ ap (λ ks. fault_of_inlines d l b (link target (inlines_view ks) rest)) (sym e)
    ∙ ap (λ t. fault_of_inlines d l b (link t (inlines_view slice) rest)) (sym f)
    ∙ h b rest ∙ ap (λ t. option_or emitted (fault_of_inlines d l t rest)) (sym (ap begins_with_text (seen no_inlines)))

-- ---- a text

no_text : (cs : List ℕ) → length cs ≡ 0 → not (is_filled cs) ≡ true
no_text [] e = refl
no_text (c ∷ cs) e = absurd (let wrong : suc (length cs) ≡ 0 = e in cc)

pub if_true : (b : Bool) (e : ArticleError) (later : Option ArticleError) → b ≡ true → fault_where b e later ≡ Some e
if_true b e later h = ap (λ b. fault_where b e later) h

pub if_false : (b : Bool) (e : ArticleError) (later : Option ArticleError) → b ≡ false → fault_where b e later ≡ later
if_false b e later h = ap (λ b. fault_where b e later) h

pub or_apart : (b : Bool) (e : ArticleError) (later : Option ArticleError) →
    fault_where b e later ≡ option_or (fault_where b e None) later
or_apart true e later = refl
or_apart false e later = refl

-- ---- turns

turn : (all : List Inline) (i : ℕ) (x : Inline) → i < length all → x ≡ get_or all i x →
    inlines_view (drop i all) ≡ inline_view x (inlines_view (drop (i + 1) all))
turn all i x h is = ap inlines_view (first all i x h is) where
  first : (all : List Inline) (i : ℕ) (x : Inline) → i < length all → x ≡ get_or all i x →
      drop i all ≡ x ∷ drop (i + 1) all
  first all i x h is = rw (add-one, drop-cons all i x h) (ap (λ y. y ∷ drop (suc i) all) (sym is))

module _ (d : ℕ) (l : Bool) (all : List Inline) (i : ℕ) (b : Bool) (x : Inline) (emitted : Option ArticleError)
    (whole : fault_of_inlines d l false (inlines_view all) ≡ fault_of_inlines d l b (inlines_view (drop i all)))
    (h : i < length all) (is : x ≡ get_or all i x)
    (one : (rest : Inlines) → fault_of_inlines d l b (inline_view x rest)
    ≡ option_or emitted (fault_of_inlines d l (begins_with_text (inline_view x no_inlines)) rest)) where
  step : fault_of_inlines d l false (inlines_view all)
      ≡ option_or emitted
      (fault_of_inlines d l (begins_with_text (inline_view x no_inlines)) (inlines_view (drop (i + 1) all)))
  step = whole ∙ ap (fault_of_inlines d l b) (turn all i x h is) ∙ one (inlines_view (drop (i + 1) all))

  pub goes_on : (text : Bool) → emitted ≡ None → text ≡ begins_with_text (inline_view x no_inlines) →
      fault_of_inlines d l false (inlines_view all) ≡ fault_of_inlines d l text (inlines_view (drop (i + 1) all))
  goes_on text none t =
      step
      ∙ ap (λ o. option_or o
      (fault_of_inlines d l (begins_with_text (inline_view x no_inlines)) (inlines_view (drop (i + 1) all)))) none
      ∙ ap (λ t. fault_of_inlines d l t (inlines_view (drop (i + 1) all))) (sym t)

  pub stops : (e : ArticleError) → emitted ≡ Some e → Some e ≡ fault_of_inlines d l false (inlines_view all)
  stops e some = sym (step
      ∙ ap (λ o. option_or o
      (fault_of_inlines d l (begins_with_text (inline_view x no_inlines)) (inlines_view (drop (i + 1) all)))) some)

pub ends : (d : ℕ) (l : Bool) (all : List Inline) (i : ℕ) (b : Bool) →
    fault_of_inlines d l false (inlines_view all) ≡ fault_of_inlines d l b (inlines_view (drop i all)) →
    drop i all ≡ [] →
    None ≡ fault_of_inlines d l false (inlines_view all)
ends d l all i b whole e = sym (whole ∙ ap (λ k. fault_of_inlines d l b (inlines_view k)) e)

-- ---- what is seen of each variant
module _ (contents : Vec Inline Global) (r : Inlines) where
  pub seen_bold : inline_view (views.Bold contents) r ≡ span bold (inlines_view contents.items) r
  seen_bold = ap (λ v. inline_view v r) (sym (rolls-Bold contents))
      ∙ ap (λ f. f r) (fold-roll-Inline (Inlines → Inlines) inline_step (Inline-F.Bold contents))

  pub seen_italic : inline_view (views.Italic contents) r ≡ span italic (inlines_view contents.items) r
  seen_italic = ap (λ v. inline_view v r) (sym (rolls-Italic contents))
      ∙ ap (λ f. f r) (fold-roll-Inline (Inlines → Inlines) inline_step (Inline-F.Italic contents))

  pub seen_emphasis : inline_view (views.Emphasis contents) r ≡ span emphasis (inlines_view contents.items) r
  seen_emphasis = ap (λ v. inline_view v r) (sym (rolls-Emphasis contents))
      ∙ ap (λ f. f r) (fold-roll-Inline (Inlines → Inlines) inline_step (Inline-F.Emphasis contents))

  pub seen_code : inline_view (views.Code contents) r ≡ span code (inlines_view contents.items) r
  seen_code = ap (λ v. inline_view v r) (sym (rolls-Code contents))
      ∙ ap (λ f. f r) (fold-roll-Inline (Inlines → Inlines) inline_step (Inline-F.Code contents))

  pub seen_strong : inline_view (views.Strong contents) r ≡ span strong (inlines_view contents.items) r
  seen_strong = ap (λ v. inline_view v r) (sym (rolls-Strong contents))
      ∙ ap (λ f. f r) (fold-roll-Inline (Inlines → Inlines) inline_step (Inline-F.Strong contents))

  pub seen_link : (target : String Global) → inline_view (views.Link target contents) r
      ≡ link (chars (string_bytes target)) (inlines_view contents.items) r
  seen_link target = ap (λ v. inline_view v r) (sym (rolls-Link target contents))
      ∙ ap (λ f. f r) (fold-roll-Inline (Inlines → Inlines) inline_step (Inline-F.Link target contents))

-- ---- the check of a text
pub text_case : (cs : List ℕ) (d : ℕ) (l b : Bool) (rest : Inlines) (emitted : Option ArticleError) →
    not (is_filled cs) ≡ false → b ≡ false → has_forbidden cs ≡ false →
    emitted ≡ fault_where (is_too_deep d) TooDeep None →
    fault_of_inlines d l b (words cs rest) ≡ option_or emitted (fault_of_inlines d l true rest)
text_case cs d l b rest emitted e f g t =
    let last : Option ArticleError = fault_of_inlines d l true rest in
    let deep : Option ArticleError = fault_where (is_too_deep d) TooDeep last in
    let characters : Option ArticleError = fault_where (has_forbidden cs) ForbiddenCharacter deep in
    if_false (not (is_filled cs)) EmptyText (fault_where b NeighbourTexts characters) e
    ∙ if_false b NeighbourTexts characters f ∙ if_false (has_forbidden cs) ForbiddenCharacter deep g
    ∙ or_apart (is_too_deep d) TooDeep last ∙ ap (λ o. option_or o last) (sym t)

empty_text : (bs : List ℕ) → (length bs == 0) ≡ true → not (is_filled (chars bs)) ≡ true
empty_text bs e = ap (λ cs. not (is_filled cs)) (ap chars (nil_from_length bs (eqb-true (length bs) 0 e)) ∙ chars-nil)

some_text : (bs : List ℕ) → IsUtf8 bs → (length bs == 0) ≡ false → not (is_filled (chars bs)) ≡ false
some_text bs u e = by (chars bs) refl where
  by : (cs : List ℕ) → chars bs ≡ cs → not (is_filled cs) ≡ false
  by [] k = absurd (let bytes : bs ≡ [] = sym (encodes-chars bs u) ∙ ap encode_utf8_all k in
      let wrong : true ≡ false = sym (ap (λ xs. length xs == 0) bytes) ∙ e in cc)
  by (c ∷ cs) k = refl

pub empty_case : (bs : List ℕ) (later : Option ArticleError) → (length bs == 0) ≡ true →
    fault_where (not (is_filled (chars bs))) EmptyText later ≡ Some EmptyText
empty_case bs later e = if_true (not (is_filled (chars bs))) EmptyText later (empty_text bs e)

pub after_case : (bs : List ℕ) (b : Bool) (later : Option ArticleError) → IsUtf8 bs → (length bs == 0) ≡ false →
    b ≡ true →
    fault_where (not (is_filled (chars bs))) EmptyText (fault_where b NeighbourTexts later) ≡ Some NeighbourTexts
after_case bs b later u e f = if_false (not (is_filled (chars bs))) EmptyText (fault_where b NeighbourTexts later)
    (some_text bs u e)
    ∙ if_true b NeighbourTexts later f

pub some_case : (bs : List ℕ) → IsUtf8 bs → (length bs == 0) ≡ false → not (is_filled (chars bs)) ≡ false
some_case = some_text
