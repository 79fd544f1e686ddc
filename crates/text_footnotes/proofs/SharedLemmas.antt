-- Where links to equal targets share a footnote, each target has one, and numbers stay.
use Rattle.std.proofs.Common.{◌≡◌, ◌+◌, ◌-◌, ◌||◌, [], ◌∷◌, ◌++◌, ◌∙◌, Bool, List, None, Option, Some, ap, arith, cond}
use Rattle.std.proofs.Common.{false, fold, refl, slice_get, sym, true, ℕ}
use Rattle.std.proofs.lemmas.List.Folds.{find_at}
use Rattle.std.proofs.lemmas.List.Sums.{fold-append, sum_by-append, sum_by-cons}
use Rattle.std.specs.Cmp.Lexicographic.{bytes_decides, nat_list_eq_equiv}
use Rattle.std.specs.List.{count_by, find, last_or, position_or_len}
use Rattle.text_pieces.specs.Sources.{is_filled}
use Rattle.text_footnotes.specs.Targets.{distinct, has_text, is_same_text, last_number, number_among, with_text}
use Rattle.text_footnotes.proofs.TextLemmas.{has_distinct, has_push, has_same, has_with_at, number_found}

-- ---- how often

abbrev one_where : Bool → ℕ
one_where b = cond b 1 0

abbrev IsOnce : List (List ℕ) → Type 0
IsOnce texts = (t : List ℕ) → count_by (is_same_text t) texts ≡ one_where (has_text texts t)

counted_push : (p : List ℕ → Bool) (texts : List (List ℕ)) (u : List ℕ) →
    count_by p (texts ++ u ∷ []) ≡ count_by p texts + one_where (p u)
counted_push p texts u = omega (
  arith,
  sum_by-append (λ t. one_where (p t)) texts (u ∷ []),
  sum_by-cons (λ t. one_where (p t)) u [],
)

-- a new text more
once_more : (texts : List (List ℕ)) (u t : List ℕ) (had has same : Bool) → has_text texts u ≡ had → had ≡ false →
    has_text texts t ≡ has → is_same_text t u ≡ same → one_where has + one_where same ≡ one_where (has || same)
once_more texts u t had true true new none has same = cc (has_same texts t u same, has, new, none)
once_more texts u t had true false new none has same = refl
once_more texts u t had false same new none has is = omega arith

once_with : (texts : List (List ℕ)) (u : List ℕ) (had : Bool) → has_text texts u ≡ had → IsOnce texts →
    IsOnce (cond had texts (texts ++ u ∷ []))
once_with texts u true new once t = once t
once_with texts u false new once t =
    counted_push (is_same_text t) texts u ∙ ap (λ n. n + one_where (is_same_text t u)) (once t)
    ∙ once_more texts u t false (has_text texts t) (is_same_text t u) new refl refl refl
    ∙ ap one_where (sym (has_push texts u t))

once_fold : (held texts : List (List ℕ)) → IsOnce held → IsOnce (fold with_text held texts)
once_fold held [] once = once
once_fold held (u ∷ texts) once =
    once_fold (with_text held u) texts (once_with held u (has_text held u) refl once)

pub counted_once : (targets : List (List ℕ)) (target : List ℕ) →
    count_by (is_same_text target) (distinct targets) ≡ one_where (has_text targets target)
counted_once targets target =
    once_fold [] targets (λ t. refl) target ∙ ap one_where (has_distinct targets target)

-- ---- which number

last_pushed : (first : Option (List ℕ)) (texts : List (List ℕ)) (t : List ℕ) →
    last_or first (texts ++ t ∷ []) ≡ Some t
last_pushed first [] t = refl
last_pushed first (u ∷ texts) t = last_pushed (Some u) texts t

found : (texts : List (List ℕ)) (t : List ℕ) → has_text texts t ≡ true → find (is_same_text t) texts ≡ Some t
found [] t has = cc has
found (u ∷ texts) t has = at (is_same_text t u) refl has (λ e. found texts t e)
  where
    at : (same : Bool) → is_same_text t u ≡ same → (same || has_text texts t) ≡ true →
        (has_text texts t ≡ true → find (is_same_text t) texts ≡ Some t) →
        cond same (Some u) (find (is_same_text t) texts) ≡ Some t
    at true same has later = ap Some (sym ((bytes_decides t u).0 same))
    at false same has later = later has

has_last : (texts : List (List ℕ)) (t : List ℕ) → has_text (texts ++ t ∷ []) t ≡ true
has_last texts t = has_push texts t t ∙ either (has_text texts t)
  where
    either : (b : Bool) → (b || is_same_text t t) ≡ true
    either true = refl
    either false = nat_list_eq_equiv.refl t

pub is_at_number : (targets : List (List ℕ)) (target : List ℕ) →
    slice_get (distinct (targets ++ target ∷ [])) (last_number true (targets ++ target ∷ []) - 1) ≡ Some target
is_at_number targets target =
    let all = distinct (targets ++ target ∷ []) in
    let place = position_or_len (is_same_text target) all in
    let one : number_among all (Some target) - 1 ≡ place = omega arith in
    ap (λ last. slice_get all (number_among all last - 1)) (last_pushed None targets target)
    ∙ ap (slice_get all) one ∙ sym (find_at (is_same_text target) all)
    ∙ found all target (has_distinct (targets ++ target ∷ []) target ∙ has_last targets target)

number_with : (held : List (List ℕ)) (u t : List ℕ) (had : Bool) → has_text held t ≡ true →
    number_among (cond had held (held ++ u ∷ [])) (Some t) ≡ number_among held (Some t)
number_with held u t true has = refl
number_with held u t false has = number_found held u t has

number_kept : (held more : List (List ℕ)) (t : List ℕ) → has_text held t ≡ true →
    number_among (fold with_text held more) (Some t) ≡ number_among held (Some t)
number_kept held [] t has = refl
number_kept held (u ∷ more) t has =
    number_kept (with_text held u) more t (has_with_at held u t (has_text held u) refl ∙
    ap (λ b. b || is_same_text t u) has)
    ∙ number_with held u t (has_text held u) has

pub number_stays : (targets more : List (List ℕ)) (target : List ℕ) → has_text targets target ≡ true →
    number_among (distinct (targets ++ more)) (Some target) ≡ number_among (distinct targets) (Some target)
number_stays targets more target has =
    ap (λ texts. number_among texts (Some target)) (fold-append with_text [] targets more)
    ∙ number_kept (distinct targets) more target (has_distinct targets target ∙ has)

-- ---- whether there is one

filled_with : (held : List (List ℕ)) (u : List ℕ) (had : Bool) → is_filled held ≡ true →
    is_filled (cond had held (held ++ u ∷ [])) ≡ true
filled_with held u true some = some
filled_with [] u false some = refl
filled_with (t ∷ held) u false some = refl

filled_fold : (held texts : List (List ℕ)) → is_filled held ≡ true → is_filled (fold with_text held texts) ≡ true
filled_fold held [] some = some
filled_fold held (u ∷ texts) some =
    filled_fold (with_text held u) texts (filled_with held u (has_text held u) some)

pub some_distinct : (targets : List (List ℕ)) → is_filled (distinct targets) ≡ is_filled targets
some_distinct [] = refl
some_distinct (t ∷ targets) = filled_fold (t ∷ []) targets refl
