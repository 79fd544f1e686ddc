-- Characters of a body that are added all at once.
use Rattle.std.proofs.Common.{◌≡◌, ◌+◌, ◌≤◌, [], ◌∷◌, ◌++◌, if◌then◌else◌, ◌∙◌, Bool, List, ap, append-nil}
use Rattle.std.proofs.Common.{append_assoc, arith, false, inl, inr, refl, subst, sym, true, ℕ}
use Rattle.std.specs.Prelude.{not, ◌||◌, ◌&&◌, nat_lt, nat_le}
use Rattle.std.proofs.lemmas.List.{map-append}
use Rattle.std.proofs.lemmas.List.Sums.{fold-append, sum_by-cons}
use Rattle.text_lines.specs.Columns.{width_of, text_columns}
use Rattle.text_lines.specs.Tagged.{Item, character, tagged, line_columns}
use Rattle.text_pieces.specs.Sources.{letter, sourced}
use Rattle.text_preserved.specs.Preserved.{Kind, Laying, chosen, cut, fresh, kind_of, nothing, put, put_all, solid, tab}
use Rattle.text_preserved.specs.Preserved.{taken, white, with_room, written}
use Rattle.text_preserved.specs.Pass.{Pass, begins, entered, lettered, passes, read_all, read_at, read_letter}
use Rattle.text_preserved.specs.Pass.{read_source}
use Rattle.text_preserved.specs.Fronts.{BeginsSolid, Fits, IsSteady, JoinsBody, all_lettered, goes_on_with, has_wider}
use Rattle.text_preserved.specs.Fronts.{run_lettered}
use Rattle.text_preserved.proofs.ColumnLemmas.{lt_is_false, le_is_true}
use Rattle.text_pieces.proofs.ItemColumns.{line_columns-append}

-- ---- reading

-- where a body has begun, such a character is one of its letters
joined : {S : Type 0} (k : Kind) (wraps begun : Bool) (c : ℕ) (main further : S) (p : Pass S) → p.begun ≡ true
    → begun ≡ true → goes_on_with wraps k ≡ true
    → read_at k (not wraps && begun) c main further p ≡ lettered c main further p
joined solid wraps begun c main further p is has goes =
    ap (λ b. lettered c main further (if b then p else entered p)) is
joined white false true c main further p is has goes =
    ap (λ b. lettered c main further (if b then p else entered p)) is
joined white false false c main further p is has goes = cc
joined white true begun c main further p is has goes = cc
joined tab wraps begun c main further p is has goes = cc
joined cut wraps begun c main further p is has goes = cc
joined nothing wraps begun c main further p is has goes = cc

pub body_read : {S : Type 0} (cs : List ℕ) (main further : S) (p : Pass S) → p.begun ≡ true
    → JoinsBody p.width p.wraps cs → read_all p (sourced cs main further) ≡ all_lettered cs main further p
body_read [] main further p is joins = refl
body_read (c ∷ cs) main further p is joins =
    ap (λ q. read_all q (sourced cs main further))
    (joined (kind_of p.width p.wraps c) p.wraps p.begun c main further p is is joins.0)
    ∙ body_read cs main further (lettered c main further p) is joins.1

-- a character that is solid begins a body, where none has begun
begun_before : {S : Type 0} (c : ℕ) (main further : S) (p : Pass S) (b : Bool) → p.begun ≡ b
    → kind_of p.width p.wraps c ≡ solid
    → read_letter c main further (if b then p else entered p) ≡ read_letter c main further p
begun_before c main further p true e is = refl
begun_before c main further p false e is =
    ap (λ k. read_at k (not p.wraps && true) c main further (entered p)) is
    ∙ ap (λ b. lettered c main further (if b then p else entered p)) (sym e)
    ∙ ap (λ k. read_at k (not p.wraps && p.begun) c main further p) (sym is)

pub body_begun : {S : Type 0} (cs : List ℕ) (main further : S) (p q : Pass S) → BeginsSolid p.width p.wraps cs
    → q ≡ begins p → read_all q (sourced cs main further) ≡ read_all p (sourced cs main further)
body_begun cs main further p q first is =
    ap (λ x. read_all x (sourced cs main further)) is
    ∙ ap (λ l. read_all (begins p) (sourced l main further)) first.whole
    ∙ ap (λ x. read_all x (sourced first.after main further))
    (begun_before first.first main further p p.begun refl first.is_solid)
    ∙ ap (λ l. read_all p (sourced l main further)) (sym first.whole)

-- what is left reads on to the same
pub body_left : {S : Type 0} (here trailing all : List ℕ) (main further : S) (p q : Pass S) → all ≡ here ++ trailing
    → p.begun ≡ true → JoinsBody p.width p.wraps here → q ≡ all_lettered here main further p
    → read_all q (sourced trailing main further) ≡ read_all p (sourced all main further)
body_left here trailing all main further p q whole is joins read =
    ap (λ x. read_all x (sourced trailing main further)) (read ∙ sym (body_read here main further p is joins))
    ∙ sym (fold-append read_source p (sourced here main further) (sourced trailing main further))
    ∙ ap (read_all p) (sym (map-append (λ c. letter c main further) here trailing))
    ∙ ap (λ cs. read_all p (sourced cs main further)) (sym whole)

-- ---- characters that leave the tag as it is

pub or_none : (b : Bool) → (b || false) ≡ b
or_none true = refl
or_none false = refl

pub or_assoc : (a b c : Bool) → ((a || b) || c) ≡ (a || (b || c))
or_assoc true b c = refl
or_assoc false b c = refl

-- one character, where the tag stays
one_stays : {S : Type 0} (c : ℕ) (main further : S) (p : Pass S) → passes c p ≡ p.goes_on
    → lettered c main further p ≡ run_lettered (c ∷ []) (chosen p.goes_on main further) p
one_stays c main further p stays =
    ap (λ b. record p {
      word = p.word ++ character c (chosen b main further) ∷ [];
      goes_on = b;
      wide = p.wide || nat_lt p.width (width_of c);
    }) stays
    ∙ ap (λ b. record p {
      word = p.word ++ character c (chosen p.goes_on main further) ∷ [];
      wide = p.wide || b;
    }) (sym (or_none (nat_lt p.width (width_of c))))

run_after : {S : Type 0} (c : ℕ) (cs : List ℕ) (tag : S) (p : Pass S)
    → run_lettered cs tag (run_lettered (c ∷ []) tag p) ≡ run_lettered (c ∷ cs) tag p
run_after c cs tag p =
    ap (λ items. record p {
      word = items;
      wide = (p.wide || (nat_lt p.width (width_of c) || false)) || has_wider p.width cs;
    }) (append_assoc p.word (character c tag ∷ []) (tagged cs tag))
    ∙ ap (λ b. record p { word = p.word ++ tagged (c ∷ cs) tag; wide = b })
    (ap (λ b. (p.wide || b) || has_wider p.width cs) (or_none (nat_lt p.width (width_of c)))
    ∙ or_assoc p.wide (nat_lt p.width (width_of c)) (has_wider p.width cs))

no_run : {S : Type 0} (p : Pass S) (tag : S) → p ≡ run_lettered [] tag p
no_run p tag = ap (λ items. record p { word = items }) (sym (append-nil p.word))
    ∙ ap (λ b. record p { word = p.word ++ []; wide = b }) (sym (or_none p.wide))

stays_on : (on wraps wide : Bool) → (on || wraps) ≡ true → (on || (not wraps && wide)) ≡ on
stays_on true wraps wide h = refl
stays_on false true wide h = refl
stays_on false false wide h = cc

-- where the source line was wrapped before, or lines break at white space, the tag stays
still_on : {S : Type 0} (c : ℕ) (p : Pass S) → (p.goes_on || p.wraps) ≡ true → passes c p ≡ p.goes_on
still_on c p h = stays_on p.goes_on p.wraps (nat_lt p.width (taken p.rows + line_columns p.word + width_of c)) h

pub steady_on : {S : Type 0} (cs : List ℕ) (p : Pass S) → (p.goes_on || p.wraps) ≡ true → IsSteady cs p
steady_on [] p h main further = no_run p (chosen p.goes_on main further)
steady_on (c ∷ cs) p h main further =
    ap (all_lettered cs main further) (one_stays c main further p (still_on c p h))
    ∙ steady_on cs (run_lettered (c ∷ []) (chosen p.goes_on main further) p) h main further
    ∙ run_after c cs (chosen p.goes_on main further) p

stays_off : (on wraps wide : Bool) → on ≡ false → wide ≡ false → (on || (not wraps && wide)) ≡ on
stays_off true wraps wide h f = cc
stays_off false true wide h f = refl
stays_off false false wide h f = f

-- characters that go on the line after it stay within it
within : {S : Type 0} (c : ℕ) (p : Pass S) → p.goes_on ≡ false
    → taken p.rows + line_columns p.word + width_of c ≤ p.width → passes c p ≡ p.goes_on
within c p off fits =
    stays_off p.goes_on p.wraps (nat_lt p.width (taken p.rows + line_columns p.word + width_of c)) off
    (lt_is_false p.width (taken p.rows + line_columns p.word + width_of c) fits)

steady_within : {S : Type 0} (cs : List ℕ) (p : Pass S) → p.goes_on ≡ false
    → taken p.rows + line_columns p.word + text_columns cs ≤ p.width → IsSteady cs p
steady_within [] p off fits main further = no_run p (chosen p.goes_on main further)
steady_within (c ∷ cs) p off fits main further =
    let tag = chosen p.goes_on main further in
    let both = sum_by-cons width_of c cs in
    let one = line_columns-append p.word (character c tag ∷ []) in
    let alone = sum_by-cons width_of c [] in
    ap (all_lettered cs main further) (one_stays c main further p (within c p off (omega (arith, fits, both))))
    ∙ steady_within cs (run_lettered (c ∷ []) tag p) off (omega (arith, fits, both, one, alone)) main further
    ∙ run_after c cs tag p

pub steady_front : {S : Type 0} (cs : List ℕ) (p : Pass S) → p.goes_on ≡ false
    → Fits p.width (taken p.rows + line_columns p.word) cs → IsSteady cs p
steady_front cs p off (inl none) main further =
    ap (λ ds. all_lettered ds main further p) none ∙ no_run p (chosen p.goes_on main further)
    ∙ ap (λ ds. run_lettered ds (chosen p.goes_on main further) p) (sym none)
steady_front cs p off (inr fits) main further = steady_within cs p off fits main further

-- what is left comes to the same
pub letters_left : {S : Type 0} (here trailing all : List ℕ) (main further : S) (p q : Pass S) → all ≡ here ++ trailing
    → IsSteady here p → q ≡ run_lettered here (chosen p.goes_on main further) p
    → all_lettered trailing main further q ≡ all_lettered all main further p
letters_left here trailing all main further p q whole steady added =
    ap (all_lettered trailing main further) (added ∙ sym (steady main further))
    ∙ sym (fold-append (λ x c. lettered c main further x) p here trailing)
    ∙ ap (λ cs. all_lettered cs main further p) (sym whole)

-- ---- characters that go on the line at hand

room_here : {S : Type 0} (width n : ℕ) (r : Laying S) (items : List (Item S))
    → nat_le (line_columns r.line + line_columns r.tail + n) width ≡ true
    → written (with_room width n r) items ≡ written r items
room_here width n r items here = ap (λ b. written (if b then r else fresh r) items) here

stays_here : {S : Type 0} (width : ℕ) (r : Laying S) (c : ℕ) (tag : S) → r.tail ≡ []
    → line_columns r.line + width_of c ≤ width
    → put width r (character c tag) ≡ record r { line = r.line ++ character c tag ∷ [] }
stays_here width r c tag none fits =
    let here : nat_le (line_columns r.line + line_columns r.tail + width_of c) width ≡ true
    = le_is_true (line_columns r.line + line_columns r.tail + width_of c) width
    (omega (arith, fits, ap line_columns none)) in
    room_here width (width_of c) r (character c tag ∷ []) here
    ∙ ap (λ t. record r { line = (r.line ++ t) ++ character c tag ∷ []; tail = [] }) none
    ∙ ap (λ l. record r { line = l ++ character c tag ∷ []; tail = [] }) (append-nil r.line)
    ∙ ap (λ t. record r { line = r.line ++ character c tag ∷ []; tail = t }) (sym none)

put_within : {S : Type 0} (width : ℕ) (cs : List ℕ) (tag : S) (r : Laying S) → r.tail ≡ []
    → line_columns r.line + text_columns cs ≤ width
    → put_all width r (tagged cs tag) ≡ record r { line = r.line ++ tagged cs tag }
put_within width [] tag r none fits = ap (λ l. record r { line = l }) (sym (append-nil r.line))
put_within width (c ∷ cs) tag r none fits =
    let both = sum_by-cons width_of c cs in
    let one = line_columns-append r.line (character c tag ∷ []) in
    let alone = sum_by-cons width_of c [] in
    ap (λ x. put_all width x (tagged cs tag)) (stays_here width r c tag none (omega (arith, fits, both)))
    ∙ put_within width cs tag (record r { line = r.line ++ character c tag ∷ [] }) none
    (omega (arith, fits, both, one, alone))
    ∙ ap (λ l. record r { line = l }) (append_assoc r.line (character c tag ∷ []) (tagged cs tag))

put_fitting : {S : Type 0} (width : ℕ) (cs : List ℕ) (tag : S) (r : Laying S) → r.tail ≡ []
    → Fits width (line_columns r.line) cs
    → put_all width r (tagged cs tag) ≡ record r { line = r.line ++ tagged cs tag }
put_fitting width cs tag r none (inl empty) =
    ap (λ ds. put_all width r (tagged ds tag)) empty
    ∙ ap (λ l. record r { line = l }) (sym (append-nil r.line))
    ∙ ap (λ ds. record r { line = r.line ++ tagged ds tag }) (sym empty)
put_fitting width cs tag r none (inr fits) = put_within width cs tag r none fits

-- what is left comes to the same
pub put_left : {S : Type 0} (width : ℕ) (here trailing all : List ℕ) (tag : S) (r q : Laying S) → all ≡ here ++ trailing
    → r.tail ≡ [] → Fits width (line_columns r.line) here → q ≡ record r { line = r.line ++ tagged here tag }
    → put_all width q (tagged trailing tag) ≡ put_all width r (tagged all tag)
put_left width here trailing all tag r q whole none fits added =
    ap (λ x. put_all width x (tagged trailing tag)) (added ∙ sym (put_fitting width here tag r none fits))
    ∙ sym (fold-append (put width) r (tagged here tag) (tagged trailing tag))
    ∙ ap (put_all width r) (sym (map-append (λ c. character c tag) here trailing))
    ∙ ap (λ cs. put_all width r (tagged cs tag)) (sym whole)

-- ---- small steps

pub same_fit : (width taken other : ℕ) (cs : List ℕ) → taken ≡ other → Fits width taken cs → Fits width other cs
same_fit width taken other cs same fits = subst (λ n. Fits width n cs) same fits

pub or_left : (a b : Bool) → a ≡ true → (a || b) ≡ true
or_left a b e = ap (λ x. x || b) e

pub or_right : (a b : Bool) → b ≡ true → (a || b) ≡ true
or_right true b e = refl
or_right false b e = e
