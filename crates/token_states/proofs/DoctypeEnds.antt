-- A doctype ends at its first `>`.
use Rattle.std.proofs.Common.{◌≡◌, ◌&&◌, ◌||◌, ◌==◌, [], ◌∷◌, ◌++◌, ◌∙◌, Bool, List, None, Option, Some, ap, ap₂, codes}
use Rattle.std.proofs.Common.{drop, false, length, not, refl, suc, sym, true, zero, ℕ}
use Rattle.std.proofs.lemmas.Bool.{both_ways, eq-eqb, ne_eqb}
use Rattle.std.specs.Char.{to_ascii_lowercase}
use Rattle.std.specs.Prelude.{if◌then◌else◌}
use Rattle.lex_base.specs.References.{References}
use Rattle.html_lexemes.specs.declared.token.Doctype.{Doctype}
use Rattle.token_grammar.specs.Characters.{is_space, name_of, shown_text}
use Rattle.token_grammar.specs.Doctypes.{DoctypeEnd, after_identifier, after_keyword, after_public, after_spaces}
use Rattle.token_grammar.specs.Doctypes.{after_system, closed_public, closed_system, doctype_at, ends_here}
use Rattle.token_grammar.specs.Doctypes.{ends_identifier, identifier, is_quote, named_doctype, public_at, skipped}
use Rattle.token_grammar.specs.Doctypes.{system_at, system_or, with_public, with_quirks, with_system}
use Rattle.token_grammar.specs.Lexemes.{doctype_lexeme}
use Rattle.token_grammar.specs.Slices.{Cut, begins_word, cut_or_all, front_while, rest_while}
use Rattle.token_grammar.specs.Tags.{ends_unquoted, without_spaces}
use Rattle.token_grammar.specs.declared.modes.Mode.{Mode}
use Rattle.token_states.specs.MarkupSound.{HasNoGreater}
use Rattle.token_states.specs.Turns.{IsOver}
use Rattle.token_states.specs.declared.place.LexemeState.TheVariants.{Doctype as DoctypePlace}
use Rattle.token_states.proofs.MarkupHeld.{cut_greater, first_of, held_more, over_by}

-- ---- slices before the `>`

front_seam : (p : ℕ → Bool) (hs more : List ℕ) → p 62 ≡ false → front_while p (hs ++ 62 ∷ more) ≡ front_while p hs
front_seam p [] more e = ap (λ b. if b then 62 ∷ front_while p more else []) e
front_seam p (h ∷ hs) more e = ap (λ l. if p h then h ∷ l else []) (front_seam p hs more e)

either_seam : (b : Bool) (rest hs more : List ℕ) → (if b then rest ++ 62 ∷ more else hs ++ 62 ∷ more) ≡ (if b then rest
    else hs) ++ 62 ∷ more
either_seam true rest hs more = refl
either_seam false rest hs more = refl

rest_seam : (p : ℕ → Bool) (hs more : List ℕ) → p 62 ≡ false → rest_while p (hs ++ 62 ∷ more)
    ≡ rest_while p hs ++ 62 ∷ more
rest_seam p [] more e = ap (λ b. if b then rest_while p more else 62 ∷ more) e
rest_seam p (h ∷ hs) more e = ap (λ l. if p h then l
    else h ∷ (hs ++ 62 ∷ more)) (rest_seam p hs more e) ∙ either_seam (p h) (rest_while p hs) (h ∷ hs) more

either_none : (b : Bool) (xs ys : List ℕ) → HasNoGreater xs → HasNoGreater ys → HasNoGreater (if b then xs else ys)
either_none true xs ys n m = n
either_none false xs ys n m = m

pub rest_none : (p : ℕ → Bool) (hs : List ℕ) → HasNoGreater hs → HasNoGreater (rest_while p hs)
rest_none p [] n = refl
rest_none p (h ∷ hs) n = either_none (p h) (rest_while p hs) (h ∷ hs) (rest_none p hs (first_of h hs n).1) n

pub drop_none : (k : ℕ) (hs : List ℕ) → HasNoGreater hs → HasNoGreater (drop k hs)
drop_none zero hs n = n
drop_none (suc k) [] n = refl
drop_none (suc k) (h ∷ hs) n = drop_none k hs (first_of h hs n).1

apart_from : (k w : ℕ) → (w == k) ≡ false → (k == w) ≡ false
apart_from k w n = ne_eqb k w (λ e. both_ways (w == k) n (eq-eqb w k (sym e)))

word_seam : (ws hs more : List ℕ) → HasNoGreater ws → begins_word ws (hs ++ 62 ∷ more) ≡ begins_word ws hs
word_seam [] hs more n = refl
word_seam (w ∷ ws) [] more n = ap (λ b. b && begins_word ws more) (apart_from 62 w (first_of w ws n).0)
word_seam (w ∷ ws) (h ∷ hs) more n =
    ap (λ b. (to_ascii_lowercase h == w) && b) (word_seam ws hs more (first_of w ws n).1)

second_part : (a b : Bool) → (a && b) ≡ true → b ≡ true
second_part true b e = e
second_part false b e = absurd cc

word_drop : (ws hs more : List ℕ) → begins_word ws hs ≡ true → drop (length ws) (hs ++ 62 ∷ more)
    ≡ drop (length ws) hs ++ 62 ∷ more
word_drop [] hs more e = refl
word_drop (w ∷ ws) [] more e = absurd cc
word_drop (w ∷ ws) (h ∷ hs) more e =
    word_drop ws hs more (second_part (to_ascii_lowercase h == w) (begins_word ws hs) e)

-- ---- what reads a doctype stops at the `>`

abbrev Stops : (List ℕ → DoctypeEnd) → List ℕ → Type 0
Stops f hs = (doctype : Doctype) × ((more : List ℕ) → f (hs ++ 62 ∷ more) ≡ record { doctype = doctype; rest = more })

abbrev StopsAlways : (List ℕ → DoctypeEnd) → Type 0
StopsAlways f = (hs : List ℕ) → HasNoGreater hs → Stops f hs

stops_as : (f g : List ℕ → DoctypeEnd) (hs gs : List ℕ) →
    ((more : List ℕ) → f (hs ++ 62 ∷ more) ≡ g (gs ++ 62 ∷ more)) → Stops g gs → Stops f hs
stops_as f g hs gs e s = (s.0, λ more. e more ∙ s.1 more)

stops_if : (b : Bool) (f g h : List ℕ → DoctypeEnd) (hs : List ℕ) →
    ((more : List ℕ) → f (hs ++ 62 ∷ more) ≡ (if b then g (hs ++ 62 ∷ more) else h (hs ++ 62 ∷ more))) →
    (b ≡ true → Stops g hs) → (b ≡ false → Stops h hs) → Stops f hs
stops_if true f g h hs e s t = stops_as f g hs hs e (s refl)
stops_if false f g h hs e s t = stops_as f h hs hs e (t refl)

over_spaces : (f : List ℕ → DoctypeEnd) → StopsAlways f → StopsAlways (λ cs. f (without_spaces cs))
over_spaces f s hs n =
    stops_as (λ cs. f (without_spaces cs)) f hs (without_spaces hs) (λ more. ap f (rest_seam is_space hs more refl))
    (s (without_spaces hs) (rest_none is_space hs n))

skipped_by : Doctype → Option Cut → List ℕ → DoctypeEnd
skipped_by d o cs = record { doctype = d; rest = (cut_or_all o cs).rest }

stops_skipped : (d : Doctype) → StopsAlways (skipped d)
unfolding skipped_by
stops_skipped d hs n = (d, λ more. ap (λ o. skipped_by d o (hs ++ 62 ∷ more)) (cut_greater hs more n))

stops_ends_here : (d : Doctype) → StopsAlways (ends_here d)
stops_ends_here d [] n = (d, λ more. refl)
stops_ends_here d (h ∷ hs) n =
    stops_if ((h == 62) && true) (ends_here d) (λ cs. record { doctype = d; rest = drop 1 cs })
    (skipped (with_quirks d)) (h ∷ hs) (λ more. refl)
    (λ e. absurd (both_ways ((h == 62) && true) (ap (λ b. b && true) (first_of h hs n).0) e))
    (λ e. stops_skipped (with_quirks d) (h ∷ hs) n)

stops_after_system : (d : Doctype) → StopsAlways (after_system d)
stops_after_system d [] n = stops_skipped d [] n
stops_after_system d (h ∷ hs) n = stops_skipped d (h ∷ hs) n

stops_closed_system : (q : ℕ) (d : Doctype) → (62 == q) ≡ false → StopsAlways (closed_system q d)
stops_closed_system q d a [] n =
    stops_as (closed_system q d) (skipped (with_quirks d)) []
    [] (λ more. ap (λ b. if b && true then after_system d (without_spaces more)
    else skipped (with_quirks d) (62 ∷ more)) a) (stops_skipped (with_quirks d) [] n)
stops_closed_system q d a (h ∷ hs) n =
    stops_if ((h == q) && true) (closed_system q d) (λ cs. after_system d (without_spaces (drop 1 cs)))
    (skipped (with_quirks d)) (h ∷ hs) (λ more. refl)
    (λ e. over_spaces (after_system d) (stops_after_system d) hs (first_of h hs n).1)
    (λ e. stops_skipped (with_quirks d) (h ∷ hs) n)

goes_on_not : (q : ℕ) → (62 == q) ≡ false → not (ends_identifier q 62) ≡ false
goes_on_not q a = ap (λ b. not (b || true)) a

stops_system_at : (d : Doctype) (q : ℕ) → (62 == q) ≡ false → StopsAlways (system_at d q)
stops_system_at d q a hs n =
    let p : ℕ → Bool = λ c. not (ends_identifier q c) in
    stops_as (system_at d q) (closed_system q (with_system d (identifier q hs))) hs (after_identifier q hs)
    (λ more. ap₂ (λ front rest. closed_system q (with_system d (shown_text front)) rest)
    (front_seam p hs more (goes_on_not q a)) (rest_seam p hs more (goes_on_not q a)))
    (stops_closed_system q (with_system d (identifier q hs)) a (after_identifier q hs) (rest_none p hs n))

no_quote : (q : ℕ) → is_quote q ≡ true → (62 == q) ≡ false
no_quote q e = ne_eqb 62 q (λ s. both_ways (is_quote q) (ap is_quote (sym s)) e)

stops_system_or : (d : Doctype) (otherwise : List ℕ → DoctypeEnd) → StopsAlways otherwise →
    StopsAlways (system_or d otherwise)
stops_system_or d otherwise s [] n = stops_as (system_or d otherwise) otherwise [] [] (λ more. refl) (s [] n)
stops_system_or d otherwise s (h ∷ hs) n =
    stops_if (is_quote h) (system_or d otherwise) (λ cs. system_at d h (drop 1 cs)) otherwise (h ∷ hs) (λ more. refl)
    (λ e. stops_as (λ cs. system_at d h (drop 1 cs)) (system_at d h) (h ∷ hs) hs (λ more. refl)
    (stops_system_at d h (no_quote h e) hs (first_of h hs n).1))
    (λ e. s (h ∷ hs) n)

stops_closed_public : (q : ℕ) (d : Doctype) → (62 == q) ≡ false → StopsAlways (closed_public q d)
stops_closed_public q d a [] n =
    stops_as (closed_public q d) (skipped (with_quirks d)) []
    [] (λ more. ap (λ b. if b && true then system_or d (ends_here d) (without_spaces more)
    else skipped (with_quirks d) (62 ∷ more)) a) (stops_skipped (with_quirks d) [] n)
stops_closed_public q d a (h ∷ hs) n =
    stops_if ((h == q) && true) (closed_public q d) (λ cs. system_or d (ends_here d) (without_spaces (drop 1 cs)))
    (skipped (with_quirks d)) (h ∷ hs) (λ more. refl)
    (λ e. over_spaces (system_or d (ends_here d)) (stops_system_or d (ends_here d) (stops_ends_here d)) hs
    (first_of h hs n).1)
    (λ e. stops_skipped (with_quirks d) (h ∷ hs) n)

stops_public_at : (d : Doctype) (q : ℕ) → (62 == q) ≡ false → StopsAlways (public_at d q)
stops_public_at d q a hs n =
    let p : ℕ → Bool = λ c. not (ends_identifier q c) in
    stops_as (public_at d q) (closed_public q (with_public d (identifier q hs))) hs (after_identifier q hs)
    (λ more. ap₂ (λ front rest. closed_public q (with_public d (shown_text front)) rest)
    (front_seam p hs more (goes_on_not q a)) (rest_seam p hs more (goes_on_not q a)))
    (stops_closed_public q (with_public d (identifier q hs)) a (after_identifier q hs) (rest_none p hs n))

stops_after_public : (d : Doctype) → StopsAlways (after_public d)
stops_after_public d [] n =
    stops_as (after_public d) (skipped (with_quirks d)) [] [] (λ more. refl) (stops_skipped (with_quirks d) [] n)
stops_after_public d (h ∷ hs) n =
    stops_if (is_quote h) (after_public d) (λ cs. public_at d h (drop 1 cs)) (skipped (with_quirks d)) (h ∷ hs)
    (λ more. refl)
    (λ e. stops_as (λ cs. public_at d h (drop 1 cs)) (public_at d h) (h ∷ hs) hs (λ more. refl)
    (stops_public_at d h (no_quote h e) hs (first_of h hs n).1))
    (λ e. stops_skipped (with_quirks d) (h ∷ hs) n)

-- after a word of a doctype
stops_after_word : (ws : List ℕ) (f : List ℕ → DoctypeEnd) (hs : List ℕ) → StopsAlways f → HasNoGreater hs →
    begins_word ws hs ≡ true → Stops (λ cs. f (without_spaces (drop (length ws) cs))) hs
stops_after_word ws f hs s n e =
    stops_as (λ cs. f (without_spaces (drop (length ws) cs))) (λ cs. f (without_spaces cs)) hs (drop (length ws) hs)
    (λ more. ap (λ l. f (without_spaces l)) (word_drop ws hs more e))
    (over_spaces f s (drop (length ws) hs) (drop_none (length ws) hs n))

after_system_word : Doctype → List ℕ → DoctypeEnd
after_system_word d cs = if begins_word (codes "system") cs then
    system_or d (skipped (with_quirks d)) (without_spaces (drop 6 cs)) else ends_here d cs

stops_system_word : (d : Doctype) → StopsAlways (after_system_word d)
unfolding after_system_word
stops_system_word d hs n =
    stops_if (begins_word (codes "system") hs) (after_system_word d)
    (λ cs. system_or d (skipped (with_quirks d)) (without_spaces (drop 6 cs))) (ends_here d) hs
    (λ more. ap (λ b. if b then system_or d (skipped (with_quirks d)) (without_spaces (drop 6 (hs ++ 62 ∷ more)))
    else ends_here d (hs ++ 62 ∷ more)) (word_seam (codes "system") hs more refl))
    (stops_after_word (codes "system") (system_or d (skipped (with_quirks d))) hs
    (stops_system_or d (skipped (with_quirks d)) (stops_skipped (with_quirks d))) n)
    (λ e. stops_ends_here d hs n)

stops_after_keyword : (d : Doctype) → StopsAlways (after_keyword d)
unfolding after_system_word
stops_after_keyword d hs n =
    stops_if (begins_word (codes "public") hs) (after_keyword d) (λ cs. after_public d (without_spaces (drop 6 cs)))
    (after_system_word d) hs
    (λ more. ap (λ b. if b then after_public d (without_spaces (drop 6 (hs ++ 62 ∷ more)))
    else after_system_word d (hs ++ 62 ∷ more)) (word_seam (codes "public") hs more refl))
    (stops_after_word (codes "public") (after_public d) hs (stops_after_public d) n)
    (λ e. stops_system_word d hs n)

abbrev in_name : ℕ → Bool
in_name c = not (ends_unquoted c)

stops_after_spaces : StopsAlways after_spaces
stops_after_spaces hs n =
    let name = front_while in_name hs in
    let keyword : List ℕ → DoctypeEnd =
    λ cs. after_keyword (named_doctype (Some (name_of name))) (without_spaces cs) in
    stops_if (length name == 0) after_spaces (skipped (with_quirks (named_doctype None)))
    (λ cs. keyword (rest_while in_name cs)) hs
    (λ more. ap (λ l. if length l == 0 then skipped (with_quirks (named_doctype None)) (hs ++ 62 ∷ more)
    else after_keyword (named_doctype (Some (name_of l))) (without_spaces (rest_while in_name (hs ++ 62 ∷ more))))
    (front_seam in_name hs more refl))
    (λ e. stops_skipped (with_quirks (named_doctype None)) hs n)
    (λ e. stops_as (λ cs. keyword (rest_while in_name cs)) keyword hs (rest_while in_name hs)
    (λ more. ap keyword (rest_seam in_name hs more refl))
    (over_spaces (after_keyword (named_doctype (Some (name_of name))))
    (stops_after_keyword (named_doctype (Some (name_of name)))) (rest_while in_name hs) (rest_none in_name hs n)))

pub doctype_stops : (hs : List ℕ) → HasNoGreater hs →
    (doctype : Doctype) × ((more : List ℕ) → doctype_at (hs ++ 62 ∷ more) ≡ record { doctype = doctype; rest = more })
doctype_stops hs n = over_spaces after_spaces stops_after_spaces hs n

pub doctype_over : (table : References) (foreign : Bool) (mode : Mode) (hs now : List ℕ) → HasNoGreater hs →
    now ≡ hs ++ 62 ∷ [] → IsOver table foreign mode DoctypePlace now []
doctype_over table foreign mode hs now n e =
    let end = doctype_stops hs n in
    over_by table foreign mode DoctypePlace now _ mode
    (λ rest. ap (λ l. doctype_lexeme mode (doctype_at l)) (held_more hs now rest 62 e) ∙
    ap (doctype_lexeme mode) (end.1 rest))
