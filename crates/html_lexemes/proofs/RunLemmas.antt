-- What the search for the first character of a set says of the run before it.
use Rattle.std.proofs.Common.{◌≡◌, ◌||◌, [], ◌∷◌, ◌++◌, ◌∙◌, Bool, IsTrue, IsUtf8, List, MatchOption, None, Option}
use Rattle.std.proofs.Common.{Some, ap, arith, chars, drop, encode_utf8, eqb, false, length, refl, slice_get, subst}
use Rattle.std.proofs.Common.{sym, take, true, unwrap_or, ℕ}
use Rattle.std.proofs.lemmas.Bool.{both_ways}
use Rattle.std.proofs.lemmas.Bool.Decides.{nat_tests}
use Rattle.std.proofs.lemmas.List.{length-take-le, take_all, nil_from_length}
use Rattle.std.proofs.lemmas.Option.{none-some, same_Some}
use Rattle.std.proofs.lemmas.Str.{chars_from_encodes, chars-nil, chars_past_char, IsUtf8-take, IsCharBoundary-end}
use Rattle.std.specs.Char.{char_set_contains}
use Rattle.std.specs.List.{list_any}
use Rattle.std.specs.Str.{IsCharBoundary, NoCharPasses, NonePass}
use Rattle.std.specs.Str.Pattern.{FindsBy, MatchBeginsAt, HasPassingCharAt}
use Rattle.html_lexemes.specs.Queue.{is_in, is_free_of}
use Rattle.html_lexemes.specs.QueueParts.{IsRunOutside}
use Rattle.html_lexemes.proofs.QueueLemmas.{no_characters, some_left}

eqb_other_way : (c d : ℕ) → eqb c d ≡ eqb d c
eqb_other_way c d = grind (arith, nat_tests)

-- the two tests for a character of a set
pub is_in-contains : (set : List ℕ) (c : ℕ) → char_set_contains set c ≡ is_in set c
is_in-contains [] c = refl
is_in-contains (d ∷ set) c =
    ap (λ b. b || char_set_contains set c) (eqb_other_way d c) ∙ ap (λ b. eqb c d || b) (is_in-contains set c)

pub is_in-any : (set : List ℕ) (c : ℕ) → list_any (λ y. eqb y c) set ≡ is_in set c
is_in-any [] c = refl
is_in-any (d ∷ set) c =
    ap (λ b. b || list_any (λ y. eqb y c) set) (eqb_other_way d c) ∙ ap (λ b. eqb c d || b) (is_in-any set c)

free_each : (set cs : List ℕ) → NonePass (is_in set) cs → is_free_of set cs ≡ true
free_each set [] h = refl
free_each set (c ∷ cs) h = rw h.0 (free_each set cs h.1)

free_of : (set run : List ℕ) → IsUtf8 run → NoCharPasses (is_in set) run → IsTrue (is_free_of set (chars run))
free_of set run u h =
    subst (λ cs. IsTrue (is_free_of set cs)) (chars_from_encodes h.0 run u h.1) (free_each set h.0 h.2)

pub run_upto : (set bs run : List ℕ) (i : ℕ) → IsUtf8 bs → IsCharBoundary bs i → run ≡ take i bs →
    NoCharPasses (is_in set) (take i bs)
    → ((c : ℕ) → slice_get (chars bs) 0 ≡ Some c → is_in set c ≡ false → i ≡ 0 → ⊥) → IsRunOutside set bs run
run_upto set bs run i u cut e none first =
    let long : length run ≡ i = ap length e ∙ length-take-le i bs cut.0 in
    let text : IsUtf8 run = subst IsUtf8 (sym e) (IsUtf8-take bs i u cut) in
    record {
      front = e ∙ ap (λ n. take n bs) (sym long);
      boundary = subst (IsCharBoundary bs) (sym long) cut;
      free = subst (λ l. IsTrue (is_free_of set (chars l))) (sym e)
          (free_of set (take i bs) (IsUtf8-take bs i u cut) none);
      some = λ c begins outside. some_left (chars run)
          (λ gone. first c begins outside (sym long ∙ ap length (no_characters run text gone)));
    }

-- what `find` promises at a set of characters
abbrev pub FindsOneOf : List ℕ → List ℕ → Option (ℕ × ℕ) → Type 0
FindsOneOf set bs r = (k : ℕ → Bool) → ((c : ℕ) → char_set_contains set c ≡ k c) → FindsBy k bs r

hit_first : (set bs : List ℕ) (i j c : ℕ) → IsUtf8 bs → HasPassingCharAt (is_in set) bs i j →
    slice_get (chars bs) 0 ≡ Some c → is_in set c ≡ false → i ≡ 0 → ⊥
hit_first set bs i j c u hit begins outside e =
    let split : drop 0 bs ≡ encode_utf8 hit.0 ++ drop j bs =
    subst (λ n. drop n bs ≡ encode_utf8 hit.0 ++ drop j bs) e hit.2.split in
    let same =
    same_Some hit.0 c (ap (λ l. slice_get l 0) (sym (chars_past_char bs (drop j bs) hit.0 u split)) ∙ begins) in
    both_ways (is_in set c) outside (ap (is_in set) (sym same) ∙ hit.1)

pub run_found : (set bs run : List ℕ) (r : Option ℕ) → IsUtf8 bs →
    MatchOption r (FindsOneOf set bs None) (MatchBeginsAt (FindsOneOf set) bs) →
    run ≡ take (unwrap_or r (length bs)) bs → IsRunOutside set bs run
run_found set bs run None u h e =
    run_upto set bs run (length bs) u (IsCharBoundary-end bs) e
    (subst (NoCharPasses (is_in set)) (sym (take_all (length bs) bs (omega arith)))
    (h (is_in set) (is_in-contains set)))
    (λ c begins outside gone.
    none-some c (sym (ap (λ l. slice_get l 0) (ap chars (nil_from_length bs gone) ∙ chars-nil)) ∙ begins))
run_found set bs run (Some i) u h e =
    let found = h.1 (is_in set) (is_in-contains set) in
    run_upto set bs run i u h.3 e found.0 (λ c. hit_first set bs i h.0 c u found.1)
