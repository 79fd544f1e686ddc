-- Each target is taken once as the map's numbers are taken out.
use Rattle.std.proofs.Common.{◌≡◌, ◌||◌, [], ◌∷◌, ◌++◌, ◌∙◌, Bool, List, None, Option, String, ap, cond, false, fold}
use Rattle.std.proofs.Common.{is_some, not, refl, string_eq, subst, sym, true, ℕ}
use Rattle.std.proofs.lemmas.Bool.{cond-false, or_right}
use Rattle.std.proofs.lemmas.List.{map-append}
use Rattle.std.specs.Cmp.Lexicographic.{nat_list_eq_equiv}
use Rattle.std.specs.Global.{Global}
use Rattle.std.specs.HashMap.{Updates, get}
use Rattle.text_pieces.specs.Sources.{names}
use Rattle.text_footnotes.specs.Targets.{distinct, has_text, is_same_text, with_text}
use Rattle.text_footnotes.proofs.NumberLemmas.{Numbers}
use Rattle.text_footnotes.proofs.TextLemmas.{has_push, string_eq-text, text_of}

-- Some targets are noted, and of the rest those that are not noted have a number.
pub record IsNoting (all noted rest : List (String Global)) (numbers : Numbers) : Type 0 where
  pub same : fold with_text (names noted) (names rest) ≡ distinct (names all)
  pub left : (q : String Global) → has_text (names rest) (text_of q) ≡ true →
      is_some (get string_eq numbers q) ≡ not (has_text (names noted) (text_of q))

-- the first of the rest has a number unless it is noted
had_first : (all noted rest : List (String Global)) (x : String Global) (m : Numbers) →
    IsNoting all noted (x ∷ rest) m → is_some (get string_eq m x) ≡ not (has_text (names noted) (text_of x))
had_first all noted rest x m noting =
    noting.left x (ap (λ b. b || has_text (names rest) (text_of x)) (nat_list_eq_equiv.refl (text_of x)))

had_further : (all noted rest : List (String Global)) (x : String Global) (m : Numbers) →
    IsNoting all noted (x ∷ rest) m → (q : String Global) → has_text (names rest) (text_of q) ≡ true →
    is_some (get string_eq m q) ≡ not (has_text (names noted) (text_of q))
had_further all noted rest x m noting q has =
    noting.left q (or_right (is_same_text (text_of q) (text_of x)) (has_text (names rest) (text_of q)) has)

not_true : (b : Bool) → not b ≡ true → b ≡ false
not_true true e = cc e
not_true false e = refl

-- where the number of one target is taken out, the others keep theirs
taken_out : (same had : Bool) (found : Option ℕ) → is_some found ≡ not had →
    is_some (cond same None found) ≡ not (had || same)
taken_out true true found is = refl
taken_out true false found is = refl
taken_out false true found is = is
taken_out false false found is = is

-- so it is noted, and its number is taken out
pub noted_one : (all noted next its rest : List (String Global)) (x : String Global) (old new : Numbers) →
    next ≡ noted ++ x ∷ [] → its ≡ x ∷ rest → is_some (get string_eq old x) ≡ true →
    Updates string_eq old new x None → IsNoting all noted its old → IsNoting all next rest new
noted_one all noted next its rest x old new pushed here some updates before =
    let noting = subst (λ l. IsNoting all noted l old) here before in
    let first : has_text (names noted) (text_of x) ≡ false
    = not_true (has_text (names noted) (text_of x)) (sym (had_first all noted rest x old noting) ∙ some) in
    let more : names next ≡ names noted ++ text_of x ∷ [] = ap names pushed ∙ map-append text_of noted (x ∷ []) in
    record {
      same = ap (λ l. fold with_text l (names rest)) (more
          ∙ sym (cond-false (has_text (names noted) (text_of x)) (names noted) (names noted ++ text_of x ∷ []) first))
          ∙ noting.same;
      left = λ q has. ap is_some (updates.0 q)
          ∙ ap (λ b. is_some (cond b None (get string_eq old q)))
          (string_eq-text x q ∙ nat_list_eq_equiv.symm (text_of x) (text_of q))
          ∙ taken_out (is_same_text (text_of q) (text_of x)) (has_text (names noted) (text_of q))
          (get string_eq old q) (had_further all noted rest x old noting q has)
          ∙ ap not (sym (ap (λ l. has_text l (text_of q)) more ∙ has_push (names noted) (text_of x) (text_of q)));
    }
