-- A cut is the shortest slice before a mark.
use Rattle.std.proofs.Common.{◌≡◌, ◌<◌, [], ◌∷◌, ◌++◌, ◌∙◌, List, None, Option, Some, ap, arith, length, option_map}
use Rattle.std.proofs.Common.{refl, subst, suc, sym, ℕ}
use Rattle.std.proofs.lemmas.Option.{none-some, same_Some}
use Rattle.token_grammar.specs.Slices.{Cut, HasNoMark, IsShortest, cut}
use Rattle.token_grammar.proofs.SliceLemmas.{cut_with, after_front, cut_on, cut_off}

module _ (mark : List ℕ → Option (List ℕ)) where
  starts_here : (cs rest : List ℕ) → mark cs ≡ Some rest → IsShortest mark cs (cut_with [] rest)
  starts_here cs rest e = record {
    marked = cs;
    text_is = refl;
    stands = e;
    none_earlier = λ front back is less. absurd (omega (arith, less));
  }

  -- no mark begins before the first of what follows a character
  none_before : (x : ℕ) (cs : List ℕ) (d : Cut) → mark (x ∷ cs) ≡ None → IsShortest mark cs d → (front back : List ℕ) →
      x ∷ cs ≡ front ++ back → length front < suc (length d.slice) → mark back ≡ None
  none_before x cs d e h [] back is less = ap mark (sym is) ∙ e
  none_before x cs d e h
      (f ∷ front) back is less = let tails : cs ≡ front ++ back = cc in h.none_earlier front back tails (omega arith)

  starts_later : (x : ℕ) (cs : List ℕ) (d : Cut) → mark (x ∷ cs) ≡ None → IsShortest mark cs d →
      IsShortest mark (x ∷ cs) (cut_with (x ∷ d.slice) d.rest)
  starts_later x cs d e h = record {
    marked = h.marked;
    text_is = ap (λ l. x ∷ l) h.text_is;
    stands = h.stands;
    none_earlier = none_before x cs d e h;
  }

  one_more : (x : ℕ) (cs : List ℕ) (here : Option (List ℕ)) (later : Option Cut) (c : Cut) → mark (x ∷ cs) ≡ here →
      cut mark cs ≡ later → ((d : Cut) → cut mark cs ≡ Some d → IsShortest mark cs d)
      → cut mark (x ∷ cs) ≡ Some c → IsShortest mark (x ∷ cs) c
  one_more x cs (Some rest) later c e f h is =
      let same : cut_with [] rest ≡ c = same_Some (cut_with [] rest) c (sym (cut_on mark x cs rest e) ∙ is) in
      subst (IsShortest mark (x ∷ cs)) same (starts_here (x ∷ cs) rest e)
  one_more x cs None None c e f h is =
      absurd (none-some c (sym (cut_off mark x cs e ∙ ap (option_map (after_front (x ∷ []))) f) ∙ is))
  one_more x cs None (Some d) c e f h is =
      let same : cut_with (x ∷ d.slice) d.rest ≡ c =
      same_Some (cut_with (x ∷ d.slice) d.rest) c
      (sym (cut_off mark x cs e ∙ ap (option_map (after_front (x ∷ []))) f) ∙ is) in
      subst (IsShortest mark (x ∷ cs)) same (starts_later x cs d e (h d f))

  pub cut_shortest : (cs : List ℕ) (c : Cut) → cut mark cs ≡ Some c → IsShortest mark cs c
  cut_shortest [] c e = absurd (none-some c e)
  cut_shortest (x ∷ cs) c e = one_more x cs (mark (x ∷ cs)) (cut mark cs) c refl refl (λ d is. cut_shortest cs d is) e

  -- no mark begins at the first character or after it
  none_on : (x : ℕ) (cs : List ℕ) (here : Option (List ℕ)) (later : Option Cut) → mark (x ∷ cs) ≡ here →
      cut mark cs ≡ later → (cut mark cs ≡ None → HasNoMark mark cs) → cut mark (x ∷ cs) ≡ None
      → (front : List ℕ) (c : ℕ) (back : List ℕ) → x ∷ cs ≡ front ++ c ∷ back → mark (c ∷ back) ≡ None
  none_on x cs (Some rest) later e f h is front c back whole =
      absurd (none-some (cut_with [] rest) (sym is ∙ cut_on mark x cs rest e))
  none_on x cs None (Some d) e f h is front c back whole =
      absurd (none-some (cut_with (x ∷ d.slice) d.rest)
      (sym is ∙ cut_off mark x cs e ∙ ap (option_map (after_front (x ∷ []))) f))
  none_on x cs None None e f h is [] c back whole = ap mark (sym whole) ∙ e
  none_on x cs None None e f h is
      (y ∷ front) c back whole = let tails : cs ≡ front ++ c ∷ back = cc in h f front c back tails

  nothing_there : (front : List ℕ) (c : ℕ) (back : List ℕ) → [] ≡ front ++ c ∷ back → mark (c ∷ back) ≡ None
  nothing_there [] c back e = cc
  nothing_there (y ∷ front) c back e = cc

  pub cut_no_mark : (cs : List ℕ) → cut mark cs ≡ None → HasNoMark mark cs
  cut_no_mark [] e = nothing_there
  cut_no_mark (x ∷ cs) e = none_on x cs (mark (x ∷ cs)) (cut mark cs) refl refl (λ is. cut_no_mark cs is) e
