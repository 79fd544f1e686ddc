-- A text cut at a character, and a value that is what is written.
use Rattle.std.proofs.Common.{◌≡◌, [], ◌∷◌, ◌++◌, ◌∙◌, Bool, IfSome, IsUtf8, List, MatchBool, None, Option, Some, ap}
use Rattle.std.proofs.Common.{append_assoc, arith, chars, drop, encode_utf8, encode_utf8_all, eqb, false, not}
use Rattle.std.proofs.Common.{option_map, refl, subst, sym, true, ℕ}
use Rattle.std.proofs.lemmas.Bool.{and_parts}
use Rattle.std.proofs.lemmas.Bool.Decides.{nat_tests}
use Rattle.std.proofs.lemmas.List.{take-append-drop}
use Rattle.std.proofs.lemmas.Str.{chars-encodes, chars_from_encodes, cons_from_encodes, encodes-chars, scalars-chars}
use Rattle.std.proofs.lemmas.Str.Pattern.{IsSplitOnceResult}
use Rattle.std.proofs.Math.Utf8.{scalar}
use Rattle.std.specs.Str.{NoCharPasses, NonePass, all_scalars}
use Rattle.std.specs.Str.Pattern.{FindsChar, HasMatch}
use denote.Ref.{Bor}
use Rattle.lex_base.specs.References.{References}
use Rattle.token_grammar.specs.Read.{cut_of}
use Rattle.token_grammar.specs.References.{value_of}
use Rattle.token_grammar.specs.Slices.{after, cut, longer}

-- characters after which another one stands, in a text by its bytes
record IsCutThere (cs front : List ℕ) (c : ℕ) (rest : List ℕ) : Type 0 where
  trailing : List ℕ
  whole : cs ≡ front ++ c ∷ trailing
  encoded : encode_utf8_all trailing ≡ rest

cut_there : (front cs rest : List ℕ) (c : ℕ) → encode_utf8_all cs ≡ encode_utf8_all front ++ (encode_utf8 c ++ rest) →
    IsCutThere cs front c rest
cut_there [] cs rest c e = let cut = cons_from_encodes cs rest c e in record { trailing = cut.0; whole = cut.1; encoded = cut.2 }
cut_there (f ∷ front) cs rest c e =
    let first =
    cons_from_encodes cs (encode_utf8_all front ++ (encode_utf8 c ++ rest)) f
    (e ∙ append_assoc (encode_utf8 f) (encode_utf8_all front) (encode_utf8 c ++ rest)) in
    let deeper = cut_there front first.0 rest c first.2 in
    record { trailing = deeper.trailing; whole = first.1 ∙ ap (λ l. f ∷ l) deeper.whole; encoded = deeper.encoded }

scalar_parts : (front trailing : List ℕ) (c : ℕ) → all_scalars (front ++ c ∷ trailing) ≡ true →
    (all_scalars front ≡ true) × (all_scalars trailing ≡ true)
scalar_parts [] trailing c e = (refl, (and_parts (scalar c) (all_scalars trailing) e).1)
scalar_parts (f ∷ front) trailing c e =
    let first = and_parts (scalar f) (all_scalars (front ++ c ∷ trailing)) e in
    let others = scalar_parts front trailing c first.1 in
    (rw first.0 others.0, others.1)

is_itself : (n : ℕ) → eqb n n ≡ false → ⊥
is_itself n e = grind (arith, nat_tests)

-- a text cut at a character that none of the front is
cut_at_first : (mark : ℕ) (front trailing : List ℕ) (is_mark : Bool) → eqb mark mark ≡ is_mark →
    NonePass (λ d. eqb d mark) front →
    cut (after (mark ∷ [])) (front ++ mark ∷ trailing) ≡ Some (record { slice = front; rest = trailing })
cut_at_first mark [] trailing true e none = rw e refl
cut_at_first mark [] trailing false e none = absurd (is_itself mark e)
cut_at_first mark (f ∷ front) trailing is_mark e none =
    rw none.0 (ap (option_map (longer f)) (cut_at_first mark front trailing is_mark e none.1))

cut_at_none : (mark : ℕ) (cs : List ℕ) → NonePass (λ d. eqb d mark) cs → cut (after (mark ∷ [])) cs ≡ None
cut_at_none mark [] none = refl
cut_at_none mark (c ∷ cs) none = rw none.0 (ap (option_map (longer c)) (cut_at_none mark cs none.1))

-- what a text is that is split around its first character of a kind
record IsSplitThere (bs slice rest : List ℕ) (mark : ℕ) : Type 0 where
  pub slice_text : IsUtf8 slice
  pub rest_text : IsUtf8 rest
  pub is_cut : Some (record { slice = chars slice; rest = chars rest }) ≡ cut (after (mark ∷ [])) (chars bs)

split_there : (bs slice rest front : List ℕ) (mark : ℕ) → IsUtf8 bs → encode_utf8_all front ≡ slice →
    NonePass (λ d. eqb d mark) front → bs ≡ slice ++ (encode_utf8 mark ++ rest)
    → IsSplitThere bs slice rest mark
split_there bs slice rest front mark u e none whole =
    let there =
    cut_there front (chars bs) rest mark (encodes-chars bs u ∙ whole ∙ ap (λ l. l ++ (encode_utf8 mark ++ rest))
    (sym e)) in
    let are = scalar_parts front there.trailing mark (ap all_scalars (sym there.whole) ∙ scalars-chars bs u) in
    let slice_is : chars slice ≡ front = ap chars (sym e) ∙ chars-encodes front are.0 in
    let rest_is : chars rest ≡ there.trailing = ap chars (sym there.encoded) ∙ chars-encodes there.trailing are.1 in
    record {
      slice_text = (front, (are.0, e));
      rest_text = (there.trailing, (are.1, there.encoded));
      is_cut =
          ap (λ (l : List ℕ). Some (record { slice = l; rest = chars rest })) slice_is ∙
          ap (λ (l : List ℕ). Some (record { slice = front; rest = l })) rest_is
          ∙ sym (ap (cut (after (mark ∷ []))) there.whole ∙ cut_at_first mark front there.trailing
          (eqb mark mark) refl none);
    }

found_there : (mark : ℕ) (bs : List ℕ) (x : Bor (List ℕ) × Bor (List ℕ)) → IsUtf8 bs →
    IsSplitOnceResult mark bs (Some x) → IsSplitThere bs x.0.now x.1.now mark
found_there mark bs x u h =
    split_there bs x.0.now x.1.now h.2.0.0 mark u (h.2.0.1 ∙ sym h.3) h.2.0.2
    (sym (take-append-drop h.0 bs) ∙ ap (λ l. l ++ drop h.0 bs) (sym h.3) ∙ ap (λ l. x.0.now ++ l)
    (h.2.1.split ∙ ap (λ l. encode_utf8 mark ++ l) (sym h.4)))

pub split_cut : (mark : ℕ) (bs : List ℕ) (r : Option (Bor (List ℕ) × Bor (List ℕ))) → IsUtf8 bs →
    IsSplitOnceResult mark bs r → option_map cut_of r ≡ cut (after (mark ∷ [])) (chars bs)
split_cut mark bs None u h =
    sym (ap (cut (after (mark ∷ []))) (sym (chars_from_encodes h.0 bs u h.1)) ∙ cut_at_none mark h.0 h.2)
split_cut mark bs (Some x) u h = (found_there mark bs x u h).is_cut

pub split_slice : (mark : ℕ) (bs : List ℕ) (r : Option (Bor (List ℕ) × Bor (List ℕ))) → IsUtf8 bs →
    IsSplitOnceResult mark bs r → IfSome r (λ x. IsUtf8 x.0.now)
split_slice mark bs None u h = tt
split_slice mark bs (Some x) u h = (found_there mark bs x u h).slice_text

pub split_rest : (mark : ℕ) (bs : List ℕ) (r : Option (Bor (List ℕ) × Bor (List ℕ))) → IsUtf8 bs →
    IsSplitOnceResult mark bs r → IfSome r (λ x. IsUtf8 x.1.now)
split_rest mark bs None u h = tt
split_rest mark bs (Some x) u h = (found_there mark bs x u h).rest_text

-- a value is what is written where none of its characters is `&` or NUL
shown_characters : (table : References) (cs : List ℕ) → NonePass (λ d. eqb d 38) cs → NonePass (λ d. eqb d 0) cs →
    value_of table cs ≡ cs
shown_characters table [] amps nuls = refl
shown_characters table (c ∷ cs) amps nuls =
    rw amps.0 (rw nuls.0 (ap (λ l. c ∷ l) (shown_characters table cs amps.1 nuls.1)))

shown_value : (table : References) (bs : List ℕ) → IsUtf8 bs → NoCharPasses (λ d. eqb d 38) bs →
    NoCharPasses (λ d. eqb d 0) bs → value_of table (chars bs) ≡ chars bs
shown_value table bs u amps nuls =
    shown_characters table (chars bs) (subst (NonePass (λ d. eqb d 38)) (chars_from_encodes amps.0 bs u amps.1) amps.2)
    (subst (NonePass (λ d. eqb d 0)) (chars_from_encodes nuls.0 bs u nuls.1) nuls.2)

pub shown_tested : (table : References) (bs : List ℕ) (has_nul : Bool) → IsUtf8 bs → NoCharPasses (λ d. eqb d 38) bs →
    MatchBool has_nul (HasMatch (FindsChar 0) bs) (FindsChar 0 bs None)
    → not has_nul ≡ true → value_of table (chars bs) ≡ chars bs
shown_tested table bs true u amps nuls e = cc
shown_tested table bs false u amps nuls e = shown_value table bs u amps nuls
