-- The slice of a tag is read as that tag.
use Rattle.std.proofs.Common.{◌≡◌, ◌==◌, [], ◌∷◌, ◌++◌, ◌∙◌, Bool, List, Option, Some, ap, append-nil, append_assoc}
use Rattle.std.proofs.Common.{arith, cond, drop, false, not, option_and_then, option_map, refl, sym, true, ℕ}
use Rattle.std.proofs.lemmas.Bool.{and_parts, cond-false, cond-true, eq-eqb, not-true, or_parts}
use Rattle.std.proofs.lemmas.Bool.Decides.{nat_tests}
use Rattle.std.proofs.lemmas.List.Sums.{list_all-from_AllPass}
use Rattle.std.specs.List.{list_all}
use Rattle.lex_base.specs.References.{References}
use Rattle.html_lexemes.specs.declared.names.Attribute.{Attribute}
use Rattle.html_lexemes.specs.declared.token.Tag.{Tag}
use Rattle.html_lexemes.specs.declared.token.TagKind.{TagKind}
use Rattle.token_grammar.specs.Characters.{is_space, name_of}
use Rattle.token_grammar.specs.Doctypes.{is_quote}
use Rattle.token_grammar.specs.References.{value_of}
use Rattle.token_grammar.specs.Slices.{Cut, after, begins, cut, first_passes, front_while, longer, rest_while}
use Rattle.token_grammar.specs.TagLaws.{AreWritten, IsAttributeSlice, IsRun, IsTagSlice, IsValueSlice, closes, has}
use Rattle.token_grammar.specs.TagLaws.{missing, quoted, unquoted}
use Rattle.token_grammar.specs.Tags.{TagEnd, after_gap, attribute, attribute_at, ends_attribute_name, ends_tag_name}
use Rattle.token_grammar.specs.Tags.{ends_unquoted, ends_with_slash, is_gap, tag_at, tag_end, tag_of, value_after}
use Rattle.token_grammar.specs.Tags.{with_attribute, without_spaces, written_value}
use Rattle.token_grammar.proofs.SliceLemmas.{rest_off, rest_on}
use Rattle.token_grammar.proofs.TagLemmas.{tag_end-step}
use Rattle.token_grammar.proofs.TagSlices.{with_quotes, without_quotes}
use Rattle.token_grammar.proofs.ValuesInTurn.{value_only}

-- ---- runs

rest_past : (p : ℕ → Bool) (s b : List ℕ) → list_all p s ≡ true → rest_while p (s ++ b) ≡ rest_while p b
rest_past p [] b e = refl
rest_past p (c ∷ s) b e =
    let parts = and_parts (p c) (list_all p s) e in
    rest_on p c (s ++ b) parts.0 ∙ rest_past p s b parts.1

front_past : (p : ℕ → Bool) (s b : List ℕ) → list_all p s ≡ true → front_while p (s ++ b) ≡ s ++ front_while p b
front_past p [] b e = refl
front_past p (c ∷ s) b e =
    let parts = and_parts (p c) (list_all p s) e in
    cond-true (p c) (c ∷ front_while p (s ++ b)) [] parts.0 ∙ ap (λ l. c ∷ l) (front_past p s b parts.1)

rest_here : (p : ℕ → Bool) (b : List ℕ) → first_passes p b ≡ false → rest_while p b ≡ b
rest_here p [] e = refl
rest_here p (c ∷ b) e = rest_off p c b e

front_here : (p : ℕ → Bool) (b : List ℕ) → first_passes p b ≡ false → front_while p b ≡ []
front_here p [] e = refl
front_here p (c ∷ b) e = cond-false (p c) (c ∷ front_while p b) [] e

run_rest : (p : ℕ → Bool) (s b : List ℕ) → IsRun p s b → rest_while p (s ++ b) ≡ b
run_rest p s b h = rest_past p s b (list_all-from_AllPass p s h.pass) ∙ rest_here p b h.stops

run_front : (p : ℕ → Bool) (s b : List ℕ) → IsRun p s b → front_while p (s ++ b) ≡ s
run_front p s b h =
    front_past p s b (list_all-from_AllPass p s h.pass) ∙ ap (λ l. s ++ l) (front_here p b h.stops) ∙ append-nil s

-- ---- values

abbrev cut_as : List ℕ → List ℕ → Option Cut
cut_as slice rest = Some (record { slice = slice; rest = rest })

quote_found : (quote : ℕ) (value rest : List ℕ) → list_all (λ c. not (c == quote)) value ≡ true →
    cut (after (quote ∷ [])) (value ++ quote ∷ rest) ≡ cut_as value rest
quote_found quote [] rest e = rw (eq-eqb quote quote refl) refl
quote_found quote (c ∷ value) rest e =
    let parts = and_parts (not (c == quote)) (list_all (λ d. not (d == quote)) value) e in
    rw (not-true (c == quote) parts.0) (ap (option_map (longer c)) (quote_found quote value rest parts.1))

equals_found : (before more : List ℕ) → list_all is_space before ≡ true → value_after (before ++ 61 ∷ more)
    ≡ written_value (without_spaces more)
equals_found before more e =
    let kept : Option Cut = cut_as [] (before ++ 61 ∷ more) in
    ap (λ l. cond (begins (61 ∷ []) l) (written_value (without_spaces (drop 1 l))) kept)
    (rest_past is_space before (61 ∷ more) e)

abbrev is_unquoted : ℕ → Bool
is_unquoted c = not (ends_unquoted c)

end_no_quote : (c : ℕ) → not (ends_unquoted c) ≡ false → is_quote c ≡ false
end_no_quote c e = grind (arith, nat_tests)

quote_no_space : (c : ℕ) → is_quote c ≡ true → is_space c ≡ false
quote_no_space c e = grind (arith, nat_tests)

begun_unquoted : (c : ℕ) (more value trailing : List ℕ) → is_quote c ≡ false → c ∷ more ≡ value ++ trailing →
    IsRun is_unquoted value trailing → written_value (c ∷ more) ≡ cut_as value trailing
begun_unquoted c more value trailing no_quote e goes =
    cond-false (is_quote c) (cut (after (c ∷ [])) more)
    (cut_as (front_while is_unquoted (c ∷ more)) (rest_while is_unquoted (c ∷ more))) no_quote
    ∙ ap (λ l. cut_as (front_while is_unquoted l) (rest_while is_unquoted l)) e
    ∙ ap (λ l. cut_as l (rest_while is_unquoted (value ++ trailing))) (run_front is_unquoted value trailing goes) ∙
    ap (cut_as value) (run_rest is_unquoted value trailing goes)

unquoted_read : (value trailing : List ℕ) → first_passes is_quote value ≡ false → IsRun is_unquoted value trailing →
    written_value (value ++ trailing) ≡ cut_as value trailing
unquoted_read [] [] no_quote goes = refl
unquoted_read [] (c ∷ trailing) no_quote goes =
    begun_unquoted c trailing [] (c ∷ trailing) (end_no_quote c goes.stops) refl goes
unquoted_read (c ∷ value) trailing no_quote goes =
    begun_unquoted c (value ++ trailing) (c ∷ value) trailing no_quote refl goes

value_read : (slice value trailing : List ℕ) → IsValueSlice slice value trailing → value_after (slice ++ trailing)
    ≡ cut_as value trailing
value_read _ _ _ (missing trailing e) =
    cond-false (begins (61 ∷ []) (without_spaces trailing))
    (written_value (without_spaces (drop 1 (without_spaces trailing)))) (cut_as [] trailing) e
value_read _ _ _ (unquoted before spaced value trailing slice is spaces gap no_quote goes) =
    ap value_after (ap (λ l. l ++ trailing) is ∙ sym (without_quotes before spaced value trailing))
    ∙ equals_found before (spaced ++ (value ++ trailing)) (list_all-from_AllPass is_space before spaces)
    ∙ ap written_value (run_rest is_space spaced (value ++ trailing) gap) ∙ unquoted_read value trailing no_quote goes
value_read _ _ _ (quoted quote before spaced value trailing slice is spaces more quotes none) =
    let tail : List ℕ = value ++ quote ∷ trailing in
    ap value_after (ap (λ l. l ++ trailing) is ∙ sym (with_quotes quote before spaced value trailing))
    ∙ equals_found before (spaced ++ quote ∷ tail) (list_all-from_AllPass is_space before spaces)
    ∙ ap written_value (rest_past is_space spaced (quote ∷ tail) (list_all-from_AllPass is_space spaced more) ∙
    rest_off is_space quote tail (quote_no_space quote quotes))
    ∙ cond-true (is_quote quote) (cut (after (quote ∷ [])) tail)
    (cut_as (front_while is_unquoted (quote ∷ tail)) (rest_while is_unquoted (quote ∷ tail))) quotes
    ∙ quote_found quote value trailing (list_all-from_AllPass (λ c. not (c == quote)) value none)

-- ---- attributes, and the end of a tag

module _ (table : References) where
  attribute_read : (cs : List ℕ) (a : Attribute) (trailing : List ℕ) (h : IsAttributeSlice table cs a trailing) →
      attribute_at table h.first (h.others ++ h.slice ++ trailing) ≡ Some (a, trailing)
  attribute_read cs a trailing h =
      let p : ℕ → Bool = λ d. not (ends_attribute_name d) in
      let tail : List ℕ = h.others ++ (h.slice ++ trailing) in
      let make : List ℕ → Cut → Attribute × List ℕ =
      λ n k. (attribute (name_of (h.first ∷ n)) (value_of table k.slice), k.rest) in
      let with_value : List ℕ → Option (Attribute × List ℕ) =
      λ v. Some (attribute (name_of (h.first ∷ h.others)) v, trailing) in
      let with_it : Attribute → Option (Attribute × List ℕ) = λ x. Some (x, trailing) in
      ap (attribute_at table h.first) (append_assoc h.others h.slice trailing)
      ∙ ap (λ n. option_map (make n) (value_after (rest_while p tail)))
      (run_front p h.others (h.slice ++ trailing) h.goes_on)
      ∙ ap (λ r. option_map (make h.others) (value_after r)) (run_rest p h.others (h.slice ++ trailing) h.goes_on)
      ∙ ap (option_map (make h.others)) (value_read h.slice h.written trailing h.has_value)
      ∙ ap with_value (sym (value_only table h.written h.value h.is_value)) ∙ ap with_it (sym h.is)

  abbrev end_as : List Attribute → Bool → List ℕ → Option TagEnd
  end_as attributes closing rest = Some (record { attributes = attributes; self_closing = closing; rest = rest })

  -- over a gap
  gap_read : (gap text cs : List ℕ) → cs ≡ gap ++ text → IsRun is_gap gap text →
      tag_end table cs ≡ after_gap table (ends_with_slash gap) text (tag_end table)
  gap_read gap text cs e h =
      tag_end-step table cs ∙
      ap (λ l. after_gap table (ends_with_slash (front_while is_gap l)) (rest_while is_gap l) (tag_end table)) e
      ∙ ap (λ g. after_gap table (ends_with_slash g) (rest_while is_gap (gap ++ text)) (tag_end table))
      (run_front is_gap gap text h)
      ∙ ap (λ l. after_gap table (ends_with_slash gap) l (tag_end table)) (run_rest is_gap gap text h)

  begun : (c : ℕ) (tail trailing : List ℕ) (a : Attribute) (slash : Bool) → (c == 62) ≡ false →
      attribute_at table c tail ≡ Some (a, trailing)
      → after_gap table slash (c ∷ tail) (tag_end table) ≡ option_map (with_attribute a) (tag_end table trailing)
  begun c tail trailing a slash other read =
      let further : Option (Attribute × List ℕ) → Option TagEnd =
      λ o. option_and_then (λ r. option_map (with_attribute r.0) (tag_end table r.1)) o in
      cond-false (c == 62) (end_as [] slash tail) (further (attribute_at table c tail)) other ∙ ap further read

  end_read : (cs : List ℕ) (attributes : List Attribute) (closing : Bool) (rest : List ℕ) →
      AreWritten table cs attributes closing rest → tag_end table cs ≡ end_as attributes closing rest
  end_read _ _ _ _ (closes gap rest cs e pass) = gap_read gap (62 ∷ rest) cs e (record { pass = pass; stops = refl })
  end_read _ _ _ _ (has gap text trailing rest cs a others closing e pass h further) =
      let starts = or_parts (is_gap h.first) (h.first == 62) h.begins_name in
      gap_read gap text cs e (record { pass = pass; stops = ap (first_passes is_gap) h.side_by_side ∙ starts.0 })
      ∙ ap (λ l. after_gap table (ends_with_slash gap) l (tag_end table)) h.side_by_side
      ∙ begun h.first (h.others ++ h.slice ++ trailing) trailing a (ends_with_slash gap) starts.1
      (attribute_read text a trailing h)
      ∙ ap (option_map (with_attribute a)) (end_read trailing others closing rest further)

  pub tag_read : (kind : TagKind) (cs : List ℕ) (t : Tag) (rest : List ℕ) → IsTagSlice table kind cs t rest →
      tag_at table kind cs ≡ Some (t, rest)
  tag_read kind cs t rest h =
      let p : ℕ → Bool = λ c. not (ends_tag_name c) in
      let make : List ℕ → TagEnd → Tag × List ℕ = λ name end. (tag_of kind name end, end.rest) in
      let with_tag : Tag → Option (Tag × List ℕ) = λ x. Some (x, rest) in
      ap (tag_at table kind) h.side_by_side
      ∙ ap (λ n. option_map (make n) (tag_end table (rest_while p (h.name ++ h.trailing))))
      (run_front p h.name h.trailing h.is_name)
      ∙ ap (λ l. option_map (make h.name) (tag_end table l)) (run_rest p h.name h.trailing h.is_name)
      ∙ ap (option_map (make h.name)) (end_read h.trailing h.attributes h.closing rest h.are_written) ∙
      ap with_tag (sym h.is)
