-- The pieces of a tag, put side by side, are its slice.
use Rattle.std.proofs.Common.{◌≡◌, ◌==◌, ◌&&◌, ◌||◌, [], ◌∷◌, ◌++◌, ◌∙◌, Bool, List, None, Option, Some, ap}
use Rattle.std.proofs.Common.{append_assoc, cond, drop, false, length, not, option_and_then, option_map, refl, subst}
use Rattle.std.proofs.Common.{suc, sym, true, zero, ℕ}
use Rattle.std.proofs.lemmas.Bool.{and_from, and_parts, eqb-true, false≢true, or_from}
use Rattle.std.proofs.lemmas.List.Sums.{AllPass-from_list_all}
use Rattle.std.proofs.lemmas.Option.{none-some, same_Some}
use Rattle.std.specs.List.{list_all}
use Rattle.lex_base.specs.References.{References}
use Rattle.html_lexemes.specs.declared.names.Attribute.{Attribute}
use Rattle.html_lexemes.specs.declared.token.Tag.{Tag}
use Rattle.html_lexemes.specs.declared.token.TagKind.{TagKind}
use Rattle.token_grammar.specs.Characters.{is_space, name_of}
use Rattle.token_grammar.specs.Doctypes.{is_quote}
use Rattle.token_grammar.specs.References.{value_of}
use Rattle.token_grammar.specs.Slices.{Cut, after, begins, cut, cut_here, first_passes, front_while, longer, rest_while}
use Rattle.token_grammar.specs.TagLaws.{AreWritten, IsAttributeSlice, IsRun, IsTagSlice, IsValueSlice, closes, has}
use Rattle.token_grammar.specs.TagLaws.{missing, quoted, unquoted}
use Rattle.token_grammar.specs.Tags.{TagEnd, after_gap, attribute, attribute_at, ends_attribute_name, ends_tag_name}
use Rattle.token_grammar.specs.Tags.{ends_unquoted, ends_with_slash, is_gap, tag_at, tag_end, tag_end_from, tag_of}
use Rattle.token_grammar.specs.Tags.{value_after, with_attribute, without_spaces, written_value}
use Rattle.token_grammar.proofs.ValuesInTurn.{value_is}

-- ---- what is there was made of something

record IsMapped {X Y : Type 0} (f : X → Y) (o : Option X) (y : Y) : Type 0 where
  from : X
  there : o ≡ Some from
  made : f from ≡ y

mapped : {X Y : Type 0} (f : X → Y) (o : Option X) (y : Y) → option_map f o ≡ Some y → IsMapped f o y
mapped f None y e = absurd (none-some y e)
mapped f (Some x) y e = record { from = x; there = refl; made = same_Some (f x) y e }

record IsThen {X Y : Type 0} (f : X → Option Y) (o : Option X) (y : Y) : Type 0 where
  from : X
  there : o ≡ Some from
  made : f from ≡ Some y

then_made : {X Y : Type 0} (f : X → Option Y) (o : Option X) (y : Y) → option_and_then f o ≡ Some y → IsThen f o y
then_made f None y e = absurd (none-some y e)
then_made f (Some x) y e = record { from = x; there = refl; made = e }

-- ---- runs

pub split : (p : ℕ → Bool) (cs : List ℕ) → cs ≡ front_while p cs ++ rest_while p cs
split p [] = refl
split p (c ∷ cs) = at (p c) (split p cs) where
  at : (b : Bool) → cs ≡ front_while p cs ++ rest_while p cs →
      c ∷ cs ≡ cond b (c ∷ front_while p cs) [] ++ cond b (rest_while p cs) (c ∷ cs)
  at true h = ap (λ l. c ∷ l) h
  at false h = refl

front_passes : (p : ℕ → Bool) (cs : List ℕ) → list_all p (front_while p cs) ≡ true
front_passes p [] = refl
front_passes p (c ∷ cs) = at (p c) refl (front_passes p cs) where
  at : (b : Bool) → p c ≡ b → list_all p (front_while p cs) ≡ true → list_all p (cond b (c ∷ front_while p cs) [])
      ≡ true
  at true e h = and_from (p c) _ e h
  at false e h = refl

rest_stops : (p : ℕ → Bool) (cs : List ℕ) → first_passes p (rest_while p cs) ≡ false
rest_stops p [] = refl
rest_stops p (c ∷ cs) = at (p c) refl (rest_stops p cs) where
  at : (b : Bool) → p c ≡ b → first_passes p (rest_while p cs) ≡ false →
      first_passes p (cond b (rest_while p cs) (c ∷ cs)) ≡ false
  at true e h = h
  at false e h = e

run : (p : ℕ → Bool) (cs : List ℕ) → IsRun p (front_while p cs) (rest_while p cs)
run p cs = record { pass = AllPass-from_list_all p (front_while p cs) (front_passes p cs); stops = rest_stops p cs }

-- the first of a run is the text's first
first_of_front : (p q : ℕ → Bool) (c : ℕ) (cs : List ℕ) → q c ≡ false → first_passes q (front_while p (c ∷ cs)) ≡ false
first_of_front p q c cs e = at (p c) where
  at : (b : Bool) → first_passes q (cond b (c ∷ front_while p cs) []) ≡ false
  at true = e
  at false = refl

-- ---- quotes

record IsQuoted (quote : ℕ) (cs : List ℕ) (k : Cut) : Type 0 where
  whole : cs ≡ k.slice ++ quote ∷ k.rest
  none : list_all (λ c. not (c == quote)) k.slice ≡ true

up_to_quote : (quote : ℕ) (cs : List ℕ) (k : Cut) → cut (after (quote ∷ [])) cs ≡ Some k → IsQuoted quote cs k
up_to_quote quote [] k e = absurd (none-some k e)
up_to_quote quote (c ∷ cs) k e = at (c == quote) refl (up_to_quote quote cs) e where
  at : (b : Bool) → (c == quote) ≡ b → ((d : Cut) → cut (after (quote ∷ [])) cs ≡ Some d → IsQuoted quote cs d)
      → cut_here c (cond (b && true) (Some cs) None) (cut (after (quote ∷ [])) cs) ≡ Some k → IsQuoted quote (c ∷ cs) k
  at true same h is =
      let here : Cut = record { slice = []; rest = cs } in
      subst (IsQuoted quote (c ∷ cs)) (same_Some here k is)
      (record { whole = ap (λ d. d ∷ cs) (eqb-true c quote same); none = refl })
  at false other h is =
      let m = mapped (longer c) (cut (after (quote ∷ [])) cs) k is in
      let d = h m.from m.there in
      subst (IsQuoted quote (c ∷ cs)) m.made (record {
        whole = ap (λ l. c ∷ l) d.whole;
        none = and_from (not (c == quote)) _ (ap not other) d.none;
      })

-- ---- values

record HasSlice (cs : List ℕ) (k : Cut) : Type 0 where
  slice : List ℕ
  whole : cs ≡ slice ++ k.rest
  is : IsValueSlice slice k.slice k.rest

abbrev is_unquoted : ℕ → Bool
is_unquoted c = not (ends_unquoted c)

pub without_quotes : (before after value trailing : List ℕ) → before ++ 61 ∷ (after ++ (value ++ trailing))
    ≡ (before ++ 61 ∷ after ++ value) ++ trailing
without_quotes before after value trailing = simp append_assoc

pub with_quotes : (quote : ℕ) (before after value trailing : List ℕ) →
    before ++ 61 ∷ (after ++ quote ∷ (value ++ quote ∷ trailing)) ≡ (before ++ 61 ∷ after ++ quote ∷ value ++ quote ∷ [])
    ++ trailing
with_quotes quote before after value trailing = simp append_assoc

module _ (cs before tail spaced : List ℕ) (k : Cut) (text_is : cs ≡ before ++ 61 ∷ tail)
    (spaces : list_all is_space before ≡ true) where
  no_quotes : (value trailing : List ℕ) → tail ≡ spaced ++ (value ++ trailing) → IsRun is_space spaced (value ++ trailing) →
      first_passes is_quote value ≡ false → IsRun is_unquoted value trailing
      → HasSlice cs (record { slice = value; rest = trailing })
  no_quotes value trailing e gap no_quote goes = record {
    slice = before ++ 61 ∷ spaced ++ value;
    whole = text_is ∙ ap (λ l. before ++ 61 ∷ l) e ∙ without_quotes before spaced value trailing;
    is = unquoted before spaced value trailing (before ++ 61 ∷ spaced ++ value) refl
        (AllPass-from_list_all is_space before spaces) gap no_quote goes;
  }

  between_quotes : (c : ℕ) (more : List ℕ) → tail ≡ spaced ++ c ∷ more → IsRun is_space spaced (c ∷ more) →
      is_quote c ≡ true → IsQuoted c more k → HasSlice cs k
  between_quotes c more e gap quote h = record {
    slice = before ++ 61 ∷ spaced ++ c ∷ k.slice ++ c ∷ [];
    whole = text_is ∙ ap (λ l. before ++ 61 ∷ l) (e ∙ ap (λ l. spaced ++ c ∷ l) h.whole) ∙
        with_quotes c before spaced k.slice k.rest;
    is = quoted c before spaced k.slice k.rest (before ++ 61 ∷ spaced ++ c ∷ k.slice ++ c ∷ []) refl
        (AllPass-from_list_all is_space before spaces) gap.pass quote
        (AllPass-from_list_all (λ d. not (d == c)) k.slice h.none);
  }

  after_equals : (v : List ℕ) → tail ≡ spaced ++ v → IsRun is_space spaced v → written_value v ≡ Some k → HasSlice cs k
  after_equals [] e gap is =
      let nothing : Cut = record { slice = []; rest = [] } in
      subst (HasSlice cs) (same_Some nothing k is) (no_quotes [] [] e gap refl (run is_unquoted []))
  after_equals (c ∷ more) e gap is = at (is_quote c) refl is where
    at : (b : Bool) → is_quote c ≡ b
        → cond b (cut (after (c ∷ [])) more)
        (Some (record { slice = front_while is_unquoted (c ∷ more); rest = rest_while is_unquoted (c ∷ more) }))
        ≡ Some k → HasSlice cs k
    at true quote h = between_quotes c more e gap quote (up_to_quote c more k h)
    at false other h =
        let read : Cut =
        record { slice = front_while is_unquoted (c ∷ more); rest = rest_while is_unquoted (c ∷ more) } in
        let parts : c ∷ more ≡ front_while is_unquoted (c ∷ more) ++ rest_while is_unquoted (c ∷ more) =
        split is_unquoted (c ∷ more) in
        subst (HasSlice cs) (same_Some read k h)
        (no_quotes (front_while is_unquoted (c ∷ more)) (rest_while is_unquoted (c ∷ more))
        (e ∙ ap (λ l. spaced ++ l) parts) (subst (IsRun is_space spaced) parts gap)
        (first_of_front is_unquoted is_quote c more other) (run is_unquoted (c ∷ more)))

value_slice : (cs : List ℕ) (k : Cut) → value_after cs ≡ Some k → HasSlice cs k
value_slice cs k e = at (without_spaces cs) (begins (61 ∷ []) (without_spaces cs)) refl refl e where
  at : (more : List ℕ) (b : Bool) → without_spaces cs ≡ more → begins (61 ∷ []) more ≡ b
      → cond b (written_value (without_spaces (drop 1 more))) (Some (record { slice = []; rest = cs })) ≡ Some k →
      HasSlice cs k
  at more false is test h =
      let nothing : Cut = record { slice = []; rest = cs } in
      subst (HasSlice cs) (same_Some nothing k h) (record {
        slice = [];
        whole = refl;
        is = missing cs (ap (begins (61 ∷ [])) is ∙ test);
      })
  at [] true is test h = absurd (false≢true test)
  at (c ∷ tail) true is test h =
      let equal : c ≡ 61 = eqb-true c 61 (and_parts (c == 61) true test).0 in
      let whole : cs ≡ front_while is_space cs ++ 61 ∷ tail =
      split is_space cs ∙ ap (λ l. front_while is_space cs ++ l) (is ∙ ap (λ d. d ∷ tail) equal) in
      after_equals cs (front_while is_space cs) tail (front_while is_space tail) k whole (front_passes is_space cs)
      (rest_while is_space tail) (split is_space tail) (run is_space tail) h

-- ---- attributes, and the end of a tag

module _ (table : References) where
  side_by_side : (c : ℕ) (name slice trailing rest cs : List ℕ) → cs ≡ name ++ rest → rest ≡ slice ++ trailing →
      c ∷ cs ≡ c ∷ name ++ slice ++ trailing
  side_by_side c name slice trailing rest cs e f =
      ap (λ l. c ∷ l) (e ∙ ap (λ l. name ++ l) f ∙ sym (append_assoc name slice trailing))

  attribute_slice : (c : ℕ) (cs : List ℕ) (read : Attribute × List ℕ) → (is_gap c || c == 62) ≡ false →
      attribute_at table c cs ≡ Some read → IsAttributeSlice table (c ∷ cs) read.0 read.1
  attribute_slice c cs read begun e =
      let p : ℕ → Bool = λ d. not (ends_attribute_name d) in
      let make : Cut → Attribute × List ℕ =
      λ k. (attribute (name_of (c ∷ front_while p cs)) (value_of table k.slice), k.rest) in
      let m = mapped make (value_after (rest_while p cs)) read e in
      let h = value_slice (rest_while p cs) m.from m.there in
      subst (λ (r : Attribute × List ℕ). IsAttributeSlice table (c ∷ cs) r.0 r.1) m.made
      (record {
        first = c;
        others = front_while p cs;
        slice = h.slice;
        written = m.from.slice;
        value = value_of table m.from.slice;
        side_by_side = side_by_side c (front_while p cs) h.slice m.from.rest (rest_while p cs) cs (split p cs) h.whole;
        begins_name = begun;
        goes_on = subst (IsRun p (front_while p cs)) h.whole (run p cs);
        has_value = h.is;
        is_value = value_is table m.from.slice;
        is = refl;
      })

  abbrev IsEnd : List ℕ → TagEnd → Type 0
  IsEnd cs end = AreWritten table cs end.attributes end.self_closing end.rest

  module _ (gap cs : List ℕ) (further : List ℕ → Option TagEnd) (end : TagEnd) (pass : list_all is_gap gap ≡ true)
      (on : (ds : List ℕ) (d : TagEnd) → further ds ≡ Some d → IsEnd ds d) where
    at_gap : (more : List ℕ) → cs ≡ gap ++ more → first_passes is_gap more ≡ false →
        after_gap table (ends_with_slash gap) more further ≡ Some end → IsEnd cs end
    at_gap [] whole stops e = absurd (none-some end e)
    at_gap (c ∷ tail) whole stops e = at (c == 62) refl e where
      at : (b : Bool) → (c == 62) ≡ b
          → cond b (Some (record { attributes = []; self_closing = ends_with_slash gap; rest = tail }))
          (option_and_then (λ read. option_map (with_attribute read.0) (further read.1))
          (attribute_at table c tail)) ≡ Some end
          → IsEnd cs end
      at true same h =
          let closed : TagEnd = record { attributes = []; self_closing = ends_with_slash gap; rest = tail } in
          subst (IsEnd cs) (same_Some closed end h)
          (closes gap tail cs (whole ∙ ap (λ d. gap ++ d ∷ tail) (eqb-true c 62 same))
          (AllPass-from_list_all is_gap gap pass))
      at false other h =
          let read =
          then_made (λ (read : Attribute × List ℕ). option_map (with_attribute read.0) (further read.1))
          (attribute_at table c tail) end h in
          let later = mapped (with_attribute read.from.0) (further read.from.1) end read.made in
          subst (IsEnd cs) later.made
          (has gap (c ∷ tail) read.from.1 later.from.rest cs read.from.0 later.from.attributes later.from.self_closing
          whole (AllPass-from_list_all is_gap gap pass)
          (attribute_slice c tail read.from (or_from (is_gap c) (c == 62) stops other) read.there)
          (on read.from.1 later.from later.there))

  written : (n : ℕ) (cs : List ℕ) (end : TagEnd) → tag_end_from table n cs ≡ Some end → IsEnd cs end
  written zero cs end e = absurd (none-some end e)
  written (suc n) cs end e =
      at_gap (front_while is_gap cs) cs (tag_end_from table n) end (front_passes is_gap cs) (written n)
      (rest_while is_gap cs) (split is_gap cs) (rest_stops is_gap cs) e

  pub tag_slice : (kind : TagKind) (cs : List ℕ) (t : Tag) (rest : List ℕ) → tag_at table kind cs ≡ Some (t, rest) →
      IsTagSlice table kind cs t rest
  tag_slice kind cs t rest e =
      let p : ℕ → Bool = λ c. not (ends_tag_name c) in
      let make : TagEnd → Tag × List ℕ = λ end. (tag_of kind (front_while p cs) end, end.rest) in
      let m = mapped make (tag_end table (rest_while p cs)) (t, rest) e in
      subst (λ (r : Tag × List ℕ). IsTagSlice table kind cs r.0 r.1) m.made
      (record {
        name = front_while p cs;
        trailing = rest_while p cs;
        attributes = m.from.attributes;
        closing = m.from.self_closing;
        side_by_side = split p cs;
        is_name = run p cs;
        are_written = written (suc (length (rest_while p cs))) (rest_while p cs) m.from m.there;
        is = refl;
      })
