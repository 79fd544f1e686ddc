-- The search for the earliest of the elements after the last marker that are alike.
use Rattle.std.proofs.Common.{◌≡◌, ◌+◌, ◌<◌, ◌≤◌, ◌==◌, ◌&&◌, [], ◌∷◌, ◌++◌, ◌∙◌, List, ap, ap₂, arith, cond, false}
use Rattle.std.proofs.Common.{length, refl, sym, true, ℕ}
use Rattle.std.specs.List.{remove}
use Rattle.std.proofs.lemmas.Bool.{and_from, and_right, cond-true, cond-false, eq-eqb, ne_eqb}
use Rattle.std.proofs.lemmas.Bool.Decides.{nat_tests}
use Rattle.std.proofs.lemmas.List.{append-nil, length-append, take_at}
use Rattle.std.proofs.lemmas.List.Edits.{remove-append_left}
use Rattle.std.proofs.lemmas.List.Sums.{sum_by-cons}
use Rattle.html_lexemes.specs.declared.token.Tag.{Tag}
use Rattle.tree_formatting.specs.Alike.{are_alike, count_alike, is_alike}
use Rattle.tree_formatting.specs.Entries.{Entry, entries_of, formatted, up_to_marker}
use Rattle.tree_formatting.specs.Found.{HasRoom, IsAtMarker, IsEarliest}
use Rattle.tree_formatting.specs.Pushing.{without_earliest}
use Rattle.tree_formatting.specs.declared.entry.FormatEntry.{FormatEntry}
use Rattle.tree_formatting.specs.declared.entry.FormatEntry.TheVariants.{Element}
use Rattle.tree_formatting.proofs.EntryLemmas.{entries_of-push}
use Rattle.tree_formatting.proofs.PlaceLemmas.{drop_after}

-- how many after the last marker are alike
abbrev pub heads : Tag → List Entry → ℕ
heads tag entries = count_alike tag (up_to_marker entries)

pub heads-cons : (tag : Tag) (n : ℕ) (held : Tag) (rest : List Entry) →
    heads tag (formatted n held ∷ rest) ≡ cond (are_alike held tag) 1 0 + heads tag rest
heads-cons tag n held rest = sum_by-cons (λ x. cond (is_alike tag x) 1 0) (formatted n held) (up_to_marker rest)

-- Some entries at the end are passed: so many of them are alike, and before the earliest of these stand so many.
pub record IsCounting {H : Type 0} (tag : Tag) (whole rest : List (FormatEntry H)) (alike earliest : ℕ) : Type 0 where
  pub room : alike + length rest ≤ length whole
  pub within : 0 < alike → earliest < length whole
  pub count : (number : H → ℕ) → heads tag (entries_of number whole) ≡ alike + heads tag (entries_of number rest)
  pub here : (number : H → ℕ) → 0 < alike → heads tag (entries_of number rest) ≡ 0 →
      entries_of number (remove whole earliest) ≡ without_earliest tag (entries_of number whole)
  pub further : (number : H → ℕ) (k : ℕ) → k < length rest → 0 < heads tag (entries_of number rest) →
      entries_of number (remove rest k) ≡ without_earliest tag (entries_of number rest) →
      entries_of number (remove whole k) ≡ without_earliest tag (entries_of number whole)

pub counting_begins : {H : Type 0} (tag : Tag) (whole : List (FormatEntry H)) → IsCounting tag whole whole 0 0
counting_begins tag whole = record {
  room = omega arith;
  within = λ h. absurd (omega arith);
  count = λ number. omega arith;
  here = λ number h e. absurd (omega arith);
  further = λ number k within h e. e;
}

module _ {H : Type 0} (tag : Tag) (whole rest before : List (FormatEntry H)) (alike earliest : ℕ) (h : H) (held : Tag)
    (last : rest ≡ before ++ Element h held ∷ []) (old : IsCounting tag whole rest alike earliest) where
  longer : length rest ≡ length before + 1
  longer = ap length last ∙ length-append before (Element h held ∷ [])

  shown : (number : H → ℕ) → entries_of number rest ≡ formatted (number h) held ∷ entries_of number before
  shown number = ap (entries_of number) last ∙ entries_of-push number before (Element h held)

  heads_more : (number : H → ℕ) →
      heads tag (entries_of number rest) ≡ cond (are_alike held tag) 1 0 + heads tag (entries_of number before)
  heads_more number = ap (heads tag) (shown number) ∙ heads-cons tag (number h) held (entries_of number before)

  removed_last : remove rest (length before) ≡ before
  removed_last = ap (λ v. remove v (length before)) last
      ∙ ap₂ (λ a b. a ++ b) (take_at before (Element h held ∷ []) (length before) refl)
      (drop_after before [] (Element h held) (length before) refl)
      ∙ append-nil before

  -- it goes on to one that stands further from the end
  passed : (number : H → ℕ) (k : ℕ) → k < length before → 0 < heads tag (entries_of number before) →
      entries_of number (remove before k) ≡ without_earliest tag (entries_of number before) →
      entries_of number (remove whole k) ≡ without_earliest tag (entries_of number whole)
  passed number k within some e = old.further number k (omega (arith, longer))
      (omega (arith, heads_more number))
      (ap (λ v. entries_of number (remove v k)) last
      ∙ ap (entries_of number) (remove-append_left before (Element h held ∷ []) k within)
      ∙ entries_of-push number (remove before k) (Element h held)
      ∙ ap (λ v. formatted (number h) held ∷ v) e
      ∙ sym (cond-false (are_alike held tag && (heads tag (entries_of number before) == 0)) _ _
      (and_right _ _ (ne_eqb (heads tag (entries_of number before)) 0 (λ z. absurd (omega (arith, z))))))
      ∙ ap (without_earliest tag) (sym (shown number)))

  pub counting_alike : are_alike held tag ≡ true → IsCounting tag whole before (alike + 1) (length before)
  counting_alike is =
      let one : ◌≡◌ {A = ℕ} (cond (are_alike held tag) 1 0) 1 = cond-true (are_alike held tag) 1 0 is in
      record {
        room = omega (arith, longer, old.room);
        within = λ p. omega (arith, longer, old.room);
        count = λ number. omega (arith, old.count number, heads_more number, one);
        here = λ number p none. old.further number (length before) (omega (arith, longer))
            (omega (arith, heads_more number, one))
            (ap (entries_of number) removed_last
            ∙ sym (cond-true (are_alike held tag && (heads tag (entries_of number before) == 0)) _ _
            (and_from _ _ is (eq-eqb (heads tag (entries_of number before)) 0 none)))
            ∙ ap (without_earliest tag) (sym (shown number)));
        further = passed;
      }

  pub counting_other : are_alike held tag ≡ false → IsCounting tag whole before alike earliest
  counting_other isnt =
      let none_more : ◌≡◌ {A = ℕ} (cond (are_alike held tag) 1 0) 0 = cond-false (are_alike held tag) 1 0 isnt in
      record {
        room = omega (arith, longer, old.room);
        within = old.within;
        count = λ number. omega (arith, old.count number, heads_more number, none_more);
        here = λ number p none. old.here number p (omega (arith, heads_more number, none_more));
        further = passed;
      }

pub many_found : {H : Type 0} (tag : Tag) (whole rest : List (FormatEntry H)) (alike earliest : ℕ) →
    IsCounting tag whole rest alike earliest → ((number : H → ℕ) → heads tag (entries_of number rest) ≡ 0) →
    2 < alike → IsEarliest tag whole earliest
many_found tag whole rest alike earliest old none some = record {
  within = old.within (omega arith);
  many = λ number. let e = old.count number in let z = none number in grind (arith, nat_tests);
  goes = λ number. old.here number (omega arith) (none number);
}

pub many : {H : Type 0} (tag : Tag) (whole rest : List (FormatEntry H)) (alike earliest : ℕ) →
    IsCounting tag whole rest alike earliest → IsAtMarker rest → 2 < alike → IsEarliest tag whole earliest
many tag whole rest alike earliest old end some =
    many_found tag whole rest alike earliest old (λ number. ap (count_alike tag) (end number)) some

-- all that there are were passed
pub many_passed : {H : Type 0} (tag : Tag) (whole rest : List (FormatEntry H)) (alike earliest most : ℕ) →
    IsCounting tag whole rest alike earliest → ((number : H → ℕ) → heads tag (entries_of number whole) ≤ most) →
    alike ≡ most → 2 < most → IsEarliest tag whole earliest
many_passed tag whole rest alike earliest most old within all some =
    many_found tag whole rest alike earliest old (λ number. omega (arith, old.count number, within number, all))
    (omega (arith, all, some))

pub few_within : {H : Type 0} (tag : Tag) (whole : List (FormatEntry H)) (most : ℕ) →
    ((number : H → ℕ) → heads tag (entries_of number whole) ≤ most) → most ≤ 2 → HasRoom tag whole
few_within tag whole most within some = λ number. let e = within number in grind (arith, nat_tests)

pub few : {H : Type 0} (tag : Tag) (whole rest : List (FormatEntry H)) (alike earliest : ℕ) →
    IsCounting tag whole rest alike earliest → IsAtMarker rest → alike ≤ 2 → HasRoom tag whole
few tag whole rest alike earliest old end some = λ number.
    let e = old.count number in
    let z = ap (count_alike tag) (end number) in
    grind (arith, nat_tests)
