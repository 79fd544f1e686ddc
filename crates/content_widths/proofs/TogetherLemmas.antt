-- What stands together, read character by character.
use Rattle.std.proofs.Common.{◌≡◌, ◌+◌, ◌≤◌, [], ◌∷◌, ◌++◌, ◌∙◌, Bool, List, ap, append-nil, append_assoc}
use Rattle.std.proofs.Common.{arith, false, max, refl, sym, true, ℕ}
use Rattle.std.specs.Prelude.{if◌then◌else◌}
use Rattle.text_lines.specs.Columns.{width_of}
use Rattle.text_pieces.specs.Sources.{is_break_point}
use Rattle.content_widths.specs.Flows.{capped}
use Rattle.content_widths.specs.Reading.{IsTogether}
use Rattle.content_widths.specs.Texts.{front_columns, narrowest_of}
use Rattle.content_widths.specs.declared.together.Together.{Together}

front_within : (ds : List ℕ) → front_columns ds ≤ narrowest_of ds
front_within [] = omega arith
front_within (d ∷ ds) = omega arith

begins : (f n : ℕ) → f ≤ n → capped n ≡ capped (max 0 (max (0 + f) n))
begins f n h = omega arith

pub nothing_together : IsTogether (record { greatest = 0; run = 0 }) []
nothing_together = record { gives = λ ds. begins (front_columns ds) (narrowest_of ds) (front_within ds) }

over_break : (g r f n : ℕ) → f ≤ n → capped (max g (max (r + 0) (max 0 n)))
    ≡ capped (max (capped (max g r)) (max (0 + f) n))
over_break g r f n h = omega arith

over_letter : (g r w f n : ℕ) → capped (max g (max (r + (w + f)) (max (w + f) n)))
    ≡ capped (max g (max (capped (r + w) + f) n))
over_letter g r w f n = omega arith

after_front : (g r front c : ℕ) (ds : List ℕ) (b : Bool) → is_break_point c ≡ b
    → (if b then 0 else width_of c + front_columns ds) ≡ front
    → capped (max g (max (r + front_columns (c ∷ ds)) (narrowest_of (c ∷ ds))))
    ≡ capped (max g (max (r + front) (max front (narrowest_of ds))))
after_front g r front c ds b e is =
    ap (λ x. capped (max g (max (r + x) (max x (narrowest_of ds)))))
    (ap (λ k. if k then 0 else width_of c + front_columns ds) e ∙ is)

whole : (cs ds : List ℕ) (c : ℕ) → capped (narrowest_of ((cs ++ c ∷ []) ++ ds)) ≡ capped (narrowest_of (cs ++ c ∷ ds))
whole cs ds c = ap (λ xs. capped (narrowest_of xs)) (append_assoc cs (c ∷ []) ds)

pub together_after_break : (t : Together) (cs : List ℕ) (c greatest : ℕ) → is_break_point c ≡ true
    → greatest ≡ capped (max t.greatest t.run) → IsTogether t cs
    → IsTogether (record { greatest = greatest; run = 0 }) (cs ++ c ∷ [])
together_after_break t cs c greatest e is h = record {
  gives = λ ds.
      whole cs ds c ∙ h.gives (c ∷ ds)
      ∙ after_front t.greatest t.run 0 c ds true e refl
      ∙ over_break t.greatest t.run (front_columns ds) (narrowest_of ds) (front_within ds)
      ∙ ap (λ g. capped (max g (max (0 + front_columns ds) (narrowest_of ds)))) (sym is);
}

pub together_after_letter : (t : Together) (cs : List ℕ) (c columns run : ℕ) → is_break_point c ≡ false
    → columns ≡ width_of c → run ≡ capped (t.run + columns) → IsTogether t cs
    → IsTogether (record { greatest = t.greatest; run = run }) (cs ++ c ∷ [])
together_after_letter t cs c columns run e width is h = record {
  gives = λ ds.
      whole cs ds c ∙ h.gives (c ∷ ds)
      ∙ after_front t.greatest t.run (width_of c + front_columns ds) c ds false e refl
      ∙ over_letter t.greatest t.run (width_of c) (front_columns ds) (narrowest_of ds)
      ∙ ap (λ r. capped (max t.greatest (max (r + front_columns ds) (narrowest_of ds))))
      (ap (λ w. capped (t.run + w)) (sym width) ∙ sym is);
}

at_end : (g r : ℕ) → capped (max g (max (r + 0) 0)) ≡ capped (max g r)
at_end g r = omega arith

-- where the text ends
pub all_together : (t : Together) (cs : List ℕ) → IsTogether t cs
    → capped (max t.greatest t.run) ≡ capped (narrowest_of cs)
all_together t cs h =
    sym (at_end t.greatest t.run) ∙ sym (h.gives [])
    ∙ ap (λ xs. capped (narrowest_of xs)) (append-nil cs)
