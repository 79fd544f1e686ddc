-- What a mark comes to where templates are open in front of the body.
use Rattle.std.proofs.Common.{◌≡◌, ◌≤◌, ◌+◌, if◌then◌else◌, Bool, ap, arith, false, length, refl, subst, suc, sym, true}
use Rattle.std.proofs.Common.{ℕ}
use Rattle.html_tree_state.specs.Building.{Building}
use Rattle.page_tree_laws.proofs.EarlyPhases.{Comes}
use Rattle.page_tree_laws.proofs.EvenRows.{IsEvenRow, is_no_template}
use Rattle.page_tree_laws.proofs.Fits.{Closes, FitsRow, IsHeld}
use Rattle.page_tree_laws.proofs.FittingTexts.{collected_fits}
use Rattle.page_tree_laws.proofs.GuardKinds.{AreApart, template_guard}
use Rattle.page_tree_laws.proofs.Phases.{template_open}
use Rattle.page_tree_laws.proofs.Steady.{Keeps, all_refused, row_keeps}
use Rattle.page_tree_laws.proofs.TemplateCounts.{guarded_present, templates_in}
use Rattle.page_tree_laws.proofs.TemplateSteps.{all_none, own_is, own_reset}
use Rattle.tree_names.specs.declared.group.TagGroup.{TagGroup}
use Rattle.tree_names.specs.declared.group.TagGroup.TheVariants as groups
use Rattle.rules_table.specs.Actions.{act_all, is_of_text, is_text}
use Rattle.rules_table.specs.Rows.{Row, again, asks, done}
use Rattle.rules_table.specs.Settling.{entered}
use Rattle.rules_table.specs.State.{Ask, State, TreeToken, character, comment, doctype, encoding, end_of_file, finish}
use Rattle.rules_table.specs.State.{nothing, null, plaintext, raw, script, start}
use Rattle.rules_table.specs.Table.{row}
use Rattle.tree_predicates.specs.declared.modes.InsertionMode.TheVariants as modes

none : {A : Type 0} → false ≡ true → A
none e = absurd (cc)

-- after what is asked for the tree, its flags and the modes of templates are what they were
entered_tree : (ask : Ask) (s : State) → (entered ask s).tree ≡ s.tree
entered_tree nothing s = refl
entered_tree plaintext s = refl
entered_tree (raw kind) s = refl
entered_tree (script n) s = refl
entered_tree (encoding name) s = refl

entered_refused : (ask : Ask) (s : State) → s.frameset_ok ≡ false → (entered ask s).frameset_ok ≡ false
entered_refused nothing s e = e
entered_refused plaintext s e = e
entered_refused (raw kind) s e = e
entered_refused (script n) s e = e
entered_refused (encoding name) s e = e

entered_modes : (ask : Ask) (s : State) → (entered ask s).template_modes ≡ s.template_modes
entered_modes nothing s = refl
entered_modes plaintext s = refl
entered_modes (raw kind) s = refl
entered_modes (script n) s = refl
entered_modes (encoding name) s = refl

fewer_still : (x y k m : ℕ) → x ≤ y → y ≤ k → k ≡ m → x ≤ m
fewer_still x y k m h i e = omega (arith, h, i, e)

-- how many templates are open, at most as many as have modes
abbrev pub AreCounted : State → Type 0
AreCounted s = templates_in s.tree.forest s.tree.stack ≤ length s.template_modes

pub counted_on : (s u : State) → (templates_in u.tree.forest u.tree.stack ≤ templates_in s.tree.forest s.tree.stack)
    × (u.template_modes ≡ s.template_modes) → AreCounted s → AreCounted u
counted_on s u is counted = fewer_still (templates_in u.tree.forest u.tree.stack)
    (templates_in s.tree.forest s.tree.stack) (length s.template_modes) (length u.template_modes) is.0 counted
    (ap length (sym is.1))

module _ (is_framed : Bool) (in_head : Bool) (root head top : ℕ) (apart : AreApart root head top) where
  -- what is even and fits keeps templates open
  even_keeps : (r : Row) (s : State) → IsEvenRow r → Keeps (template_guard in_head root head top)
      (own_is in_head root head top apart) (own_reset in_head root head top apart) s r →
      IsHeld (template_guard in_head root head top) s → s.frameset_ok ≡ false → AreCounted s → Comes is_framed s r
  even_keeps (done actions) s even keeps held refused counted = template_open in_head root head top apart keeps
      (all_refused actions s refused)
      (counted_on s (act_all actions s)
      (all_none actions s even (guarded_present (template_guard in_head root head top) s.tree held.tree)) counted)
  even_keeps (asks ask actions) s even keeps held refused counted =
      let now = counted_on s (act_all actions s)
      (all_none actions s even (guarded_present (template_guard in_head root head top) s.tree held.tree)) counted
      in
      template_open in_head root head top apart keeps
      (entered_refused ask (act_all actions s) (all_refused actions s refused))
      (counted_on (act_all actions s) (entered ask (act_all actions s))
      (same_counts (entered_tree ask (act_all actions s)), entered_modes ask (act_all actions s)) now) where
        same_counts : {b d : Building} → d ≡ b → templates_in d.forest d.stack ≤ templates_in b.forest b.stack
        same_counts {b} {d} e = subst (λ (k : Building). templates_in k.forest k.stack ≤ templates_in b.forest b.stack)
            (sym e) (itself (templates_in b.forest b.stack)) where
              itself : (x : ℕ) → x ≤ x
              itself x = omega arith
  even_keeps (again actions) s even keeps held refused counted = template_open in_head root head top apart keeps
      (all_refused actions s refused)
      (counted_on s (act_all actions s)
      (all_none actions s even (guarded_present (template_guard in_head root head top) s.tree held.tree)) counted)

  pub calm_comes : (r : Row) (s : State) → IsEvenRow r → FitsRow (template_guard in_head root head top) s r →
      IsHeld (template_guard in_head root head top) s → is_text s.mode ≡ false → s.frameset_ok ≡ false →
      AreCounted s → Comes is_framed s r
  calm_comes r s even fit held off refused counted = even_keeps r s even
      (row_keeps (template_guard in_head root head top) (own_is in_head root head top apart)
      (own_reset in_head root head top apart) r s fit held off) held refused counted

  -- a table's text is collected
  pub collected_row : (mark : TreeToken) (s : State) → s.mode ≡ modes.InTableText →
      FitsRow (template_guard in_head root head top) s (row modes.InTableText mark s)
  collected_row (character c) s at = (tt, tt)
  collected_row null s at = tt
  collected_row (comment cs) s at = collected_fits (template_guard in_head root head top) s refl (ap is_of_text at)
  collected_row (doctype d) s at = collected_fits (template_guard in_head root head top) s refl (ap is_of_text at)
  collected_row (start t) s at = collected_fits (template_guard in_head root head top) s refl (ap is_of_text at)
  collected_row (finish t) s at = collected_fits (template_guard in_head root head top) s refl (ap is_of_text at)
  collected_row end_of_file s at = collected_fits (template_guard in_head root head top) s refl (ap is_of_text at)

  -- calm marks in the other modes
  pub closes_calm : (group : TagGroup) (s : State) → is_no_template group ≡ true →
      Closes (template_guard in_head root head top) s group
  closes_calm groups.Template s calm = none calm
  closes_calm group s calm = tt

  -- a template more is opened
  pub opens_one : (b : Bool) (x y k : ℕ) → x ≤ y → y ≤ k → (if b then 1 else 0) + x ≤ suc k
  opens_one true x y k h i = omega (arith, h, i)
  opens_one false x y k h i = omega (arith, h, i)
