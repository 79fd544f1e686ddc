-- How a mode takes characters, all white space or none, that it doesn't hand on.
use Rattle.std.specs.Prelude.{◌≡◌, ℕ, Bool, true, List, []}
use Rattle.tree_forest.specs.Orders.{IsIn}
use Rattle.rules_table.specs.ForeignContent.{is_by_mode}
use Rattle.rules_table.specs.InBody.{in_body_text}
use Rattle.rules_table.specs.Rows.{TextRow, dropped, is_white_space, kept, said_after, then_again}
use Rattle.rules_table.specs.State.{State, character}
use Rattle.rules_table.specs.Table.{text_row}
use Rattle.rules_table_laws.specs.declared.text_class.TextClass.{TextClass}
use Rattle.rules_table_laws.specs.declared.text_class.TextClass.TheVariants as classes

-- it hands them on
abbrev pub IsHandedOn : TextRow → Type 0
IsHandedOn dropped = ⊥
IsHandedOn (said_after actions) = ⊥
IsHandedOn kept = ⊥
IsHandedOn (then_again actions) = Unit {0}

abbrev pub IsOfClass : TextClass → (is_space : Bool) → TextRow → Type 0
IsOfClass classes.Dropped is_space row = row ≡ dropped
IsOfClass classes.Inserted is_space row = row ≡ said_after []
IsOfClass classes.InBody is_space row = row ≡ in_body_text is_space
IsOfClass classes.Kept is_space row = row ≡ kept
IsOfClass classes.HandedOn is_space row = IsHandedOn row

-- all of some characters are taken so
abbrev pub AreOfClass : TextClass → List ℕ → State → Type 0
AreOfClass class cs s =
    (c : ℕ) → IsIn c cs → IsOfClass class (is_white_space c) (text_row s.mode (is_white_space c) s)

-- the rules for HTML take characters
abbrev pub AreByMode : State → Type 0
AreByMode s = (c : ℕ) → is_by_mode (character c) s ≡ true

-- where they do, the mode does not hand them on
abbrev pub IsSettled : (is_space : Bool) → State → Type 0
IsSettled is_space s = AreByMode s → ¬ (IsHandedOn (text_row s.mode is_space s))
