-- The pending characters of a table: what is said of them needs none that are kept.
use Rattle.std.proofs.Common.{◌≡◌, ℕ, Bool, true, false, ◌&&◌, if◌then◌else◌, List, [], ◌∷◌, ◌++◌, refl, ap, ◌∙◌}
use Rattle.std.specs.List.{list_all}
use Rattle.rules_table.specs.Actions.{Action, act, act_all, forget_pending, foster, go_back, reconstruct}
use Rattle.rules_table.specs.Actions.{refuse_frameset, say}
use Rattle.rules_table.specs.Asking.{all_are}
use Rattle.rules_table.specs.InTable.{pending_said}
use Rattle.rules_table.specs.Rows.{is_white_space}
use Rattle.rules_table.specs.State.{State}

pub none_left : (s : State) {cs : List ℕ} → cs ≡ [] → record s { pending = cs } ≡ act forget_pending s
unfolding act
none_left s e = ap (λ (left : List ℕ). record s { pending = left }) e

-- the two ways to say the pending characters, by whether they are white space
abbrev said_by : Bool → List ℕ → List Action
said_by is_space cs = if is_space then say cs ∷ []
    else foster true ∷ reconstruct ∷ say cs ∷ refuse_frameset ∷ foster false ∷ []

-- They may be forgotten before they are said.
emitted_by : (is_space : Bool) (cs : List ℕ) (s : State) →
    act go_back (act_all (said_by is_space cs) (act forget_pending s))
    ≡ act_all (said_by is_space cs ++ forget_pending ∷ go_back ∷ []) s
unfolding act
emitted_by true cs s = refl
emitted_by false cs s = refl

pub pending_emitted : (cs : List ℕ) (old forgotten emitted new : State) → cs ≡ old.pending →
    forgotten ≡ act forget_pending old → emitted ≡ act_all (pending_said cs) forgotten → new ≡ act go_back emitted →
    new ≡ act_all (pending_said old.pending ++ forget_pending ∷ go_back ∷ []) old
pending_emitted cs old forgotten emitted new is forgets emits ends =
    ends ∙ (ap (act go_back) (emits ∙ ap (act_all (pending_said cs)) forgets)
    ∙ (emitted_by (all_are is_white_space cs) cs old
    ∙ ap (λ (xs : List ℕ). act_all (pending_said xs ++ forget_pending ∷ go_back ∷ []) old) is))

-- the two words for "all"
one_more : (x : Bool) {a b : Bool} → a ≡ b → x && a ≡ (if x then b else false)
one_more true e = e
one_more false e = refl

pub all_alike : (holds : ℕ → Bool) (cs : List ℕ) → list_all holds cs ≡ all_are holds cs
all_alike holds [] = refl
all_alike holds (c ∷ cs) = one_more (holds c) (all_alike holds cs)
