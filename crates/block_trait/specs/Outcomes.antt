-- How a call of a renderer that may be refused ends.
use Rattle.std.specs.Prelude.{◌≡◌, ◌⊎◌, Bool, true, false, is_err, Result, Err, IfOk, IfErr, OnOk}
use Rattle.text_pieces.specs.declared.fault.BlockError.{BlockError}
use Rattle.text_pieces.specs.declared.fault.BlockError.TheVariants.{TooNarrow, Memory, Failed}

-- After a refusal every call is refused as `Failed`; before it a call is done, or too narrow, or an allocation fails.
pub record IsOutcome (result : Result Unit BlockError) (before trailing : Bool) (Done Never : Type 0) : Type 0 where
  pub refused : is_err result ≡ trailing
  pub failed : before ≡ true → result ≡ Err Failed
  pub kinds : before ≡ false → IfErr result (λ e. (e ≡ TooNarrow) ⊎ (e ≡ Memory))
  pub done : OnOk result Done
  pub narrow : result ≡ Err TooNarrow → Never

-- A call that answers something leaves the renderer as it was, but that it may have failed.
pub record IsAnswered {A : Type 0} (result : Result A BlockError) (before trailing : Bool) (Stays : Type 0)
    (Is : A → Type 0) : Type 0 where
  pub refused : is_err result ≡ trailing
  pub failed : before ≡ true → result ≡ Err Failed
  pub kinds : before ≡ false → IfErr result (λ e. e ≡ Memory)
  pub stays : Stays
  pub answer : IfOk result Is
