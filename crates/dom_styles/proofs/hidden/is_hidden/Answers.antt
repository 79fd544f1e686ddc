use Rattle.std.proofs.Common.{Bor, ap}
use Rattle.std.specs.Prelude.{is_some}
use Rattle.dom_styles.specs.declared.rules.Display.{Display}
use Rattle.dom_styles.proofs.FunctionLemmas.{given, hidden_is}
use Rattle.dom_styles.proofs.hidden.is_hidden.Goals as goal

pub returns : goal.returns
returns c = λ name rules computed.
    cc (
      c.is_some.ensures,
      given (λ (t : Bor Display). t.now) c.val.result,
      ap is_some c.val.ensures,
      hidden_is name rules c.args.style.now computed,
    )
