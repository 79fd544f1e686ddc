use Rattle.dom_styles.proofs.FunctionLemmas.{cascade_holds, cascaded_is}
use Rattle.dom_styles.proofs.laws.the_cascade_is_a_function.Goals as goal

pub returns-clause-one : goal.returns-clause-one
returns-clause-one g c = λ ds one. cascaded_is ds one

pub returns-clause-holds : goal.returns-clause-holds
returns-clause-holds g c = λ ds. cascade_holds ds
