use Rattle.std.proofs.Common.{sym, ◌∙◌}
use Rattle.rtlil_lex.proofs.FirstBytes.{kind_is}
use Rattle.rtlil_lex.proofs.laws.one_form.Goals as goal

pub returns : goal.returns
returns c = λ k l s x y. sym (kind_is k s x) ∙ kind_is l s y
