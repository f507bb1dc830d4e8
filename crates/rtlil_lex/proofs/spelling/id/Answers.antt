use Rattle.std.proofs.Common.{inl, refl, ap, arith, sym, ◌∙◌}
use Rattle.std.specs.List.{prefix_len}
use Rattle.std.proofs.lemmas.List.{take_rest}
use Rattle.rtlil_lex.specs.Bytes.{is_name_byte}
use Rattle.rtlil_lex.specs.Next.{IsNext}
use Rattle.rtlil_lex.proofs.Longest.{id_next, id_none}
use Rattle.rtlil_lex.proofs.spelling.id.Goals as goal

pub returns-in-0 : goal.returns-in-0
unfolding IsNext
returns-in-0 c = inl (refl, id_none c.args.bytes.now c.requires (sym c.in-0.is ∙ c.name.ensures.run ∙ ap (prefix_len is_name_byte) (take_rest c.args.bytes.now 1)))

pub returns-in_default : goal.returns-in_default
unfolding IsNext
returns-in_default c = id_next c.args.bytes.now _ c.requires (c.name.ensures.run ∙ ap (prefix_len is_name_byte) (take_rest c.args.bytes.now 1)) (omega arith)
